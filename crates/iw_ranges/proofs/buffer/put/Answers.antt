use Rattle.std.proofs.Common.{◌≡◌, ◌+◌, ◌-◌, ℕ, List, length, arith, ap, ◌∙◌, max, min, vec_len}
use Rattle.iw_ranges.specs.declared.spans.Span.{Span}
use Rattle.iw_ranges.specs.Spans.{octet_after}
use Rattle.iw_ranges.proofs.Fills.{put_len, put_octets, fill_split}
use Rattle.iw_ranges.proofs.buffer.put.Goals as goal

pub fill-requires-clause-room : goal.fill-requires-clause-room
fill-requires-clause-room g c =
    let n = length c.args.octets.now in
    let inside_is : c.min-inside.result ≡ min n (vec_len c.args.buffer.now - (c.args.from - c.args.base)) = omega (arith, c.min-inside.ensures, c.saturating_sub.ensures, c.len.ensures) in
    let grown = put_len c.args.base c.args.from n c.min-inside.result (length c.split_at.result.1.now) (vec_len c.args.buffer.now) (vec_len c.append.new.buffer) c.requires.some c.requires.base
    inside_is c.split_at.ensures.back_len c.in_ok-append.ensures.len in
    omega (arith, grown, c.split_at.ensures.front_len, inside_is, c.deref_mut.ensures.len, c.requires.base)

pub returns-clause-len : goal.returns-clause-len
returns-clause-len g c =
    let n = length c.args.octets.now in
    let inside_is : c.min-inside.result ≡ min n (vec_len c.args.buffer.now - (c.args.from - c.args.base)) = omega (arith, c.min-inside.ensures, c.saturating_sub.ensures, c.len.ensures) in
    put_len c.args.base c.args.from n c.min-inside.result (length c.split_at.result.1.now) (vec_len c.args.buffer.now) (vec_len c.append.new.buffer) c.requires.some c.requires.base
    inside_is c.split_at.ensures.back_len c.in_ok-append.ensures.len

pub returns-clause-octets : goal.returns-clause-octets
returns-clause-octets g c = λ i.
    let base = c.args.base in
    let from = c.args.from in
    let octets = c.args.octets.now in
    let spans = c.args.spans.now.items in
    let front = c.split_at.result.0.now in
    let back = c.split_at.result.1.now in
    let old = c.args.buffer.now.items in
    let grown = c.append.new.buffer.items in
    let n = vec_len c.append.new.buffer in
    let inside = c.min-inside.result in
    let inside_is : inside ≡ min (length octets) (length old - (from - base)) = omega (arith, c.min-inside.ensures, c.saturating_sub.ensures, c.len.ensures, c.args.buffer.now.ok.0) in
    let length_grown : n ≡ max (vec_len c.args.buffer.now) (from + length octets - base) =
    put_len base from (length octets) inside (length back) (vec_len c.args.buffer.now) n c.requires.some c.requires.base
    (omega (arith, c.min-inside.ensures, c.saturating_sub.ensures, c.len.ensures)) c.split_at.ensures.back_len c.in_ok-append.ensures.len in
    put_octets base spans from front grown c.fill.new.buffer n i
    (omega (arith, c.append.new.buffer.ok.0))
    (omega (arith, c.fill.auto.buffer, c.deref_mut.ensures.len))
    (omega (arith, length_grown, c.split_at.ensures.front_len, inside_is, c.requires.base))
    (λ k h. c.fill.ensures k (omega (arith, c.deref_mut.ensures.len))
    ∙ ap (λ (ss : List Span). octet_after base ss from front c.deref_mut.result.now k) c.reserve.ensures.items
    ∙ ap (λ (ys : List ℕ). octet_after base spans from front ys k) c.deref_mut.ensures.value)
    ∙ fill_split base spans from octets front back old grown inside i
    (λ p t. omega (arith, c.requires.within p t, c.args.buffer.now.ok.0)) c.requires.base (omega (arith, inside_is)) (λ more. omega (arith, inside_is, c.split_at.ensures.back_len))
    c.split_at.ensures.front c.split_at.ensures.back (c.in_ok-append.ensures.octets i)
