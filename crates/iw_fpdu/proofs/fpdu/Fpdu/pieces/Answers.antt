use Rattle.std.proofs.Common.{◌≡◌, ◌+◌, ◌-◌, ◌<◌, ◌≤◌, ℕ, drop, ap, ◌∙◌, sym, subst, arith}
use Rattle.iw_fpdu.specs.Found.{Found, octet_in, HoldsSpan, ulpdu}
use Rattle.iw_fpdu.specs.FoundView.{found_by}
use Rattle.iw_fpdu.specs.Frame.{frame_end}
use Rattle.iw_fpdu.specs.Places.{data_place, data_index, in_marker}
use Rattle.iw_fpdu.specs.PiecesOctet.{octet_from}
use Rattle.iw_fpdu.specs.Reading.{data_at}
use Rattle.iw_fpdu.proofs.Came.{here_in, length_part, part_agrees}
use Rattle.iw_fpdu.proofs.Counted.{place_mono, data_no_marker, index_place}
use Rattle.iw_fpdu.proofs.Octets.{span_low, data_low, data_high, same_data, drop_data}
use Rattle.iw_fpdu.proofs.fpdu.Fpdu.pieces.Goals as goal

pub overflow_add-self-inside : goal.overflow_add-self-inside
overflow_add-self-inside g c =
    let a = c.self.inside in
    let m = a.layout.markers in
    let k' = c.min-k.result in
    let least : k' ≤ a.len = omega (arith, c.min-k.ensures, c.from.ensures) in
    let from : c.place_past-from.result ≡ data_place m (data_index m a.start + (2 + k')) = c.place_past-from.ensures in
    let to : a.end ≡ frame_end m a.start a.len = c.self.invariant.end in
    let low : c.place_past-from.result < a.end = omega (arith, from, to, data_high m a.start a.len (2 + k') (omega arith)) in
    omega (arith, low, to, c.self.invariant.read.fits, ap (frame_end m a.start) c.self.invariant.read.len)

pub part-octets-requires : goal.part-octets-requires
part-octets-requires g c = λ p high_enough low_enough.
    let a = c.self.inside in
    let m = a.layout.markers in
    let k' = c.min-k.result in
    let least : k' ≤ a.len = omega (arith, c.min-k.ensures, c.from.ensures) in
    let from : c.place_past-from.result ≡ data_place m (data_index m a.start + (2 + k')) = c.place_past-from.ensures in
    let to : a.end ≡ frame_end m a.start a.len = c.self.invariant.end in
    let low : c.place_past-from.result < a.end = omega (arith, from, to, data_high m a.start a.len (2 + k') (omega arith)) in
    let held = subst HoldsSpan (sym c.self.view_is) c.requires in
    here_in (found_by c.self.inside) a.len c.self.invariant.read held p (omega (arith, from, span_low m a.start, data_low m a.start (2 + k') c.self.invariant.read.start)) (omega (arith, to))

pub new-requires-clause-begins : goal.new-requires-clause-begins
new-requires-clause-begins g c =
    let m = c.self.inside.layout.markers in
    ap (in_marker m) c.place_past-from.ensures ∙ data_no_marker m (data_index m c.self.inside.start + (2 + c.min-k.result))

pub new-requires-clause-reaches : goal.new-requires-clause-reaches
new-requires-clause-reaches g c = λ k lt.
    let a = c.self.inside in
    let m = a.layout.markers in
    let k' = c.min-k.result in
    let least : k' ≤ a.len = omega (arith, c.min-k.ensures, c.from.ensures) in
    let from : c.place_past-from.result ≡ data_place m (data_index m a.start + (2 + k')) = c.place_past-from.ensures in
    let here : data_index m c.place_past-from.result ≡ data_index m a.start + (2 + k') = ap (data_index m) from ∙ index_place m (data_index m a.start + (2 + k')) in
    let to : a.end ≡ frame_end m a.start a.len = c.self.invariant.end in
    let low : c.place_past-from.result < a.end = omega (arith, from, to, data_high m a.start a.len (2 + k') (omega arith)) in
    let long = length_part a.islands.now.arrived (a.base + c.place_past-from.result) (a.base + a.end) c.part-octets.result.now c.part-octets.ensures in
    let place : data_place m (data_index m c.place_past-from.result + k) ≡ data_place m (data_index m a.start + (2 + k' + k)) = ap (data_place m) (omega (arith, here)) in
    omega (arith, long, place, to, low, data_high m a.start a.len (2 + k' + k) (omega (arith, c.from-2.ensures, lt)))

pub returns : goal.returns
returns g c =
    let a = c.self.inside in
    let m = a.layout.markers in
    let k' = c.min-k.result in
    let least : k' ≤ a.len = omega (arith, c.min-k.ensures, c.from.ensures) in
    let from : c.place_past-from.result ≡ data_place m (data_index m a.start + (2 + k')) = c.place_past-from.ensures in
    let to : a.end ≡ frame_end m a.start a.len = c.self.invariant.end in
    let i = data_index m c.place_past-from.result in
    let here : i ≡ data_index m a.start + (2 + k') = ap (data_index m) from ∙ index_place m (data_index m a.start + (2 + k')) in
    let n = c.from-2.result - k' in
    let octet : ℕ → ℕ = octet_in a.islands.now.arrived a.base in
    let len : c.from-2.result ≡ a.len = c.from-2.ensures in
    c.new.ensures
    ∙ same_data (octet_from c.place_past-from.result c.part-octets.result.now) octet m i n (λ j lt.
    let place : data_place m (i + j) ≡ data_place m (data_index m a.start + (2 + k' + j)) = ap (data_place m) (omega (arith, here)) in
    part_agrees a.islands.now.arrived a.base c.place_past-from.result a.end c.part-octets.result.now c.part-octets.ensures (data_place m (i + j))
    (omega (arith, from, ap (data_place m) here, place_mono m i (i + j) (omega arith)))
    (omega (arith, place, to, data_high m a.start a.len (2 + k' + j) (omega (arith, len, lt)))))
    ∙ ap (λ x. data_at octet m x n) (let e : i ≡ data_index m a.start + 2 + k' = omega (arith, here) in e)
    ∙ ap (λ x. data_at octet m (data_index m a.start + 2 + k') (x - k')) len
    ∙ sym (drop_data octet m (data_index m a.start + 2) a.len c.args.k k' (omega (arith, c.min-k.ensures, c.from.ensures)))
    ∙ ap (λ x. drop c.args.k (data_at octet m (data_index m a.start + 2) x)) c.self.invariant.read.len
    ∙ ap (λ (f : Found). drop c.args.k (ulpdu f)) c.self.view_is
