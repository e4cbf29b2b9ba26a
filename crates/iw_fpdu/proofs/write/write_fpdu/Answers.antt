use Rattle.std.proofs.Common.{◌≡◌, ℕ, length, List, ◌++◌, drop, ap, ◌∙◌, arith, true, false, not, is_ok}
use Rattle.iw_octets.specs.Pieces.{joined}
use Rattle.iw_fpdu.specs.Frame.{frame_size, frame_end, laid, bare_data, field_place}
use Rattle.iw_fpdu.specs.Places.{data_index, frame_start}
use Rattle.iw_fpdu.proofs.Counted.{aligned_edge, at_most_after}
use Rattle.iw_fpdu.proofs.Written.{whole_written, length-frame_octets}
use Rattle.iw_fpdu.proofs.write.write_fpdu.Goals as goal

pub overflow_sub-room : goal.overflow_sub-room
overflow_sub-room g c =
    omega (arith, c.end_of.ensures.value, at_most_after c.args.layout.markers c.args.at (frame_size c.in-Some.len) (aligned_edge c.args.layout.markers c.args.at c.requires.aligned))

pub returns-then-is_err-clause-memory : goal.returns-then-is_err-clause-memory
returns-then-is_err-clause-memory g c = λ short room.
    let long = length-frame_octets c.args.layout c.args.at (joined c.args.parts.now) in
    let end : c.end_of.result ≡ frame_end c.args.layout.markers c.args.at (length (joined c.args.parts.now)) = c.end_of.ensures.value ∙ ap (frame_end c.args.layout.markers c.args.at) c.in-Some.ensures.0 in
    let fine : is_ok c.reserve.result ≡ true = c.reserve.ensures.succeeds (omega (arith, room, long, end)) in
    let no : not c.is_err.result ≡ false = ap not c.if-is_err.true in
    cc (fine, no, c.is_err.ensures.negation)

pub returns-clause-ok : goal.returns-clause-ok
returns-clause-ok g c =
    let old : c.reserve.new.self.items ≡ c.args.out.now.items = c.reserve.ensures.items in
    let mark : c.len-mark.result ≡ length c.args.out.now.items = omega (arith, c.len-mark.ensures, c.reserve.new.self.ok.0, ap length old) in
    let laid_at : List ℕ → List ℕ = λ ys. ys ++ laid c.args.layout.markers (frame_start c.args.layout.markers c.args.at) (data_index c.args.layout.markers c.args.at) (bare_data (joined c.args.parts.now)) c.args.at (field_place c.args.layout.markers c.args.at c.in-Some.len) in
    whole_written c.args.layout c.args.at c.in-Some.len (joined c.args.parts.now) c.args.out.now.items c.put_bare.new.out.items c.append.new.out.items c.crc_field-field.result c.split_at.result.1.now
    c.requires.aligned c.in-Some.ensures.0
    (c.put_bare.ensures.items ∙ ap laid_at old)
    (c.split_at.ensures.back ∙ ap (drop c.len-mark.result) c.as_slice.ensures.value ∙ ap (λ k. drop k c.put_bare.new.out.items) mark)
    c.crc_field-field.ensures c.append.ensures.items
