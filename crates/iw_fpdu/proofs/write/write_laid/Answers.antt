use Rattle.std.proofs.Common.{◌≡◌, ◌+◌, ℕ, length, List, ◌++◌, drop, sym, ap, ◌∙◌, arith, true, is_ok}
use Rattle.std.proofs.lemmas.List.{length-append}
use Rattle.std.proofs.lemmas.Bool.{false≢true}
use Rattle.iw_fpdu.specs.Frame.{frame_size, frame_end, laid, bare_data, field_place}
use Rattle.iw_fpdu.specs.Places.{data_index, frame_start}
use Rattle.iw_fpdu.proofs.Counted.{aligned_edge, at_most_after}
use Rattle.iw_fpdu.proofs.Written.{whole_written, length-frame_octets}
use Rattle.iw_fpdu.proofs.write.write_laid.Goals as goal

pub overflow_sub-room : goal.overflow_sub-room
overflow_sub-room g c =
    omega (arith, c.end_of.ensures.value, at_most_after c.args.layout.markers c.args.at (frame_size (g.row.N + length c.args.payload.now)) (aligned_edge c.args.layout.markers c.args.at c.requires.aligned))

pub returns-in_err-reserve-clause-memory : goal.returns-in_err-reserve-clause-memory
returns-in_err-reserve-clause-memory g c = λ room.
    let ulpdu : List ℕ = c.args.header ++ c.args.payload.now in
    let size : g.row.N + length c.args.payload.now ≡ length ulpdu = omega (arith, length-append c.args.header c.args.payload.now) in
    let long = length-frame_octets c.args.layout c.args.at ulpdu in
    let end : c.end_of.result ≡ frame_end c.args.layout.markers c.args.at (length ulpdu) = c.end_of.ensures.value ∙ ap (frame_end c.args.layout.markers c.args.at) size in
    let fine : is_ok c.reserve.result ≡ true = c.reserve.ensures.succeeds (omega (arith, room, long, end)) in
    absurd (false≢true (sym (ap is_ok c.in_err-reserve.was) ∙ fine))

pub returns-clause-ok : goal.returns-clause-ok
returns-clause-ok g c =
    let m = c.args.layout.markers in
    let at = c.args.at in
    let ulpdu : List ℕ = c.args.header ++ c.args.payload.now in
    let len : ℕ = g.row.N + length c.args.payload.now in
    let size : len ≡ length ulpdu = omega (arith, length-append c.args.header c.args.payload.now) in
    let old : c.reserve.new.self.items ≡ c.args.out.now.items = c.reserve.ensures.items in
    let mark : c.len-mark.result ≡ length c.args.out.now.items = omega (arith, c.len-mark.ensures, c.reserve.new.self.ok.0, ap length old) in
    let front : List ℕ = laid m (frame_start m at) (data_index m at) (bare_data ulpdu) at (field_place m at len) in
    whole_written c.args.layout at len ulpdu c.args.out.now.items c.put_segment.new.out.items c.append.new.out.items c.crc_field-field.result c.split_at.result.1.now
    c.requires.aligned size
    (c.put_segment.ensures.items ∙ ap (λ ys. ys ++ front) old)
    (c.split_at.ensures.back ∙ ap (drop c.len-mark.result) c.as_slice.ensures.value ∙ ap (λ k. drop k c.put_segment.new.out.items) mark)
    c.crc_field-field.ensures c.append.ensures.items
