use Rattle.std.proofs.Common.{◌≡◌, ◌+◌, ◌/◌, ◌%◌, ℕ, List, ◌∷◌, ◌++◌, length, true, is_ok, sym, ap, ◌∙◌, arith}
use Rattle.std.proofs.lemmas.List.{length-append}
use Rattle.std.proofs.lemmas.Bool.{false≢true}
use Rattle.iw_fpdu.proofs.Written.{length-bare_frame, bare_frame_written}
use Rattle.iw_fpdu.proofs.write.write_bare.Goals as goal

pub returns-in_err-reserve-clause-memory : goal.returns-in_err-reserve-clause-memory
returns-in_err-reserve-clause-memory g c = λ room.
    let long = length-bare_frame (c.args.header ++ c.args.payload.now) in
    let fine : is_ok c.reserve.result ≡ true = c.reserve.ensures.succeeds (omega (arith, room, long, c.pad_of-pad.ensures.value, length-append c.args.header c.args.payload.now)) in
    absurd (false≢true (sym (ap is_ok c.in_err-reserve.was) ∙ fine))

pub returns-clause-ok : goal.returns-clause-ok
returns-clause-ok g c =
    let header : List ℕ = c.args.header in
    let payload : List ℕ = c.args.payload.now in
    let len : ℕ = g.row.N + length payload in
    let long : len ≡ length (header ++ payload) = omega (arith, length-append header payload) in
    let one : c.append_front.new.out.items ≡ c.args.out.now.items ++ (len / 256 ∷ len % 256 ∷ header) =
    c.append_front.ensures.items ∙ ap (λ xs. xs ++ (len / 256 ∷ len % 256 ∷ header)) c.reserve.ensures.items in
    bare_frame_written header payload c.args.out.now.items c.append_front.new.out.items c.append.new.out.items c.append_end.new.out.items len c.pad_of-pad.result
    long c.pad_of-pad.ensures.value one c.append.ensures.items c.append_end.ensures
