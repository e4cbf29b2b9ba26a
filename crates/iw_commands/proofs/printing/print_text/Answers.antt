use Rattle.std.proofs.Common.{◌≡◌, length, take, arith, take_all}
use Rattle.std.proofs.KnownBytes.{Appends-kept}
use Rattle.iw_commands.proofs.printing.print_text.Goals as goal

pub returns-in-Err-flush-clause-err : goal.returns-in-Err-flush-clause-err
returns-in-Err-flush-clause-err g c =
    let text = c.args.text.now in
    let all : take (length text) text ≡ text = take_all (length text) text (omega arith) in
    (length text, rw all (Appends-kept _ _ _ _ c.in-Ok.ensures c.flush.ensures.bytes))
