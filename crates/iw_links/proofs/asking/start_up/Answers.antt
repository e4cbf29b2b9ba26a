use Rattle.iw_links.specs.Standing.{told_in}
use Rattle.iw_links.proofs.Exchanges.{exchanges, stops_later}
use Rattle.iw_links.proofs.asking.start_up.Goals as goal

pub returns-in-Err-clause-err : goal.returns-in-Err-clause-err
returns-in-Err-clause-err g c = λ may. c.in-Err.ensures.err (g.R.Read.remaining c.args.input.now.reader) 0

pub returns-in-Err-hear-clause-err : goal.returns-in-Err-hear-clause-err
returns-in-Err-hear-clause-err g c = λ may.
    let i = g.R.Read.remaining c.args.input.now.reader in
    stops_later _ _ _ _ _ i i _ _ _ _ (c.in-Ok.ensures.ok i 0) (c.in-Err-hear.ensures.err 0 (may (told_in c.speak.new.link)))

pub returns-in-Ok-hear-clause-ok : goal.returns-in-Ok-hear-clause-ok
returns-in-Ok-hear-clause-ok g c = λ may.
    let i = g.R.Read.remaining c.args.input.now.reader in
    exchanges _ _ _ _ i i _ _ _ _ (c.in-Ok.ensures.ok i 0) (c.in-Ok-hear.ensures.ok 0 (may (told_in c.speak.new.link)))
