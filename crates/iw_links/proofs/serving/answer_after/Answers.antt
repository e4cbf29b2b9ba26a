use Rattle.std.proofs.Common.{◌≡◌, refl}
use Rattle.iw_links.specs.Exchange.{Serves, Listening}
use Rattle.iw_links.specs.Standing.{standing, part_of, count_answered}
use Rattle.iw_links.proofs.Exchanges.{exchanges, fails_later, fails_now, says_back, stays_settled}
use Rattle.iw_links.proofs.serving.answer_after.Goals as goal

pub returns-in-Err-clause-err : goal.returns-in-Err-clause-err
returns-in-Err-clause-err g c = λ may. c.in-Err.ensures.err 0 may

pub returns-in-Err-settle-clause-err : goal.returns-in-Err-settle-clause-err
returns-in-Err-settle-clause-err g c = λ may.
    fails_now _ _ (standing c.hear.new.endpoint c.hear.new.link) Listening 0 _ _ _ _ (c.in-Ok.ensures.ok 0 may)

pub returns-in-Ok-answer_where_open-clause-ok : goal.returns-in-Ok-answer_where_open-clause-ok
returns-in-Ok-answer_where_open-clause-ok g c = λ may.
    let serves : part_of c.args.plan.now.part ≡ Serves c.args.region = rw c.requires.plan refl in
    let i = g.R.Read.remaining c.hear.new.input.reader in
    record {
      posted = count_answered c.hear.new.link.ended;
      exchanged = exchanges _ _ _ _ _ i i _ _ _ (c.in-Ok.ensures.ok 0 may) (c.in-Ok-answer_where_open.ensures.ok i);
      said = says_back _ _ _ _ i i _ _ serves (c.in-Ok-answer_where_open.ensures.ok i);
      settled = stays_settled _ _ _ i i _ _ (c.in-Ok-answer_where_open.ensures.ok i) c.in-Ok-settle.ensures;
    }

pub returns-in-Err-answer_where_open-clause-err : goal.returns-in-Err-answer_where_open-clause-err
returns-in-Err-answer_where_open-clause-err g c = λ may.
    let i = g.R.Read.remaining c.hear.new.input.reader in
    fails_later _ _ _ _ _ i i _ _ _ (c.in-Ok.ensures.ok 0 may) (c.in-Err-answer_where_open.ensures.err i)
