use Rattle.std.proofs.Common.{◌≡◌, refl}
use Rattle.iw_links.specs.Exchange.{Serves}
use Rattle.iw_links.specs.Standing.{told_in, part_of, plan_of}
use Rattle.iw_links.proofs.Exchanges.{exchanges, serves_after, serves_until, stays_said, stays_settled, stops_later}
use Rattle.iw_links.proofs.serving.answer_at_once.Goals as goal

pub returns-in-Err-clause-err : goal.returns-in-Err-clause-err
returns-in-Err-clause-err g c =
    let serves : part_of c.args.plan.now.part ≡ Serves c.args.region = rw c.requires.plan refl in
    c.in-Err.ensures.err (serves_until (plan_of c.args.plan.now) c.args.region (told_in c.args.link.now) 0 serves c.requires.at_once)

pub returns-in-Err-hear-clause-err : goal.returns-in-Err-hear-clause-err
returns-in-Err-hear-clause-err g c =
    let serves : part_of c.args.plan.now.part ≡ Serves c.args.region = rw c.requires.plan refl in
    let first = c.in-Ok.ensures.ok (serves_until (plan_of c.args.plan.now) c.args.region (told_in c.args.link.now) 0 serves c.requires.at_once) in
    let may = serves_after (plan_of c.args.plan.now) c.args.region (told_in c.answer_after.new.link) first.posted serves c.requires.at_once first.said in
    stops_later _ _ _ _ _ _ _ _ _ _ _ first.exchanged (c.in-Err-hear.ensures.err first.posted may)

pub returns-in-Ok-hear-clause-ok : goal.returns-in-Ok-hear-clause-ok
returns-in-Ok-hear-clause-ok g c =
    let serves : part_of c.args.plan.now.part ≡ Serves c.args.region = rw c.requires.plan refl in
    let first = c.in-Ok.ensures.ok (serves_until (plan_of c.args.plan.now) c.args.region (told_in c.args.link.now) 0 serves c.requires.at_once) in
    let may = serves_after (plan_of c.args.plan.now) c.args.region (told_in c.answer_after.new.link) first.posted serves c.requires.at_once first.said in
    let heard = c.in-Ok-hear.ensures.ok first.posted may in
    record {
      posted = first.posted;
      exchanged = exchanges _ _ _ _ _ _ _ _ _ _ first.exchanged heard;
      said = stays_said _ _ _ _ _ _ _ _ heard first.said;
      settled = stays_settled _ _ _ _ _ _ _ heard first.settled;
    }
