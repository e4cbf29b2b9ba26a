use Rattle.std.proofs.Common.{◌≡◌, refl, arith}
use Rattle.iw_links.specs.Exchange.{Asks, Lending, Listening, Speaking, after_lending}
use Rattle.iw_links.specs.Standing.{standing, told_in, part_of, plan_of, count_said}
use Rattle.iw_links.specs.declared.exchange.Until.TheVariants as untils
use Rattle.iw_links.proofs.Exchanges.{asks_on, exchanges, fails_later, fails_now, fails_still, few_said, in_quiet, says, stops_later}
use Rattle.iw_links.proofs.asking.speak_to.Goals as goal

pub returns-in-Err-clause-err : goal.returns-in-Err-clause-err
returns-in-Err-clause-err g c =
    rw c.in-Err.ensures.err (fails_still _ (standing c.args.endpoint.now c.args.link.now) Lending 0 _ _)

pub returns-in-Err-start_up-clause-err : goal.returns-in-Err-start_up-clause-err
returns-in-Err-start_up-clause-err g c =
    let speaks : after_lending (part_of c.args.plan.now.part) ≡ Speaking = rw c.requires.plan refl in
    let asks : part_of c.args.plan.now.part ≡ Asks c.args.text.now = rw c.requires.plan refl in
    let i = g.R.Read.remaining c.args.input.now.reader in
    stops_later _ _ _ _ _ i i _ _ _ _ (in_quiet _ _ _ i _ (rw speaks at c.in-Ok.ensures.ok 0)) (c.in-Err-start_up.ensures.err (λ told. asks_on untils.Reply (plan_of c.args.plan.now) c.args.text.now told 0 asks (omega arith)))

pub returns-in-Err-request_where_open-clause-err : goal.returns-in-Err-request_where_open-clause-err
returns-in-Err-request_where_open-clause-err g c =
    let speaks : after_lending (part_of c.args.plan.now.part) ≡ Speaking = rw c.requires.plan refl in
    let asks : part_of c.args.plan.now.part ≡ Asks c.args.text.now = rw c.requires.plan refl in
    let i = g.R.Read.remaining c.args.input.now.reader in
    let j = g.R.Read.remaining c.start_up.new.input.reader in
    let heard = exchanges _ _ _ _ i i j _ _ _ (in_quiet _ _ _ i _ (rw speaks at c.in-Ok.ensures.ok 0)) (c.in-Ok-start_up.ensures.ok (λ told. asks_on untils.Reply (plan_of c.args.plan.now) c.args.text.now told 0 asks (omega arith))) in
    fails_later _ _ _ _ i j j _ _ _ heard (c.in-Err-request_where_open.ensures.err j)

pub returns-in-Err-end_output-clause-err : goal.returns-in-Err-end_output-clause-err
returns-in-Err-end_output-clause-err g c =
    let speaks : after_lending (part_of c.args.plan.now.part) ≡ Speaking = rw c.requires.plan refl in
    let asks : part_of c.args.plan.now.part ≡ Asks c.args.text.now = rw c.requires.plan refl in
    let i = g.R.Read.remaining c.args.input.now.reader in
    let j = g.R.Read.remaining c.start_up.new.input.reader in
    let heard = exchanges _ _ _ _ i i j _ _ _ (in_quiet _ _ _ i _ (rw speaks at c.in-Ok.ensures.ok 0)) (c.in-Ok-start_up.ensures.ok (λ told. asks_on untils.Reply (plan_of c.args.plan.now) c.args.text.now told 0 asks (omega arith))) in
    let k = count_said c.start_up.new.link.ended in
    let said = exchanges _ _ _ _ i j j _ _ _ heard (c.in-Ok-request_where_open.ensures.ok j) in
    let may = asks_on untils.Send (plan_of c.args.plan.now) c.args.text.now (told_in c.request_where_open.new.link) k asks (few_said c.start_up.new.link.ended) in
    stops_later _ _ _ _ _ i j _ _ _ _ said (c.in-Err-end_output.ensures.err k may)

pub returns-in-Err-hear-clause-err : goal.returns-in-Err-hear-clause-err
returns-in-Err-hear-clause-err g c =
    let speaks : after_lending (part_of c.args.plan.now.part) ≡ Speaking = rw c.requires.plan refl in
    let asks : part_of c.args.plan.now.part ≡ Asks c.args.text.now = rw c.requires.plan refl in
    let i = g.R.Read.remaining c.args.input.now.reader in
    let j = g.R.Read.remaining c.start_up.new.input.reader in
    let heard = exchanges _ _ _ _ i i j _ _ _ (in_quiet _ _ _ i _ (rw speaks at c.in-Ok.ensures.ok 0)) (c.in-Ok-start_up.ensures.ok (λ told. asks_on untils.Reply (plan_of c.args.plan.now) c.args.text.now told 0 asks (omega arith))) in
    let k = count_said c.start_up.new.link.ended in
    let said = exchanges _ _ _ _ i j j _ _ _ heard (c.in-Ok-request_where_open.ensures.ok j) in
    let may = asks_on untils.Send (plan_of c.args.plan.now) c.args.text.now (told_in c.request_where_open.new.link) k asks (few_said c.start_up.new.link.ended) in
    let m = g.R.Read.remaining c.end_output.new.input.reader in
    let done = exchanges _ _ _ _ i j m _ _ _ said (c.in-Ok-end_output.ensures.ok k may) in
    let on = asks_on untils.End (plan_of c.args.plan.now) c.args.text.now (told_in c.end_output.new.link) k asks (few_said c.start_up.new.link.ended) in
    stops_later _ _ _ _ _ i m _ _ _ _ done (c.in-Err-hear.ensures.err k on)

pub returns-in-Ok-settle-clause-ok : goal.returns-in-Ok-settle-clause-ok
returns-in-Ok-settle-clause-ok g c =
    let speaks : after_lending (part_of c.args.plan.now.part) ≡ Speaking = rw c.requires.plan refl in
    let asks : part_of c.args.plan.now.part ≡ Asks c.args.text.now = rw c.requires.plan refl in
    let i = g.R.Read.remaining c.args.input.now.reader in
    let j = g.R.Read.remaining c.start_up.new.input.reader in
    let heard = exchanges _ _ _ _ i i j _ _ _ (in_quiet _ _ _ i _ (rw speaks at c.in-Ok.ensures.ok 0)) (c.in-Ok-start_up.ensures.ok (λ told. asks_on untils.Reply (plan_of c.args.plan.now) c.args.text.now told 0 asks (omega arith))) in
    let k = count_said c.start_up.new.link.ended in
    let said = exchanges _ _ _ _ i j j _ _ _ heard (c.in-Ok-request_where_open.ensures.ok j) in
    let may = asks_on untils.Send (plan_of c.args.plan.now) c.args.text.now (told_in c.request_where_open.new.link) k asks (few_said c.start_up.new.link.ended) in
    let m = g.R.Read.remaining c.end_output.new.input.reader in
    let done = exchanges _ _ _ _ i j m _ _ _ said (c.in-Ok-end_output.ensures.ok k may) in
    let on = asks_on untils.End (plan_of c.args.plan.now) c.args.text.now (told_in c.end_output.new.link) k asks (few_said c.start_up.new.link.ended) in
    let rest = exchanges _ _ _ _ j m _ _ _ _ (c.in-Ok-end_output.ensures.ok k may) (c.in-Ok-hear.ensures.ok k on) in
    record {
      posted = k;
      exchanged = exchanges _ _ _ _ i m _ _ _ _ done (c.in-Ok-hear.ensures.ok k on);
      said = says _ _ _ _ j _ _ _ asks (exchanges _ _ _ _ j j _ _ _ _ (c.in-Ok-request_where_open.ensures.ok j) rest);
      settled = c.in-Ok-settle.ensures;
    }

pub returns-clause-err : goal.returns-clause-err
returns-clause-err g c =
    let speaks : after_lending (part_of c.args.plan.now.part) ≡ Speaking = rw c.requires.plan refl in
    let asks : part_of c.args.plan.now.part ≡ Asks c.args.text.now = rw c.requires.plan refl in
    let i = g.R.Read.remaining c.args.input.now.reader in
    let j = g.R.Read.remaining c.start_up.new.input.reader in
    let heard = exchanges _ _ _ _ i i j _ _ _ (in_quiet _ _ _ i _ (rw speaks at c.in-Ok.ensures.ok 0)) (c.in-Ok-start_up.ensures.ok (λ told. asks_on untils.Reply (plan_of c.args.plan.now) c.args.text.now told 0 asks (omega arith))) in
    let k = count_said c.start_up.new.link.ended in
    let said = exchanges _ _ _ _ i j j _ _ _ heard (c.in-Ok-request_where_open.ensures.ok j) in
    let may = asks_on untils.Send (plan_of c.args.plan.now) c.args.text.now (told_in c.request_where_open.new.link) k asks (few_said c.start_up.new.link.ended) in
    let m = g.R.Read.remaining c.end_output.new.input.reader in
    let done = exchanges _ _ _ _ i j m _ _ _ said (c.in-Ok-end_output.ensures.ok k may) in
    let on = asks_on untils.End (plan_of c.args.plan.now) c.args.text.now (told_in c.end_output.new.link) k asks (few_said c.start_up.new.link.ended) in
    fails_now _ _ (standing c.hear.new.endpoint c.hear.new.link) Listening k _ _ _ _
    (exchanges _ _ _ _ i m _ _ _ _ done (c.in-Ok-hear.ensures.ok k on))
