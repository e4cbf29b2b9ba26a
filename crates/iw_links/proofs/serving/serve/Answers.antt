use Rattle.std.proofs.Common.{inl, inr}
use Rattle.iw_links.specs.Exchange.{Serves, plan_for}
use Rattle.iw_links.specs.Standing.{told_in}
use Rattle.iw_links.proofs.Exchanges.{begins, begins_to_close, begins_to_fail}
use Rattle.iw_links.proofs.serving.serve.Goals as goal

pub returns-in-Ok-listen_to-clause-served : goal.returns-in-Ok-listen_to-clause-served
returns-in-Ok-listen_to-clause-served g c = inl (record {
  told = told_in c.listen_to.new.link;
  finished = begins (plan_for c.args.terms (Serves c.args.region)) _ _ _ _ _ _ _ _ _ _ (rw c.config.ensures at c.in-Ok.ensures.ok)
      c.new-link.ensures.received c.new-link.ensures.ended c.in-Ok-listen_to.ensures.ok;
  is = c.into_report.ensures;
  end = c.in-Ok-listen_to.ensures.end;
})

pub returns-in-Err-Closed-clause-served : goal.returns-in-Err-Closed-clause-served
returns-in-Err-Closed-clause-served g c = inr (inl (record {
  told = told_in c.listen_to.new.link;
  closes = begins_to_close (plan_for c.args.terms (Serves c.args.region)) _ _ _ _ _ _ _ _ _ (rw c.config.ensures at c.in-Ok.ensures.ok)
      c.new-link.ensures.received c.new-link.ensures.ended (rw c.in-Err-Closed.field-0-is at c.in-Err-Closed.ensures.err);
  is = c.into_report-in-Err-Closed.ensures;
}))

pub returns-in-Err-Broken-clause-served : goal.returns-in-Err-Broken-clause-served
returns-in-Err-Broken-clause-served g c = inr (inr (record {
  last = c.listen_to.new.endpoint;
  told = told_in c.listen_to.new.link;
  failed = begins_to_fail (plan_for c.args.terms (Serves c.args.region)) _ _ _ _ _ _ _ _ _ (rw c.config.ensures at c.in-Ok.ensures.ok)
      c.new-link.ensures.received c.new-link.ensures.ended (rw c.in-Err-Broken.field-0-is at c.in-Err-Broken.ensures.err);
  endpoint = c.break_off.ensures.endpoint;
  is = c.break_off.ensures.report;
}))
