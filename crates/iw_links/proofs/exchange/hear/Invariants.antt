use Rattle.std.proofs.Common.{ℕ, ◌≤◌}
use Rattle.iw_links.specs.Exchange.{Exchanged, Listening}
use Rattle.iw_links.specs.Standing.{standing, told_in, plan_of, ReadsOn}
use Rattle.iw_links.proofs.exchange.hear.Given as goal

abbrev pub invariant-reads : goal.invariant-reads
invariant-reads g l = record {
  exchanged : (k : ℕ) → ReadsOn l.fn.until (plan_of l.fn.plan) (told_in l.fn.link) k →
      Exchanged (plan_of l.fn.plan) (standing l.fn.endpoint l.fn.link Listening k) (g.R.Read.remaining l.fn.input.reader) (g.W.Write.contents l.fn.output)
      (standing l.endpoint l.link Listening k) (g.R.Read.remaining l.input.reader) (g.W.Write.contents l.output);
  bounded : l.input.reads ≤ 1000000;
}
