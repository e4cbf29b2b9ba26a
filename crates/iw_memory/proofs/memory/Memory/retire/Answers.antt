-- The regions of the domain's slots are gone through.
use Rattle.std.proofs.Common.{true≢false, sym, ap, ◌∙◌}
use Rattle.std.specs.Option.{option_copied}
use Rattle.iw_memory.specs.Inside.{table_of}
use Rattle.iw_memory.specs.Table.{retired}
use Rattle.iw_memory.proofs.RetireLemmas.{IsSound-retired, table_of-retired, retired-shared}
use Rattle.iw_memory.proofs.memory.Memory.retire.Goals as goal

pub invariant_of-self : goal.invariant_of-self
invariant_of-self g c = record {
  sound = rw c.retire_all.ensures (IsSound-retired c.self.invariant.sound c.args.peer.stream c.in-Some.slots.now);
  shared = λ none. absurd (true≢false (sym c.if-not-self.false ∙ none));
  no_octets = c.self.invariant.no_octets;
}

pub returns : goal.returns
returns g c =
    ap (table_of c.self.inside.domains) c.retire_all.ensures
    ∙ table_of-retired c.self.invariant.sound c.args.peer.domain c.in-Some.slots.now c.args.peer.stream (sym c.slots.ensures ∙ ap option_copied c.in-Some.is)
    ∙ ap (λ t. retired t c.args.peer) c.self.view_is

pub returns-then-not-self : goal.returns-then-not-self
returns-then-not-self g c = retired-shared c.self.inside.domains (c.self.invariant.shared c.if-not-self.true) c.args.peer c.self.view_is
