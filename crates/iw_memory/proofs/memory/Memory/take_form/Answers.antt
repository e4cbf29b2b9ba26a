-- The region that the STag names goes, if its octets are in the form that is asked for.
use Rattle.std.proofs.Common.{◌≡◌, Some, sym, ap, ◌∙◌}
use Rattle.std.specs.Option.{option_map}
use Rattle.iw_memory.specs.Region.{Region}
use Rattle.iw_memory.specs.Table.{region_at, deregistered}
use Rattle.iw_memory.proofs.TableLemmas.{region_at-none, stored_at}
use Rattle.iw_memory.proofs.memory.Memory.take_form.Goals as goal

pub invariant_of-self : goal.invariant_of-self
invariant_of-self g c = record {
  sound = c.take_at.ensures.sound;
  shared = λ none. c.take_at.ensures.shared (c.self.invariant.shared none);
  no_octets = c.self.invariant.no_octets;
}

pub take_at-requires : goal.take_at-requires
take_at-requires g c = record { sound = c.self.invariant.sound; found = sym c.find.ensures ∙ c.in-Some.is }

pub returns-clause-ok : goal.returns-clause-ok
returns-clause-ok g c = c.take_at.ensures.after ∙ ap (λ t. deregistered t c.args.stag) c.self.view_is

pub returns-clause-octets : goal.returns-clause-octets
returns-clause-octets g c = c.take_at.ensures.octets ∙ ap (λ t. option_map (λ (r : Region). r.octets) (region_at t c.args.stag)) c.self.view_is

pub index-requires : goal.index-requires
index-requires g c = stored_at c.self.invariant.sound c.args.stag c.in-Some.at (sym c.find.ensures ∙ c.in-Some.is)
