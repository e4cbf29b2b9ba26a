-- The region that the STag names goes, and its slot is free under the next key.
use Rattle.std.proofs.Common.{sym, ap, ◌∙◌}
use Rattle.std.specs.Option.{option_map}
use Rattle.iw_memory.specs.Region.{Region}
use Rattle.iw_memory.specs.Table.{region_at, deregistered}
use Rattle.iw_memory.proofs.TableLemmas.{region_at-none, deregistered-none}
use Rattle.iw_memory.proofs.memory.Memory.take_region.Goals as goal

pub invariant_of-self : goal.invariant_of-self
invariant_of-self g c = record {
  sound = c.take_at.ensures.sound;
  shared = λ none. c.take_at.ensures.shared (c.self.invariant.shared none);
  no_octets = c.self.invariant.no_octets;
}

pub take_at-requires : goal.take_at-requires
take_at-requires g c = record { sound = c.self.invariant.sound; found = sym c.find.ensures ∙ c.in-Some.is }

pub returns-clause-after : goal.returns-clause-after
returns-clause-after g c = c.take_at.ensures.after ∙ ap (λ t. deregistered t c.args.stag) c.self.view_is

pub returns-clause-octets : goal.returns-clause-octets
returns-clause-octets g c = c.take_at.ensures.octets ∙ ap (λ t. option_map (λ (r : Region). r.octets) (region_at t c.args.stag)) c.self.view_is

pub returns-clause-kept : goal.returns-clause-kept
returns-clause-kept g c = c.take_at.ensures.kept ∙ ap (λ t. option_map (λ (r : Region). r.kept) (region_at t c.args.stag)) c.self.view_is

pub returns-in_default-clause-kept : goal.returns-in_default-clause-kept
returns-in_default-clause-kept g c = ap (option_map (λ (r : Region). r.kept)) (sym (region_at-none c.self.inside.domains c.self.inside.regions c.args.stag c.find.ensures c.in_default.is c.self.view_is))

pub returns-in_default-clause-octets : goal.returns-in_default-clause-octets
returns-in_default-clause-octets g c = ap (option_map (λ (r : Region). r.octets)) (sym (region_at-none c.self.inside.domains c.self.inside.regions c.args.stag c.find.ensures c.in_default.is c.self.view_is))

pub returns-in_default-clause-after : goal.returns-in_default-clause-after
returns-in_default-clause-after g c = sym (deregistered-none _ c.args.stag (region_at-none c.self.inside.domains c.self.inside.regions c.args.stag c.find.ensures c.in_default.is c.self.view_is))
