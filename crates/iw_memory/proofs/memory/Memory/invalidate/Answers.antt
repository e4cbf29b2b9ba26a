-- The one stored region that the STag names is changed.
use Rattle.std.proofs.Common.{is_some, refl, sym, ap, ◌∙◌}
use Rattle.iw_memory.specs.Region.{made_invalid}
use Rattle.iw_memory.specs.Held.{Held}
use Rattle.iw_memory.specs.Table.{region_at}
use Rattle.iw_memory.proofs.TableLemmas.{region_at-none, region_at-held, with_region-none, held_at, table_of-invalid, IsSound-validity, AreShared-with_value}
use Rattle.iw_memory.proofs.memory.Memory.invalidate.Goals as goal

pub index_mut-stored-requires : goal.index_mut-stored-requires
index_mut-stored-requires g c =
    rw (held_at c.self.invariant.sound c.args.stag c.in-Some.at (sym c.find.ensures ∙ c.in-Some.is)).held refl

pub invariant_of-self : goal.invariant_of-self
invariant_of-self g c = record {
  sound = IsSound-validity c.self.invariant.sound c.in-Some.at c.index_mut-stored.result.now _ _ c.index_mut-stored.ensures.value c.stored.view_is;
  shared = λ none. AreShared-with_value (c.self.invariant.shared none) c.in-Some.at c.index_mut-stored.result.now _ c.index_mut-stored.ensures.value (ap (λ (x : Held). x.region.bound) c.stored.view_is);
  no_octets = c.self.invariant.no_octets;
}

pub returns-clause-after : goal.returns-clause-after
returns-clause-after g c =
    table_of-invalid c.self.invariant.sound c.args.stag c.in-Some.at c.index_mut-stored.result.now _ (sym c.find.ensures ∙ c.in-Some.is)
    c.index_mut-stored.ensures.value c.stored.view_is c.self.view_is

pub returns-in_default-clause-found : goal.returns-in_default-clause-found
returns-in_default-clause-found g c = ap is_some (sym (region_at-none c.self.inside.domains c.self.inside.regions c.args.stag c.find.ensures c.in_default.is c.self.view_is))

pub returns-in_default-clause-after : goal.returns-in_default-clause-after
returns-in_default-clause-after g c = sym (with_region-none _ c.args.stag made_invalid (region_at-none c.self.inside.domains c.self.inside.regions c.args.stag c.find.ensures c.in_default.is c.self.view_is))

pub returns-clause-found : goal.returns-clause-found
returns-clause-found g c = ap is_some (sym (sym (ap (λ t. region_at t c.args.stag) c.self.view_is) ∙ region_at-held c.self.inside.domains c.self.inside.regions c.args.stag c.in-Some.at c.index_mut-stored.result.now (sym c.find.ensures ∙ c.in-Some.is) c.index_mut-stored.ensures.value))
