-- The write goes to the one stored region that the STag names.
use Rattle.std.proofs.Common.{◌-◌, Option, IsSomeAnd, refl, sym, ap, subst, ◌∙◌}
use Rattle.iw_memory.specs.Region.{Region, Spans, region_with}
use Rattle.iw_memory.specs.Table.{region_at}
use Rattle.iw_memory.proofs.ListLemmas.{length-overlay}
use Rattle.iw_memory.proofs.TableLemmas.{found_where, some_within, stored_at, region_at-held, part-held, changed-held, IsSound-with_value, AreShared-with_value}
use Rattle.iw_memory.proofs.memory.Memory.octets_mut.Goals as goal

pub invariant_of-self-lent : goal.invariant_of-self-lent
invariant_of-self-lent g c w = record {
  sound = IsSound-with_value c.self.invariant.sound c.unwrap-key.result c.index_mut.result.now _ c.index_mut.ensures.value refl refl refl (length-overlay c.index_mut.result.now.region.octets (c.args.to - c.index_mut.result.now.region.base) w);
  shared = λ none. AreShared-with_value (c.self.invariant.shared none) c.unwrap-key.result c.index_mut.result.now _ c.index_mut.ensures.value refl;
  no_octets = c.self.invariant.no_octets;
}

pub returns : goal.returns
returns g c =
    let link = sym c.find.ensures ∙ c.unwrap-key.ensures in (
      (
        refl,
        λ w. changed-held c.self.invariant.sound c.args.stag c.unwrap-key.result c.index_mut.result.now _ (λ r. region_with r c.args.to w) link c.index_mut.ensures.value refl c.self.view_is,
      ),
      record {
        lends = tt;
        octets = c.part_mut.ensures.value ∙ part-held c.self.inside.domains c.self.inside.regions c.args.stag c.args.to c.args.n c.unwrap-key.result c.index_mut.result.now link c.index_mut.ensures.value c.self.view_is;
      },
    )

pub unwrap-key-requires : goal.unwrap-key-requires
unwrap-key-requires g c = found_where c.self.inside.domains c.self.inside.regions c.args.stag c.find.ensures c.self.view_is (some_within _ c.args.stag c.args.to c.args.n c.requires)

pub index_mut-requires : goal.index_mut-requires
index_mut-requires g c = stored_at c.self.invariant.sound c.args.stag c.unwrap-key.result (sym c.find.ensures ∙ c.unwrap-key.ensures)

pub part_mut-requires : goal.part_mut-requires
part_mut-requires g c = subst (λ (o : Option Region). IsSomeAnd o (λ r. Spans r c.args.to c.args.n)) (sym (ap (λ t. region_at t c.args.stag) c.self.view_is) ∙ region_at-held c.self.inside.domains c.self.inside.regions c.args.stag c.unwrap-key.result c.index_mut.result.now (sym c.find.ensures ∙ c.unwrap-key.ensures) c.index_mut.ensures.value) c.requires
