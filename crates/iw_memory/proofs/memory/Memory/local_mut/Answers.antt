-- The write goes to the one stored region that the STag names.
use Rattle.std.proofs.Common.{Some, refl, sym, ap, ◌∙◌}
use Rattle.iw_memory.specs.Region.{overlay}
use Rattle.iw_memory.proofs.ListLemmas.{length-overlay}
use Rattle.iw_memory.proofs.TableLemmas.{found_where, stored_at, octets-held, changed-held, IsSound-with_value, AreShared-with_value}
use Rattle.iw_memory.proofs.memory.Memory.local_mut.Goals as goal

pub invariant_of-self-lent : goal.invariant_of-self-lent
invariant_of-self-lent g c w = record {
  sound = IsSound-with_value c.self.invariant.sound c.unwrap-key.result c.index_mut.result.now _ c.index_mut.ensures.value refl refl refl (length-overlay c.index_mut.result.now.region.octets 0 w);
  shared = λ none. AreShared-with_value (c.self.invariant.shared none) c.unwrap-key.result c.index_mut.result.now _ c.index_mut.ensures.value refl;
  no_octets = c.self.invariant.no_octets;
}

pub returns : goal.returns
returns g c =
    let link = sym c.find.ensures ∙ c.unwrap-key.ensures in (
      (
        refl,
        λ w. changed-held c.self.invariant.sound c.args.stag c.unwrap-key.result c.index_mut.result.now _ (λ r. record r { octets = overlay r.octets 0 w }) link c.index_mut.ensures.value refl c.self.view_is,
      ),
      record {
        lends = tt;
        octets = ap Some c.octets_mut.ensures.value ∙ octets-held c.self.inside.domains c.self.inside.regions c.args.stag c.unwrap-key.result c.index_mut.result.now link c.index_mut.ensures.value c.self.view_is;
      },
    )

pub unwrap-key-requires : goal.unwrap-key-requires
unwrap-key-requires g c = found_where c.self.inside.domains c.self.inside.regions c.args.stag c.find.ensures c.self.view_is c.requires

pub index_mut-requires : goal.index_mut-requires
index_mut-requires g c = stored_at c.self.invariant.sound c.args.stag c.unwrap-key.result (sym c.find.ensures ∙ c.unwrap-key.ensures)
