-- The region that the STag names goes, and its slot is free under the next key.
use Rattle.std.proofs.Common.{Some, refl, ap, ◌∙◌}
use Rattle.iw_memory.proofs.TableLemmas.{stored_at, slot_within, octets-held, table_of-taken, IsSound-taken, AreShared-removed}
use Rattle.iw_memory.proofs.KeptLemmas.{kept-held}
use Rattle.iw_memory.proofs.memory.take_at.Goals as goal

pub returns-clause-after : goal.returns-clause-after
returns-clause-after g c =
    table_of-taken c.requires.sound c.args.stag c.args.at c.remove-stored.result c.requires.found c.remove-stored.ensures.value
    c.remove-stored.ensures.updates (rw (c.domain.ensures, c.slot.ensures, c.key.ensures) at c.set_slot.ensures) refl

pub returns-clause-octets : goal.returns-clause-octets
returns-clause-octets g c = ap Some c.into_octets.ensures.octets ∙ octets-held c.args.domains.now c.args.regions.now c.args.stag c.args.at c.remove-stored.result c.requires.found c.remove-stored.ensures.value refl

pub returns-clause-kept : goal.returns-clause-kept
returns-clause-kept g c = ap Some c.into_octets.ensures.kept ∙ kept-held c.args.domains.now c.args.regions.now c.args.stag c.args.at c.remove-stored.result c.requires.found c.remove-stored.ensures.value refl

pub returns-clause-sound : goal.returns-clause-sound
returns-clause-sound g c = IsSound-taken c.requires.sound c.args.stag c.args.at _ c.requires.found c.remove-stored.ensures.updates (rw (c.domain.ensures, c.slot.ensures, c.key.ensures) at c.set_slot.ensures)

pub returns-clause-shared : goal.returns-clause-shared
returns-clause-shared g c = λ shared. AreShared-removed shared c.remove-stored.ensures.updates

pub remove-stored-requires : goal.remove-stored-requires
remove-stored-requires g c = stored_at c.requires.sound c.args.stag c.args.at c.requires.found

pub set_slot-requires : goal.set_slot-requires
set_slot-requires g c = rw (c.domain.ensures, c.slot.ensures) (slot_within c.args.domains.now c.args.stag c.args.at c.requires.found)
