-- The slab makes room, then the slots, and then the region is stored.
use Rattle.std.proofs.Common.{◌≡◌, ◌<◌, ℕ, true, None, is_some, get_or, length, sym, ap, subst, ◌∙◌}
use Rattle.std.proofs.lemmas.Option.{same_Some}
use Rattle.slab.specs.Slab.{get}
use Rattle.iw_octets.specs.declared.stag.Stag.{Stag}
use Rattle.iw_memory.specs.Inside.{Slots, table_of, slots_in, with_room_at, IsSound}
use Rattle.iw_memory.specs.Forms.{region_of}
use Rattle.iw_memory.specs.Table.{registered_at}
use Rattle.iw_memory.proofs.SlotLemmas.{domain_added, link_with_room, within_room, small_room}
use Rattle.iw_memory.proofs.TableLemmas.{added_known, IsSound-same_get, IsSound-same_links, IsSound-set_slot, slots_in-sets, table_of-same_get, table_of-registered, same_after_insert, AreShared-same_get, AreShared-limited}
use Rattle.iw_memory.proofs.memory.Memory.hold.Goals as goal

pub invariant_of-self : goal.invariant_of-self
invariant_of-self g c = record {
  sound = IsSound-same_get c.self.invariant.sound (λ k. ap (λ s. get s k) c.reserve.ensures.rest_kept);
  shared = λ none. AreShared-same_get (c.self.invariant.shared none) (λ k. ap (λ s. get s k) c.reserve.ensures.rest_kept);
  no_octets = c.self.invariant.no_octets;
}

pub make_room-requires-clause-added : goal.make_room-requires-clause-added
make_room-requires-clause-added g c =
    rw c.domain-pd.ensures (added_known c.self.inside.domains c.self.inside.regions c.args.self.now c.args.stag.domain c.self.view_is c.requires.vacant.added)

pub make_room-requires-clause-small : goal.make_room-requires-clause-small
make_room-requires-clause-small g c = rw c.slot-slot.ensures c.requires.vacant.small

pub invariant_of-self-in-Err : goal.invariant_of-self-in-Err
invariant_of-self-in-Err g c = record {
  sound = subst (λ (ds : Slots). IsSound ds c.reserve.new.self) (sym c.in-Err.ensures.err) (IsSound-same_get c.self.invariant.sound (λ k. ap (λ s. get s k) c.reserve.ensures.rest_kept));
  shared = λ none. AreShared-same_get (c.self.invariant.shared none) (λ k. ap (λ s. get s k) c.reserve.ensures.rest_kept);
  no_octets = c.self.invariant.no_octets;
}

pub returns-in-Err-clause-err : goal.returns-in-Err-clause-err
returns-in-Err-clause-err g c =
    ap (λ ds. table_of ds c.reserve.new.self) c.in-Err.ensures.err
    ∙ table_of-same_get c.self.inside.domains c.self.inside.regions c.reserve.new.self (λ k. ap (λ s. get s k) c.reserve.ensures.rest_kept)
    ∙ c.self.view_is

pub set_slot-requires : goal.set_slot-requires
set_slot-requires g c =
    let ds = c.self.inside.domains in let pd = c.domain-pd.result in
    let there : is_some (get_or ds pd None) ≡ true = rw c.domain-pd.ensures (added_known ds c.self.inside.regions c.args.self.now c.args.stag.domain c.self.view_is c.requires.vacant.added) in
    rw (slots_in-sets c.in-Ok.ensures.ok (domain_added ds pd there)) (within_room (slots_in ds pd) c.slot-slot.result)

pub invariant_of-self-2 : goal.invariant_of-self-2
invariant_of-self-2 g c =
    let ds = c.self.inside.domains in let pd = c.domain-pd.result in let i = c.slot-slot.result in
    let there : is_some (get_or ds pd None) ≡ true = rw c.domain-pd.ensures (added_known ds c.self.inside.regions c.args.self.now c.args.stag.domain c.self.view_is c.requires.vacant.added) in
    let small : i < 1024 = rw c.slot-slot.ensures c.requires.vacant.small in
    let within : i < length (slots_in c.make_room.new.self pd) = rw (slots_in-sets c.in-Ok.ensures.ok (domain_added ds pd there)) (within_room (slots_in ds pd) i) in
    let middle : IsSound c.make_room.new.self c.reserve.new.self = IsSound-same_links (IsSound-same_get c.self.invariant.sound (λ k. ap (λ s. get s k) c.reserve.ensures.rest_kept)) pd (with_room_at (slots_in ds pd) i) there c.in-Ok.ensures.ok (small_room (slots_in ds pd) i small (c.self.invariant.sound.few pd)) (link_with_room (slots_in ds pd) i) in
    record {
      sound = IsSound-set_slot middle pd i _ c.set_slot.ensures within (same_after_insert middle c.insert_reserved-at.result pd i _ c.insert_reserved-at.ensures.was_vacant c.insert_reserved-at.ensures.updates) (λ k e. record { region = _; held = ap (get c.insert_reserved-at.new.self) (sym (same_Some _ _ e)) ∙ c.insert_reserved-at.ensures.updates.changed; limits = c.requires.limits });
      shared = λ none. AreShared-limited c.self.invariant.shared (λ k. ap (λ s. get s k) c.reserve.ensures.rest_kept) c.insert_reserved-at.ensures.updates c.is_limited-self-inside.ensures none;
      no_octets = c.self.invariant.no_octets;
    }

pub returns-clause-ok : goal.returns-clause-ok
returns-clause-ok g c =
    let ds = c.self.inside.domains in let pd = c.domain-pd.result in let i = c.slot-slot.result in let rs = c.self.inside.regions in
    let there : is_some (get_or ds pd None) ≡ true = rw c.domain-pd.ensures (added_known ds rs c.args.self.now c.args.stag.domain c.self.view_is c.requires.vacant.added) in
    let small : i < 1024 = rw c.slot-slot.ensures c.requires.vacant.small in
    let kept = λ (k : ℕ). let e : get c.reserve.new.self k ≡ get rs k = ap (λ s. get s k) c.reserve.ensures.rest_kept in e in
    let middle : IsSound c.make_room.new.self c.reserve.new.self = IsSound-same_links (IsSound-same_get c.self.invariant.sound kept) pd (with_room_at (slots_in ds pd) i) there c.in-Ok.ensures.ok (small_room (slots_in ds pd) i small (c.self.invariant.sound.few pd)) (link_with_room (slots_in ds pd) i) in
    let name : Stag = record { domain = pd; slot = i; key = c.key.result } in
    let named : name ≡ c.args.stag = λ t. record { domain = c.domain-pd.ensures t; slot = c.slot-slot.ensures t; key = c.key.ensures t } in
    let region = region_of c.args.base c.args.octets c.args.rights c.args.bound in
    table_of-registered ds c.make_room.new.self c.set_slot.new.self c.reserve.new.self c.insert_reserved-at.new.self name c.insert_reserved-at.result _
    (domain_added ds pd there) c.in-Ok.ensures.ok c.set_slot.ensures
    (same_after_insert middle c.insert_reserved-at.result pd i _ c.insert_reserved-at.ensures.was_vacant c.insert_reserved-at.ensures.updates)
    c.insert_reserved-at.ensures.updates.changed
    ∙ ap (λ t. registered_at t name region) (table_of-same_get ds rs c.reserve.new.self kept ∙ c.self.view_is)
    ∙ ap (λ s. registered_at c.args.self.now s region) named
