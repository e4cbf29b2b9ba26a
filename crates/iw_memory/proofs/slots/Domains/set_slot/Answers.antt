use Rattle.std.proofs.Common.{◌<◌, Some, set, length, subst, sym, ap, ◌∙◌}
use Rattle.iw_memory.specs.Inside.{Slots, slots_in, all_places}
use Rattle.iw_memory.proofs.PlaceLemmas.{places-set, place_of_slot, slots_known}
use Rattle.iw_memory.proofs.slots.Domains.set_slot.Goals as goal

pub returns : goal.returns
returns g c =
    let places = c.self.inside.places.items in let d = c.args.domain in
    let within = place_of_slot places d c.args.slot (subst (λ (ds : Slots). c.args.slot < length (slots_in ds d)) (sym c.self.view_is) c.requires) in
    let known = slots_known places d c.index_mut.result.now c.in-Some.slots within c.index_mut.ensures.value c.in-Some.is in
    record {
      after =
          places-set places d _ (set (slots_in (all_places places) d) c.args.slot c.args.state) within (c.set.ensures ∙ ap (λ xs. set xs c.args.slot c.args.state) known)
          ∙ ap (λ ds. set ds d (Some (set (slots_in ds d) c.args.slot c.args.state))) c.self.view_is;
    }
