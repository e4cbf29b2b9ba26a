use Rattle.std.proofs.Common.{Some, set, is_some, get_or, None, ap, ◌∙◌, IsTrue}
use Rattle.std.proofs.lemmas.Result.{on_ok_weaker, on_err_weaker}
use Rattle.iw_memory.specs.Inside.{slots_in, with_room_at, all_places}
use Rattle.iw_memory.proofs.PlaceLemmas.{places-set, place_within, slots_known, set-slots_same}
use Rattle.iw_memory.proofs.slots.Domains.make_room.Goals as goal

pub returns-clause-ok : goal.returns-clause-ok
returns-clause-ok g c =
    let places = c.self.inside.places.items in let d = c.args.pd in
    let there : IsTrue (is_some (get_or (all_places places) d None)) = ap (λ ds. is_some (get_or ds d None)) c.self.view_is ∙ c.requires.added in
    let within = place_within places d there in
    let known = slots_known places d c.index_mut.result.now c.in-Some.slots within c.index_mut.ensures.value c.in-Some.is in
    on_ok_weaker c.room_for.result (λ are. record {
      after =
          places-set places d _ (with_room_at (slots_in (all_places places) d) c.args.slot) within (are ∙ ap (λ xs. with_room_at xs c.args.slot) known)
          ∙ ap (λ ds. set ds d (Some (with_room_at (slots_in ds d) c.args.slot))) c.self.view_is;
    }) c.room_for.ensures.ok

pub returns-clause-err : goal.returns-clause-err
returns-clause-err g c =
    let places = c.self.inside.places.items in let d = c.args.pd in
    let there : IsTrue (is_some (get_or (all_places places) d None)) = ap (λ ds. is_some (get_or ds d None)) c.self.view_is ∙ c.requires.added in
    let within = place_within places d there in
    let known = slots_known places d c.index_mut.result.now c.in-Some.slots within c.index_mut.ensures.value c.in-Some.is in
    on_err_weaker c.room_for.result (λ are.
    places-set places d _ (slots_in (all_places places) d) within (are ∙ known)
    ∙ set-slots_same (all_places places) d there ∙ c.self.view_is) c.room_for.ensures.err
