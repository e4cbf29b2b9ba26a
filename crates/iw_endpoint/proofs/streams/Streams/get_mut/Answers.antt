use Rattle.std.proofs.Common.{rules, ◌≡◌, ◌∙◌, sym, ap, slice_index_or, Some, None, inl}
use Rattle.std.specs.Option.{option_copied_mut}
use Rattle.std.specs.Prelude.{nat_eq}
use Rattle.std.specs.HashMap as hash
use Rattle.slab.specs.Slab as slab
use Rattle.iw_endpoint.proofs.Numbers.{not_there, there_at, keeps_lent, lent}
use Rattle.iw_endpoint.proofs.streams.Streams.get_mut.Goals as goal

pub returns-in_err-place : goal.returns-in_err-place
returns-in_err-place g c =
    let key : hash.get nat_eq c.self.inside.keys c.args.number ≡ None = search rules in
    let none : None ≡ slice_index_or c.args.self.now c.args.number None = not_there _ _ c.self.inside.next c.args.number c.args.self.now c.self.invariant c.self.view_is key in
    (search rules, record { lends = tt; found = ap option_copied_mut c.from_residual.ensures ∙ none })

pub returns-in_err-self-inside : goal.returns-in_err-self-inside
returns-in_err-self-inside g c =
    let key : hash.get nat_eq c.self.inside.keys c.args.number ≡ Some c.in_ok-place.field-0.now = search rules in
    let place : slab.get c.self.inside.places c.in_ok-place.field-0.now ≡ None = search rules in
    let here = there_at _ _ c.self.inside.next c.args.number c.in_ok-place.field-0.now c.args.self.now c.self.invariant c.self.view_is key in
    (search rules, record { lends = tt; found = ap option_copied_mut c.from_residual-in_err-self-inside.ensures ∙ sym place ∙ here })

pub invariant_of-self-lent : goal.invariant_of-self-lent
invariant_of-self-lent g c w =
    let key : hash.get nat_eq c.self.inside.keys c.args.number ≡ Some c.in_ok-place.field-0.now = search rules in
    keeps_lent _ c.self.inside.places c.self.inside.next c.args.number c.in_ok-place.field-0.now c.args.self.now c.self.invariant c.self.view_is key w

pub returns : goal.returns
returns g c =
    let key : hash.get nat_eq c.self.inside.keys c.args.number ≡ Some c.in_ok-place.field-0.now = search rules in
    let here = there_at _ _ c.self.inside.next c.args.number c.in_ok-place.field-0.now c.args.self.now c.self.invariant c.self.view_is key in
    let place : Some c.in_ok-self-inside.field-0.now ≡ slab.get c.self.inside.places c.in_ok-place.field-0.now = search rules in (
      (λ i. inl (c.get_mut-2.result.ghost_name, λ w. lent _ c.self.inside.places c.self.inside.next c.args.number c.in_ok-place.field-0.now c.args.self.now c.self.invariant c.self.view_is key w i)),
      record { lends = tt; found = ap Some c.get_mut-2.ensures.found ∙ place ∙ here },
    )
