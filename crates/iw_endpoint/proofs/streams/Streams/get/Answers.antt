use Rattle.std.proofs.Common.{rules, ◌≡◌, ◌∙◌, sym, Some, None}
use Rattle.std.specs.Option.{option_copied}
use Rattle.std.specs.Prelude.{nat_eq}
use Rattle.std.specs.HashMap as hash
use Rattle.slab.specs.Slab as slab
use Rattle.iw_endpoint.proofs.Numbers.{not_there, there_at}
use Rattle.iw_endpoint.proofs.streams.Streams.get.Goals as goal

pub returns-in_err-place : goal.returns-in_err-place
returns-in_err-place g c =
    let none : option_copied c.from_residual.result ≡ None = search rules in
    let key : hash.get nat_eq c.self.inside.keys c.args.number ≡ None = search rules in
    none ∙ not_there _ _ c.self.inside.next c.args.number c.args.self.now c.self.invariant c.self.view_is key

pub returns-in_err-get : goal.returns-in_err-get
returns-in_err-get g c =
    let none : option_copied c.from_residual-in_err-get.result ≡ None = search rules in
    let key : hash.get nat_eq c.self.inside.keys c.args.number ≡ Some c.in_ok-place.field-0.now = search rules in
    let place : slab.get c.self.inside.places c.in_ok-place.field-0.now ≡ None = search rules in
    none ∙ sym place ∙ there_at _ _ c.self.inside.next c.args.number c.in_ok-place.field-0.now c.args.self.now c.self.invariant c.self.view_is key

pub returns : goal.returns
returns g c =
    let key : hash.get nat_eq c.self.inside.keys c.args.number ≡ Some c.in_ok-place.field-0.now = search rules in
    let place : Some c.get-3.result.now ≡ slab.get c.self.inside.places c.in_ok-place.field-0.now = search rules in
    place ∙ there_at _ _ c.self.inside.next c.args.number c.in_ok-place.field-0.now c.args.self.now c.self.invariant c.self.view_is key
