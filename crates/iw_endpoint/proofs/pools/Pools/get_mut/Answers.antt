use Rattle.std.proofs.Common.{rules, ◌≡◌, ◌<◌, ◌∙◌, refl, sym, ap, arith, length, slice_index_or, slice_set, Some, None}
use Rattle.std.specs.Option.{ghost_name_of}
use Rattle.std.proofs.lemmas.List.{set-get_or}
use borrow.Follows.Closed.{read_of}
use Rattle.iw_endpoint.specs.Endpoint.{domain_numbers}
use Rattle.iw_endpoint.specs.Numbers.{filled}
use Rattle.iw_endpoint.proofs.Filled.{at_filled, set_filled}
use Rattle.iw_endpoint.proofs.pools.Pools.get_mut.Goals as goal

pub returns : goal.returns
returns g c =
    let items = c.self.inside.places.items in
    let pd = c.args.pd in
    let within : pd < length items = omega (arith, c.self.inside.places.ok.0, c.in_ok-self-inside.ensures.variant.0 refl) in
    let here : c.in_ok-self-inside.field-0.now ≡ slice_index_or items pd None = search rules in (
      (λ i. read_of (ghost_name_of c.as_mut.result)
          (λ w. (set_filled domain_numbers items pd (Some w) within ∙ ap (λ xs. slice_set xs pd (Some w)) c.self.view_is) i)
          ((ap (filled domain_numbers) (ap (slice_set items pd) here ∙ set-get_or items pd None) ∙ c.self.view_is) i)),
      record { lends = tt; found = c.as_mut.ensures.value ∙ here ∙ sym (at_filled domain_numbers items pd) ∙ ap (λ xs. slice_index_or xs pd None) c.self.view_is },
    )
