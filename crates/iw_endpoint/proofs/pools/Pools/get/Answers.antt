use Rattle.std.proofs.Common.{rules, ◌≡◌, ◌<◌, ◌≤◌, ◌∙◌, ap, sym, arith, length, slice_index_or, None}
use Rattle.std.specs.Option.{option_copied}
use Rattle.std.proofs.lemmas.Bool.Decides.{nat_tests}
use Rattle.std.proofs.lemmas.List.{get_or_default, get_or_past}
use Rattle.iw_endpoint.specs.Endpoint.{domain_numbers}
use Rattle.iw_endpoint.proofs.Filled.{at_filled}
use Rattle.iw_endpoint.proofs.pools.Pools.get.Goals as goal

pub returns : goal.returns
returns g c =
    let within : c.args.pd < length c.deref.result.now = (let test = c.in_ok-get.ensures.lookup.0 in grind (arith, nat_tests)) in
    c.as_ref.ensures.value ∙ c.in_ok-get.ensures.lookup.1 ∙ get_or_default c.deref.result.now c.args.pd c.in_ok-get.field-0.now None within
    ∙ ap (λ xs. slice_index_or xs c.args.pd None) c.deref.ensures.value
    ∙ sym (at_filled domain_numbers c.self.inside.places.items c.args.pd)
    ∙ ap (λ xs. slice_index_or xs c.args.pd None) c.self.view_is

pub returns-in_err-get : goal.returns-in_err-get
returns-in_err-get g c =
    let past : length c.deref.result.now ≤ c.args.pd = (let test = c.in_err-get.ensures.lookup in grind (arith, nat_tests)) in
    let none : option_copied c.from_residual.result ≡ None = search rules in
    none ∙ sym (get_or_past c.deref.result.now c.args.pd None past)
    ∙ ap (λ xs. slice_index_or xs c.args.pd None) c.deref.ensures.value
    ∙ sym (at_filled domain_numbers c.self.inside.places.items c.args.pd)
    ∙ ap (λ xs. slice_index_or xs c.args.pd None) c.self.view_is
