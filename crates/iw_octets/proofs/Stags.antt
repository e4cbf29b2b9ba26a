-- STags and their numbers.
use Rattle.std.proofs.Common.{◌≡◌, arith}
use Rattle.iw_octets.specs.Stag.{StagFields, number_of, FitsStag}

-- two STags of one number are one
pub same_number : (a b : StagFields) → FitsStag a → FitsStag b → number_of a ≡ number_of b → a ≡ b
same_number a b fa fb e =
    let domain : a.domain ≡ b.domain = omega (arith, e, fa.slot, fa.key, fb.slot, fb.key) in
    let slot : a.slot ≡ b.slot = omega (arith, e, fa.slot, fa.key, fb.slot, fb.key) in
    let key : a.key ≡ b.key = omega (arith, e, fa.slot, fa.key, fb.slot, fb.key) in
    λ i. record { domain = domain i; slot = slot i; key = key i }
