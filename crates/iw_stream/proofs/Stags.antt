-- STags and their numbers.
use Rattle.std.proofs.Common.{◌≡◌, ℕ, ◌/◌, ◌%◌, sym, ap, ◌∙◌, arith}
use Rattle.iw_octets.specs.declared.stag.Stag.{Stag}
use Rattle.iw_octets.specs.Stag.{number_of, stag_of, FitsStag}

pub stag_of-number_of : (stag : Stag) → FitsStag stag → stag_of (number_of stag) ≡ stag
stag_of-number_of stag fits =
    let domain : number_of stag / 0x1000000 ≡ stag.domain = omega (arith, fits.slot, fits.key) in
    let slot : number_of stag / 0x100 % 0x10000 ≡ stag.slot = omega (arith, fits.slot, fits.key) in
    let key : number_of stag % 0x100 ≡ stag.key = omega (arith, fits.key) in
    λ i. record { domain = domain i; slot = slot i; key = key i }

pub number_of-stag_of : (number : ℕ) → number_of (stag_of number) ≡ number
number_of-stag_of number = omega arith

pub stag_of-number : (stag : Stag) (number : ℕ) → FitsStag stag → number_of stag ≡ number → stag ≡ stag_of number
stag_of-number stag number fits is = sym (stag_of-number_of stag fits) ∙ ap stag_of is
