use Rattle.std.proofs.Common.{◌≡◌, [], ◌∷◌, List, get_or, Option, refl, ap, arith}
use Rattle.std.specs.Prelude.{ℕ, unwrap_or}
use Rattle.iw_memory.specs.Table.{empty}
use Rattle.iw_endpoint.specs.Endpoint.{octets_of}
use Rattle.iw_endpoint.specs.Copied.{own, RefusesCopiedOctets}
use Rattle.iw_endpoint.proofs.Limited.{numbers_known}
use Rattle.iw_endpoint.proofs.laws.refuses_copied_octets.Goals as goal

abbrev first : Option (List ℕ) → ℕ
first o = get_or (unwrap_or o []) 0 0

refuses : RefusesCopiedOctets
unfolding empty
refuses = record {
  known = numbers_known [];
  limited = record { region = _; found = refl; other = 2; limited = refl; apart = λ same. absurd (omega (arith, same)) };
  kept = refl;
  unseen = λ octets. refl;
  shown = refl;
  refused = λ h. let no : 0 ≡ 94 = ap (λ e. first (octets_of e own)) (h.alike (0 ∷ [])) in absurd (omega (arith, no));
}

pub returns : goal.returns
returns c = refuses
