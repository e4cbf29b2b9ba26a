-- Words that are printed as they are read.
use Rattle.std.proofs.Common.{◌≡◌, Bool, true, false, zero, suc, Option, Some, None, refl, arith}
use Rattle.std.specs.Int.{w16, to_be_bytes, from_be_bytes}
use Rattle.std.proofs.lemmas.Nat.{from_be_bytes-to_be_bytes_2}
use Rattle.hex.specs.Hex.{IsBytes}
use Rattle.hex.proofs.HexLemmas.{decode_of-encode_lower}
use Rattle.iw_octets.specs.declared.stag.Stag.{Stag}
use Rattle.iw_octets.specs.Stag.{FitsStag, spelled, stag_at}
use Rattle.iw_schedules.specs.SendKind.{send_text, kind_of}
use Rattle.iw_schedules.specs.Answers.{stag_text, optional_stag_text}
use Rattle.iw_schedules.specs.Grammar.{IsStag, IsKind}
use Rattle.iw_schedules.specs.Grammar.IsKind.{plain, solicited, invalidating, both}
use Rattle.iw_schedules.specs.Laws.{MayFit}

octets_of : (stag : Stag) → FitsStag stag → IsBytes (spelled stag)
octets_of stag fits zero = fits.domain
octets_of stag fits (suc zero) = omega (arith, fits.slot)
octets_of stag fits (suc (suc zero)) = omega (arith, fits.slot)
octets_of stag fits (suc (suc (suc zero))) = fits.key
octets_of stag fits (suc (suc (suc (suc i)))) = omega arith

spelled_again : (stag : Stag) → FitsStag stag → stag_at (spelled stag) 0 ≡ stag
spelled_again stag fits =
    let slot : from_be_bytes w16 (to_be_bytes w16 stag.slot) ≡ stag.slot = from_be_bytes-to_be_bytes_2 stag.slot fits.slot in
    λ i. record { domain = stag.domain; slot = slot i; key = stag.key }

pub named_alike : (stag : Stag) → FitsStag stag → IsStag (stag_text stag) stag
named_alike stag fits =
    record {
      octets = spelled stag;
      digits = record { digits = decode_of-encode_lower (spelled stag) (octets_of stag fits); some = omega arith };
      four = refl;
      value = spelled_again stag fits;
    }

pub sent_alike : (solicited : Bool) (invalidate : Option Stag) → MayFit invalidate → IsKind (send_text (kind_of solicited invalidate)) (optional_stag_text invalidate) solicited invalidate
sent_alike false None fits = plain
sent_alike true None fits = solicited
sent_alike false (Some stag) fits = invalidating (named_alike stag fits)
sent_alike true (Some stag) fits = both (named_alike stag fits)
