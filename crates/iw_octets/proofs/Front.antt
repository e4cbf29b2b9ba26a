-- A header is read off the octets at the front: more behind them change the rest alone.
use Rattle.std.proofs.Common.{◌≡◌, ℕ, ◌+◌, ◌<◌, ◌≤◌, Bool, true, false, List, [], ◌∷◌, ◌++◌, length, drop, take, get_or, Some, None, refl, sym, ap, ◌∙◌, arith, length-append, length-drop, inl, inr}
use Rattle.std.specs.Int.{w16, w32, w64, from_be_bytes}
use Rattle.std.specs.Option.{option_map}
use Rattle.std.proofs.Math.ListN.{get_or-append}
use Rattle.std.proofs.lemmas.List.{take-append-le, drop-append-le}
use Rattle.std.proofs.lemmas.Bool.{cases_lt}
use Rattle.std.proofs.lemmas.Option.{none-some, same_Some}
use Rattle.iw_octets.specs.declared.segment.Segment.{Segment}
use Rattle.iw_octets.specs.declared.segment.Segment.TheVariants.{Tagged, Untagged}
use Rattle.iw_octets.specs.Stag.{stag_at}
use Rattle.iw_octets.specs.Head.{is_tagged, is_last, version_of, number_32, number_64, tagged_fields, untagged_fields, read_tagged, read_untagged}
use Rattle.iw_octets.specs.Segment.{read_segment, with_past}
use Rattle.iw_octets.proofs.Spelled.{read_tagged-long, read_tagged-short, read_untagged-long, read_untagged-short}
use Rattle.iw_octets.proofs.Segments.{read_segment-tagged, read_segment-untagged, read_segment-none}

field : (octets more : List ℕ) (at n : ℕ) → at + n ≤ length octets → take n (drop at (octets ++ more)) ≡ take n (drop at octets)
field octets more at n h =
    let inside : at ≤ length octets = omega arith in
    ap (take n) (drop-append-le at octets more inside) ∙ take-append-le n (drop at octets) more (omega (arith, length-drop at octets))

stag_field : (octets more : List ℕ) (at : ℕ) → at + 4 ≤ length octets → stag_at (octets ++ more) at ≡ stag_at octets at
stag_field octets more at h =
    let domain = get_or-append octets more 0 at (omega arith) in
    let slot = ap (from_be_bytes w16) (field octets more (at + 1) 2 (omega arith)) in
    let key = get_or-append octets more 0 (at + 3) (omega arith) in
    λ i. record { domain = domain i; slot = slot i; key = key i }

number_field_32 : (octets more : List ℕ) (at : ℕ) → at + 4 ≤ length octets → number_32 (octets ++ more) at ≡ number_32 octets at
number_field_32 octets more at h = ap (from_be_bytes w32) (field octets more at 4 h)

number_field_64 : (octets more : List ℕ) (at : ℕ) → at + 8 ≤ length octets → number_64 (octets ++ more) at ≡ number_64 octets at
number_field_64 octets more at h = ap (from_be_bytes w64) (field octets more at 8 h)

pub tagged_fields-append : (octets more : List ℕ) → 14 ≤ length octets → tagged_fields (octets ++ more) ≡ tagged_fields octets
tagged_fields-append octets more h =
    let first = get_or-append octets more 0 0 (omega arith) in
    let control = get_or-append octets more 0 1 (omega arith) in
    let stag = stag_field octets more 2 (omega arith) in
    let to = number_field_64 octets more 6 (omega arith) in
    λ i. record { last = is_last (first i); ddp_version = version_of (first i); control = control i; stag = stag i; to = to i }

pub untagged_fields-append : (octets more : List ℕ) → 18 ≤ length octets → untagged_fields (octets ++ more) ≡ untagged_fields octets
untagged_fields-append octets more h =
    let first = get_or-append octets more 0 0 (omega arith) in
    let control = get_or-append octets more 0 1 (omega arith) in
    let tail = number_field_32 octets more 2 (omega arith) in
    let queue = number_field_32 octets more 6 (omega arith) in
    let msn = number_field_32 octets more 10 (omega arith) in
    let mo = number_field_32 octets more 14 h in
    λ i. record { last = is_last (first i); ddp_version = version_of (first i); control = control i; tail = tail i; queue = queue i; msn = msn i; mo = mo i }

pub read_tagged-append : (octets more : List ℕ) → 14 ≤ length octets → read_tagged (octets ++ more) ≡ Some (tagged_fields octets, drop 14 octets ++ more)
read_tagged-append octets more h =
    let fields = tagged_fields-append octets more h in
    let rest = drop-append-le 14 octets more h in
    read_tagged-long (octets ++ more) (omega (arith, length-append octets more)) ∙ (λ i. Some (fields i, rest i))

pub read_untagged-append : (octets more : List ℕ) → 18 ≤ length octets → read_untagged (octets ++ more) ≡ Some (untagged_fields octets, drop 18 octets ++ more)
read_untagged-append octets more h =
    let fields = untagged_fields-append octets more h in
    let rest = drop-append-le 18 octets more h in
    read_untagged-long (octets ++ more) (omega (arith, length-append octets more)) ∙ (λ i. Some (fields i, rest i))

-- a segment is its header's fields and the octets behind the header
pub read_segment-long_tagged : (octets : List ℕ) → 14 ≤ length octets → is_tagged (get_or octets 0 0) ≡ true → read_segment octets ≡ Some (Tagged (tagged_fields octets) (drop 14 octets))
read_segment-long_tagged octets h tagged =
    read_segment-tagged octets (omega arith) tagged ∙ ap (option_map (λ read. Tagged read.0 read.1)) (read_tagged-long octets h)

pub read_segment-long_untagged : (octets : List ℕ) → 18 ≤ length octets → is_tagged (get_or octets 0 0) ≡ false → read_segment octets ≡ Some (Untagged (untagged_fields octets) (drop 18 octets))
read_segment-long_untagged octets h untagged =
    read_segment-untagged octets (omega arith) untagged ∙ ap (option_map (λ read. Untagged read.0 read.1)) (read_untagged-long octets h)

-- octets that are too few for a segment
pub read_segment-short_tagged : (octets : List ℕ) → length octets < 14 → is_tagged (get_or octets 0 0) ≡ true → read_segment octets ≡ None
read_segment-short_tagged [] h tagged = read_segment-none
read_segment-short_tagged (first ∷ rest) h tagged =
    read_segment-tagged (first ∷ rest) (omega arith) tagged ∙ ap (option_map (λ read. Tagged read.0 read.1)) (read_tagged-short (first ∷ rest) h)

pub read_segment-short_untagged : (octets : List ℕ) → length octets < 18 → is_tagged (get_or octets 0 0) ≡ false → read_segment octets ≡ None
read_segment-short_untagged [] h untagged = read_segment-none
read_segment-short_untagged (first ∷ rest) h untagged =
    read_segment-untagged (first ∷ rest) (omega arith) untagged ∙ ap (option_map (λ read. Untagged read.0 read.1)) (read_untagged-short (first ∷ rest) h)

pub read_segment-append : (octets more : List ℕ) (segment : Segment (List ℕ)) → read_segment octets ≡ Some segment → read_segment (octets ++ more) ≡ Some (with_past segment more)
read_segment-append octets more segment e = go (is_tagged (get_or octets 0 0)) refl
  where
    first : 0 < length octets → is_tagged (get_or (octets ++ more) 0 0) ≡ is_tagged (get_or octets 0 0)
    first some = ap is_tagged (get_or-append octets more 0 0 some)

    go : (tagged : Bool) → is_tagged (get_or octets 0 0) ≡ tagged → read_segment (octets ++ more) ≡ Some (with_past segment more)
    go true tagged = elim (cases_lt (length octets) 14) [
      | inl short ↦ absurd (none-some _ (sym (read_segment-short_tagged octets short tagged) ∙ e))
      | inr long ↦
          let same : Tagged (tagged_fields octets) (drop 14 octets) ≡ segment = same_Some _ _ (sym (read_segment-long_tagged octets long tagged) ∙ e) in
          let some : 0 < length octets = omega arith in
          read_segment-tagged (octets ++ more) (omega (arith, length-append octets more)) (first some ∙ tagged)
          ∙ ap (option_map (λ read. Tagged read.0 read.1)) (read_tagged-append octets more long)
          ∙ ap (λ s. Some (with_past s more)) same
    ]
    go false untagged = elim (cases_lt (length octets) 18) [
      | inl short ↦ absurd (none-some _ (sym (read_segment-short_untagged octets short untagged) ∙ e))
      | inr long ↦
          let same : Untagged (untagged_fields octets) (drop 18 octets) ≡ segment = same_Some _ _ (sym (read_segment-long_untagged octets long untagged) ∙ e) in
          let some : 0 < length octets = omega arith in
          read_segment-untagged (octets ++ more) (omega (arith, length-append octets more)) (first some ∙ untagged)
          ∙ ap (option_map (λ read. Untagged read.0 read.1)) (read_untagged-append octets more long)
          ∙ ap (λ s. Some (with_past s more)) same
    ]
