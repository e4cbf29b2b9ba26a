-- One read at a stream.
use Rattle.std.proofs.Common.{◌≡◌, ℕ, zero, suc, ◌+◌, ◌-◌, ◌<◌, ◌≤◌, true, false, if◌then◌else◌, List, [], ◌∷◌, drop, length, min, Option, None, Ok, refl, sym, ap, ◌∙◌, subst, arith}
use Rattle.std.specs.Prelude.{Result, slice_index}
use Rattle.std.specs.Io.KnownBytes.{Consumes}
use Rattle.std.proofs.lemmas.Bool.{true≢false}
use Rattle.iw_ranges.specs.declared.Delivery.TheVariants.{Kept, Dropped}
use Rattle.iw_ranges.specs.Arrived.{Arrived, delivery, taken_in, end_of}
use Rattle.iw_ranges.proofs.ByPlace.{delivered-kept}
use Rattle.iw_ranges.proofs.NearPlaces.{near_back, near_inside}
use Rattle.iw_stream.specs.declared.intake.Intake.{Intake}
use Rattle.iw_stream.specs.declared.intake.Intake.TheVariants.{Came, End, Full}
use Rattle.iw_stream.specs.declared.intake.TheConstants.{MOST_READ}
use Rattle.iw_stream.specs.Frames.{EarlyRecord}
use Rattle.iw_stream.specs.Kept.{Keeps}
use Rattle.iw_stream.specs.Reading.{Brings, Reads, Took, Counts, room_ahead, number_past}
use Rattle.iw_stream.specs.Stream.{StreamState, ended, place_of, left_out, delivery_of, after_deliver}
use Rattle.iw_stream.proofs.Keeping.{keeps_delivered}

-- ---- what was read at a stream that runs is kept
module _ (s : StreamState) (near : end_of s.arrived ≤ s.arrived.floor + 262144) where
  place_read : place_of s (number_past s) ≡ end_of s.arrived
  place_read = near_back s.first (end_of s.arrived) s.arrived.floor (omega arith) (omega arith)

  none_left : left_out s (number_past s) ≡ 0
  none_left = near_inside s.first (end_of s.arrived) s.arrived.floor (omega arith) (omega arith)

  read_kept : (n : ℕ) → ended s ≡ false → delivery s.arrived (end_of s.arrived) n ≡ Kept → delivery_of s (number_past s) n ≡ Kept
  read_kept n runs kept =
      let all : n - 0 ≡ n = omega arith in
      ap (λ b. if b then Dropped else delivery s.arrived (place_of s (number_past s)) (n - left_out s (number_past s))) runs
      ∙ (λ i. delivery s.arrived (place_read i) (n - none_left i)) ∙ ap (delivery s.arrived (end_of s.arrived)) all ∙ kept

  read_taken : (octets : List ℕ) → taken_in s.arrived (place_of s (number_past s)) (drop (left_out s (number_past s)) octets) ≡ taken_in s.arrived (end_of s.arrived) octets
  read_taken octets = λ i. taken_in s.arrived (place_read i) (drop (none_left i) octets)

pub took_running : (s : StreamState) (after : Arrived) (before rest : Option (List ℕ)) (n : ℕ) → ended s ≡ false → 0 < n → n ≤ min MOST_READ (room_ahead s.arrived) → Brings s.arrived after before rest n
    → Took s (record s { arrived = after; answered = true }) before rest n
took_running s after before rest n runs some few b =
    let kept : delivery_of s (number_past s) n ≡ Kept = read_kept s b.near n runs b.kept in
    let whole : delivery_of s (number_past s) (length b.octets) ≡ Kept = ap (delivery_of s (number_past s)) b.len ∙ kept in
    let there : after ≡ taken_in s.arrived (place_of s (number_past s)) (drop (left_out s (number_past s)) b.octets) =
    b.taken ∙ delivered-kept s.arrived (end_of s.arrived) b.octets (ap (delivery s.arrived (end_of s.arrived)) b.len ∙ b.kept) ∙ sym (read_taken s b.near b.octets) in
    record {
      octets = b.octets;
      len = b.len;
      given = b.given;
      delivered = ap (λ a. record s { arrived = a; answered = true }) there ∙ sym (ap (after_deliver s (number_past s) b.octets) whole);
      some = some;
      most = omega (arith, few);
      kept = λ e. kept;
      fits = λ e. omega (arith, few);
    }

-- ---- at one that has ended it is dropped
pub took_ended : (s : StreamState) (before rest : Option (List ℕ)) (octets : List ℕ) (n : ℕ) → ended s ≡ true → 0 < n → n ≤ 4096 → length octets ≡ n → Consumes before rest octets
    → Took s (record s { answered = true }) before rest n
took_ended s before rest octets n over some few len given =
    let dropped : delivery_of s (number_past s) (length octets) ≡ Dropped = ap (λ b. if b then Dropped else delivery s.arrived (place_of s (number_past s)) (length octets - left_out s (number_past s))) over in
    record {
      octets = octets;
      len = len;
      given = given;
      delivered = sym (ap (after_deliver s (number_past s) octets) dropped);
      some = some;
      most = omega (arith, few);
      kept = λ e. absurd (true≢false (sym over ∙ e));
      fits = λ e. absurd (true≢false (sym over ∙ e));
    }

-- ---- the same of octets that the owner read
pub counts_running : (s : StreamState) (after : Arrived) (n : ℕ) → ended s ≡ false → 0 < n → n ≤ min MOST_READ (room_ahead s.arrived) → Brings s.arrived after None None n
    → Counts s (record s { arrived = after; answered = true }) n
counts_running s after n runs some few b =
    let kept : delivery_of s (number_past s) n ≡ Kept = read_kept s b.near n runs b.kept in
    let whole : delivery_of s (number_past s) (length b.octets) ≡ Kept = ap (delivery_of s (number_past s)) b.len ∙ kept in
    let there : after ≡ taken_in s.arrived (place_of s (number_past s)) (drop (left_out s (number_past s)) b.octets) =
    b.taken ∙ delivered-kept s.arrived (end_of s.arrived) b.octets (ap (delivery s.arrived (end_of s.arrived)) b.len ∙ b.kept) ∙ sym (read_taken s b.near b.octets) in
    record {
      octets = b.octets;
      len = b.len;
      small = b.small;
      delivered = ap (λ a. record s { arrived = a; answered = true }) there ∙ sym (ap (after_deliver s (number_past s) b.octets) whole);
      some = some;
      most = omega (arith, few);
      kept = λ e. kept;
      fits = λ e. omega (arith, few);
    }

abbrev zeros : ℕ → List ℕ
zeros zero = []
zeros (suc n) = 0 ∷ zeros n

length-zeros : (n : ℕ) → length (zeros n) ≡ n
length-zeros zero = refl
length-zeros (suc n) = ap suc (length-zeros n)

small-zeros : (n k : ℕ) → slice_index (zeros n) k < 256
small-zeros zero k = omega arith
small-zeros (suc n) zero = omega arith
small-zeros (suc n) (suc k) = small-zeros n k

-- whatever they were
pub counts_ended : (s : StreamState) (n : ℕ) → ended s ≡ true → 0 < n → n ≤ MOST_READ → Counts s (record s { answered = true }) n
counts_ended s n over some few =
    let dropped : delivery_of s (number_past s) (length (zeros n)) ≡ Dropped = ap (λ b. if b then Dropped else delivery s.arrived (place_of s (number_past s)) (length (zeros n) - left_out s (number_past s))) over in
    record {
      octets = zeros n;
      len = length-zeros n;
      small = small-zeros n;
      delivered = sym (ap (after_deliver s (number_past s) (zeros n)) dropped);
      some = some;
      most = few;
      kept = λ e. absurd (true≢false (sym over ∙ e));
      fits = λ e. absurd (true≢false (sym over ∙ e));
    }

-- ---- what the stream keeps of its fields
pub keeps_read : (s : StreamState) (after : Arrived) (es : List EarlyRecord) (before rest : Option (List ℕ)) (intake : Intake) → Reads s.arrived after before rest intake → es ≡ s.early → Keeps s
    → Keeps (record s { arrived = after; early = es })
keeps_read s after es before rest intake r early k = subst (λ (xs : List EarlyRecord). Keeps (record s { arrived = after; early = xs })) (sym early) (go intake r)
  where
    go : (x : Intake) → Reads s.arrived after before rest x → Keeps (record s { arrived = after })
    go (Came n) t = keeps_delivered s (end_of s.arrived) t.2.octets (let ok : Result ℕ ℕ = Ok 0 in ok) after t.2.taken tt k
    go End t = subst (λ (a : Arrived). Keeps (record s { arrived = a })) (sym t.0) k
    go Full t = subst (λ (a : Arrived). Keeps (record s { arrived = a })) (sym t.0) k

pub keeps_unread : (s : StreamState) (after : Arrived) (es : List EarlyRecord) → after ≡ s.arrived → es ≡ s.early → Keeps s → Keeps (record s { arrived = after; early = es })
keeps_unread s after es same early k = subst Keeps (λ i. record s { arrived = sym same i; early = sym early i }) k
