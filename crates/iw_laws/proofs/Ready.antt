-- The RTR among what an end sends: nothing of it was sent, and then nothing at all; or it went first.
use Rattle.std.proofs.Common.{◌≡◌, ◌⊎◌, inl, inr, ℕ, ◌+◌, ◌≤◌, ◌<◌, List, [], ◌∷◌, length, map, Option, Some, None, Bool, true, false, cond, refl, sym, ap, ◌∙◌, arith}
use Rattle.std.specs.Prelude.{is_some, nat_eq, not, ◌&&◌}
use Rattle.std.specs.Option.{option_map, option_map_or}
use Rattle.std.proofs.lemmas.Bool.{true≢false}
use Rattle.std.proofs.lemmas.Bool.Decides.{nat_tests}
use Rattle.std.proofs.lemmas.Option.{none-some, same_Some}
use Rattle.iw_octets.specs.declared.segment.Segment.{Segment}
use Rattle.iw_octets.specs.Segment.{segment_octets}
use Rattle.iw_fpdu.specs.declared.layout.Layout.{Layout}
use Rattle.iw_fpdu.specs.Frame.{frame_end}
use Rattle.iw_fpdu.specs.Sequence.{sequence, first_frame}
use Rattle.iw_fpdu.proofs.Follows.{frames_follow}
use Rattle.iw_fpdu.proofs.Sequences.{written_is_first}
use Rattle.iw_queues.specs.declared.request.Request.{Request}
use Rattle.iw_reads.specs.declared.reads.Outstanding.{Outstanding}
use Rattle.iw_startup.specs.declared.config.Agreed.{Agreed}
use Rattle.iw_startup.specs.declared.config.Establishment.{Establishment}
use Rattle.iw_startup.specs.declared.config.Establishment.TheVariants.{Plain, Enhanced, PeerToPeer}
use Rattle.iw_startup.specs.declared.enhanced.EnhancedData.{EnhancedData}
use Rattle.iw_startup.specs.declared.enhanced.Rtr.{Rtr}
use Rattle.iw_startup.specs.declared.enhanced.Rtr.TheVariants.{Write, Read}
use Rattle.iw_startup.specs.Enhanced as enhanced
use Rattle.iw_startup.specs.Frame.{told}
use Rattle.iw_startup.specs.State.{StartupState, progress, has_agreed, agreement, agreed_of}
use Rattle.iw_stream.specs.Rtr.{rtr_message}
use Rattle.iw_stream.specs.Starting.{StartState, AtOnce, Unheard, Heard, is_open, most_reads_in, rtr_in, first_place_out}
use Rattle.iw_stream.specs.Stream.{StreamState, rtr_due}
use Rattle.iw_laws.specs.Words.{Octets, listed}
use Rattle.iw_laws.specs.Sends.{count_reads}
use Rattle.iw_laws.proofs.Lists.{Each}
use Rattle.iw_laws.proofs.Located.{none_first}
use Rattle.iw_laws.proofs.Sending.{IsSendable}

abbrev pub ready_in : StartState → List (Request Octets)
ready_in start = listed (option_map rtr_message (rtr_in start))

-- none is agreed on before the stream is open
pub closed_ready : (start : StartState) → is_open start ≡ false → ready_in start ≡ []
closed_ready (AtOnce layout) h = refl
closed_ready (Unheard u) h = refl
closed_ready (Heard u) h = go (agreed_of u) h
  where
    go : (a : Option Agreed) → is_some a ≡ false → listed (option_map rtr_message (option_map_or (λ (x : Agreed). x.rtr) a None)) ≡ []
    go None h = refl
    go (Some a) h = absurd (true≢false h)

-- one that is a Read has room among the Reads that may be outstanding
read_room : (e : Establishment) (word : Option EnhancedData) → enhanced.rtr_due e word ≡ Some Read → 1 ≤ enhanced.agreed_ord word
read_room Plain word h = absurd (none-some _ h)
read_room Enhanced word h = absurd (none-some _ h)
read_room PeerToPeer None h = absurd (none-some _ h)
read_room PeerToPeer (Some word) h = go word.peer_to_peer word.rtr_write word.rtr_read (nat_eq word.ird 0) refl h
  where
    go : (p w r z : Bool) → nat_eq word.ird 0 ≡ z → cond (not p) None (cond w (Some Write) (cond (r && not z) (Some Read) None)) ≡ Some Read → 1 ≤ enhanced.agreed_ord (Some word)
    go false w r z e h = absurd (none-some _ h)
    go true true r z e h = absurd (let no : Write ≡ Read = same_Some _ _ h in cc)
    go true false false z e h = absurd (none-some _ h)
    go true false true true e h = absurd (none-some _ h)
    go true false true false e h = let some : 1 ≤ word.ird = grind (arith, nat_tests) in omega (arith, some)

heard_room : (u : StartupState) → rtr_in (Heard u) ≡ Some Read → 1 ≤ most_reads_in (Heard u)
unfolding agreed_of
heard_room u h = go (has_agreed u.side (progress u)) h
  where
    go : (b : Bool) → option_map_or (λ (x : Agreed). x.rtr) (cond b (Some (agreement u.config u.octets)) None) None ≡ Some Read
        → 1 ≤ option_map_or (λ (x : Agreed). x.ord) (cond b (Some (agreement u.config u.octets)) None) 16
    go false h = absurd (none-some _ h)
    go true h = read_room u.config.establishment (told u.config.establishment u.octets) h

pub ready_room : (start : StartState) → rtr_in start ≡ Some Read → 1 ≤ most_reads_in start
ready_room (AtOnce layout) h = absurd (none-some _ h)
ready_room (Unheard u) h = absurd (none-some _ h)
ready_room (Heard u) h = heard_room u h

-- ---- when it is due

pub record IsReadyDue (s : StreamState) (rtr : Rtr) : Type 0 where
  pub place : s.sent ≡ first_place_out s.start
  pub agreed : rtr_in s.start ≡ Some rtr

same_place : (n m : ℕ) → nat_eq n m ≡ true → n ≡ m
same_place n m h = grind (arith, nat_tests)

at_place : (n m : ℕ) → n ≡ m → nat_eq n m ≡ true
at_place n m h = grind (arith, nat_tests)

pub ready_due : (s : StreamState) (rtr : Rtr) → rtr_due s ≡ Some rtr → IsReadyDue s rtr
ready_due s rtr h = go (nat_eq s.sent (first_place_out s.start)) refl h
  where
    go : (b : Bool) → nat_eq s.sent (first_place_out s.start) ≡ b → cond b (rtr_in s.start) None ≡ Some rtr → IsReadyDue s rtr
    go false e h = absurd (none-some _ h)
    go true e h = record { place = same_place s.sent (first_place_out s.start) e; agreed = h }

-- it is not, though no frame went out: then none is agreed on
pub none_ready : (s : StreamState) → rtr_due s ≡ None → s.sent ≡ first_place_out s.start → ready_in s.start ≡ []
none_ready s h place = ap (λ o. listed (option_map rtr_message o)) (sym (ap (λ b. cond b (rtr_in s.start) None) (at_place s.sent (first_place_out s.start) place)) ∙ h)

-- frames have octets
pub framed_none : (layout : Layout) (us : List (Segment Octets)) → Each IsSendable us → sequence layout 0 (map segment_octets us) ≡ [] → us ≡ []
unfolding sequence
framed_none layout [] good e = refl
framed_none layout (u ∷ us) good e =
    let rest : Octets = sequence layout (frame_end layout.markers 0 (length (segment_octets u))) (map segment_octets us) in
    absurd (none-some _ (sym (none_first layout 0 [] (frames_follow.first layout.markers) refl) ∙ ap (first_frame layout 0) (sym e) ∙ written_is_first layout 0 (segment_octets u) rest (frames_follow.first layout.markers) good.0.small))

-- ---- what was sent of it

-- all, or nothing at all
abbrev pub IsSpoken : List (Request Octets) → List (Request Octets) → List (Segment Octets) → Type 0
IsSpoken ready left segments = (left ≡ []) ⊎ ((segments ≡ []) × (left ≡ ready))

-- the Reads that are outstanding, and how many were answered, by those that were posted
pub data ReadsAre (ready left : List (Request Octets)) (reads posted : List Outstanding) (answered done : ℕ) : Type 0 where
  Apart : reads ≡ posted → answered + count_reads left ≡ count_reads ready + done → ReadsAre ready left reads posted answered done
  Leads : (rtr : Outstanding) → rtr.ticket ≡ None → reads ≡ rtr ∷ posted → answered ≡ 0 → done ≡ 0 → left ≡ [] → count_reads ready ≡ 1 → ReadsAre ready left reads posted answered done

pub same_reads_are : {ready ready' left : List (Request Octets)} {reads reads' posted : List Outstanding} {answered answered' done : ℕ} → ready' ≡ ready → reads' ≡ reads → answered' ≡ answered
    → ReadsAre ready left reads posted answered done → ReadsAre ready' left reads' posted answered' done
same_reads_are {left} r e a (Apart same sum) = Apart (e ∙ same) (omega (arith, a, sum, ap count_reads r))
same_reads_are r e a (Leads rtr none is zero_is done left one) = Leads rtr none (e ∙ is) (a ∙ zero_is) done left (ap count_reads r ∙ one)

-- where none is agreed on, all were posted
pub unready_are : {ready left : List (Request Octets)} {reads posted : List Outstanding} {answered done : ℕ} → ready ≡ [] → left ≡ [] → ReadsAre ready left reads posted answered done → (reads ≡ posted) × (answered ≡ done)
unready_are r l (Apart same sum) = (same, omega (arith, sum, ap count_reads r, ap count_reads l))
unready_are r l (Leads rtr none is zero_is done left one) = absurd (omega (arith, one, ap count_reads r))

-- no fewer were answered than of those that were posted
pub few_done : {ready left : List (Request Octets)} {segments : List (Segment Octets)} {reads posted : List Outstanding} {answered done : ℕ} → IsSpoken ready left segments → ReadsAre ready left reads posted answered done → done ≤ answered
few_done (inl gone) (Apart same sum) = omega (arith, sum, ap count_reads gone)
few_done (inr (none, all)) (Apart same sum) = omega (arith, sum, ap count_reads all)
few_done spoken (Leads rtr none is zero_is done left one) = omega (arith, done)

-- of the posted ones those only that the RTR went before
pub all_done : {ready left : List (Request Octets)} {reads posted : List Outstanding} {answered done : ℕ} → left ≡ [] → 0 < done → ReadsAre ready left reads posted answered done → answered ≡ count_reads ready + done
all_done gone some (Apart same sum) = omega (arith, sum, ap count_reads gone)
all_done gone some (Leads rtr none is zero_is done left one) = absurd (omega (arith, done, some))

-- no more than the RTR and those
pub most_done : {ready left : List (Request Octets)} {reads posted : List Outstanding} {answered done : ℕ} → ReadsAre ready left reads posted answered done → answered ≤ count_reads ready + done
most_done (Apart same sum) = omega (arith, sum)
most_done (Leads rtr none is zero_is done left one) = omega (arith, zero_is)
