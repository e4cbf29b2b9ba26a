-- Where the peer's frame ends is told by its first 20 octets, and does not change once they are there.
use Rattle.std.proofs.Common.{◌≡◌, ℕ, ◌<◌, ◌≤◌, ◌++◌, List, true, false, length, take, drop, refl, ap, sym, ◌∙◌, arith, nat_lt, nat_eq, inl, inr, length-append}
use Rattle.std.specs.List.{starts_with}
use Rattle.std.proofs.lemmas.Bool.{cases_lt}
use Rattle.std.proofs.lemmas.Bool.Decides.{nat_tests}
use Rattle.std.proofs.lemmas.List.{take-append-le, get_or_append_left, length-take-le, take_all, take-append-drop}
use Rattle.iw_startup.specs.declared.config.Establishment.{Establishment}
use Rattle.iw_startup.specs.declared.config.Establishment.TheVariants.{Plain, Enhanced, PeerToPeer}
use Rattle.iw_startup.specs.declared.side.Side.{Side}
use Rattle.iw_startup.specs.declared.side.Side.TheVariants.{Initiator, Responder}
use Rattle.iw_startup.specs.Frame.{has_word}
use Rattle.iw_startup.specs.Peer.{peer_key, takes_revision, fixed_fault, frame_end, frame_part}

pub key_length : (side : Side) → length (peer_key side) ≡ 16
key_length Initiator = refl
key_length (Responder _) = refl

key-append : (side : Side) (xs ys : List ℕ) → 20 ≤ length xs → starts_with nat_eq (xs ++ ys) (peer_key side) ≡ starts_with nat_eq xs (peer_key side)
key-append side xs ys h =
    let key_le : length (peer_key side) ≤ length xs = omega (arith, key_length side) in
    rw (take-append-le (length (peer_key side)) xs ys key_le) refl

pub has_word-append : (est : Establishment) (xs ys : List ℕ) → 20 ≤ length xs → has_word est (xs ++ ys) ≡ has_word est xs
has_word-append Plain xs ys h = refl
has_word-append Enhanced xs ys h =
    let at : 16 < length xs = omega arith in
    let rev : 17 < length xs = omega arith in
    rw (get_or_append_left xs ys 0 16 at, get_or_append_left xs ys 0 17 rev) refl
has_word-append PeerToPeer xs ys h =
    let at : 16 < length xs = omega arith in
    let rev : 17 < length xs = omega arith in
    rw (get_or_append_left xs ys 0 16 at, get_or_append_left xs ys 0 17 rev) refl

takes-append : (side : Side) (est : Establishment) (xs ys : List ℕ) → 20 ≤ length xs → takes_revision side est (xs ++ ys) ≡ takes_revision side est xs
takes-append Initiator Plain xs ys h = let rev : 17 < length xs = omega arith in rw (get_or_append_left xs ys 0 17 rev) refl
takes-append Initiator Enhanced xs ys h = has_word-append Enhanced xs ys h
takes-append Initiator PeerToPeer xs ys h = has_word-append PeerToPeer xs ys h
takes-append (Responder _) Plain xs ys h = let rev : 17 < length xs = omega arith in rw (get_or_append_left xs ys 0 17 rev) refl
takes-append (Responder _) Enhanced xs ys h = let rev : 17 < length xs = omega arith in rw (get_or_append_left xs ys 0 17 rev) refl
takes-append (Responder _) PeerToPeer xs ys h = let rev : 17 < length xs = omega arith in rw (get_or_append_left xs ys 0 17 rev) refl

pub fixed_fault-append : (est : Establishment) (side : Side) (xs ys : List ℕ) → 20 ≤ length xs → fixed_fault est side (xs ++ ys) ≡ fixed_fault est side xs
unfolding fixed_fault
fixed_fault-append est side xs ys h =
    let high : 18 < length xs = omega arith in
    let low : 19 < length xs = omega arith in
    rw (key-append side xs ys h, takes-append side est xs ys h, has_word-append est xs ys h, get_or_append_left xs ys 0 18 high, get_or_append_left xs ys 0 19 low) refl

pub frame_end-short : (est : Establishment) (side : Side) (xs : List ℕ) → length xs < 20 → frame_end est side xs ≡ 20
unfolding frame_end
frame_end-short est side xs h = let short : nat_lt (length xs) 20 ≡ true = grind (arith, nat_tests) in rw short refl

pub frame_end-append : (est : Establishment) (side : Side) (xs ys : List ℕ) → 20 ≤ length xs → frame_end est side (xs ++ ys) ≡ frame_end est side xs
unfolding frame_end
frame_end-append est side xs ys h =
    let long : nat_lt (length xs) 20 ≡ false = grind (arith, nat_tests) in
    let longer : nat_lt (length (xs ++ ys)) 20 ≡ false = grind (arith, nat_tests, length-append xs ys) in
    let high : 18 < length xs = omega arith in
    let low : 19 < length xs = omega arith in
    rw (long, longer, fixed_fault-append est side xs ys h, get_or_append_left xs ys 0 18 high, get_or_append_left xs ys 0 19 low) refl

pub least_end : (est : Establishment) (side : Side) (xs : List ℕ) → 20 ≤ frame_end est side xs
unfolding frame_end
least_end est side xs = grind arith

-- what is taken has its end where all the octets have it
pub frame_end-frame_part : (est : Establishment) (side : Side) (xs : List ℕ) → frame_end est side (frame_part est side xs) ≡ frame_end est side xs
unfolding frame_part
frame_end-frame_part est side xs = elim (cases_lt (length xs) 20) [
  | inl short ↦ ap (frame_end est side) (take_all (frame_end est side xs) xs (omega (arith, least_end est side xs)))
  | inr long ↦ of_long long
]
  where
    of_long : 20 ≤ length xs → frame_end est side (take (frame_end est side xs) xs) ≡ frame_end est side xs
    of_long long =
        let front : 20 ≤ length (take (frame_end est side xs) xs) = elim (cases_lt (length xs) (frame_end est side xs)) [
          | inl less ↦ rw (take_all (frame_end est side xs) xs (omega arith)) long
          | inr enough ↦ omega (arith, length-take-le (frame_end est side xs) xs enough, least_end est side xs)
        ] in
        sym (frame_end-append est side (take (frame_end est side xs) xs) (drop (frame_end est side xs) xs) front) ∙ ap (frame_end est side) (take-append-drop (frame_end est side xs) xs)
