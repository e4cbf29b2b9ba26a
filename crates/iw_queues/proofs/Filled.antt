-- Parts are as long as a ULPDU allows.
use Rattle.std.proofs.Common.{◌≡◌, ℕ, ◌-◌, ◌<◌, ◌≤◌, inl, inr, zero, suc, List, [], ◌∷◌, length, refl, subst, arith, Some}
use Rattle.std.proofs.lemmas.Bool.Decides.{leb_tells}
use Rattle.iw_octets.specs.declared.message.Message.TheVariants.{Write, Send}
use Rattle.iw_queues.specs.declared.request.Request.{Request}
use Rattle.iw_queues.specs.declared.request.Request.TheVariants.{Message, Read}
use Rattle.iw_queues.specs.Completions.{Outstanding, next_ticket}
use Rattle.iw_queues.specs.Request.{payload, header_len}
use Rattle.iw_queues.specs.Queue.{part_from, next_part, IsBegun}
use Rattle.iw_queues.specs.Laws.{IsFilled, FillsParts}

header_small : (message : Request (List ℕ)) → header_len message ≤ 18
header_small (Message (Write stag to octets)) = omega arith
header_small (Message (Send octets solicited invalidate)) = omega arith
header_small (Read request) = omega arith

no_octets : (octets : List ℕ) → length octets ≤ 0 → octets ≡ []
no_octets [] few = refl
no_octets (x ∷ xs) few = absurd (omega (arith, few))

within : (offset len : ℕ) → (0 < offset → offset < len) → offset ≤ len
within zero len begun = omega arith
within (suc k) len begun = let more : suc k < len = begun (omega arith) in omega arith

all_of_none : (offset len : ℕ) → (0 < offset → offset < len) → len - offset ≤ 0 → len ≤ 0
all_of_none zero len begun none = omega arith
all_of_none (suc k) len begun none = let more : suc k < len = begun (omega arith) in omega arith

filled : (ticket : ℕ) (message : Request (List ℕ)) (offset max : ℕ) → 128 ≤ max → (0 < offset → offset < length (payload message)) → IsFilled max (part_from ticket message offset max)
filled ticket message offset max low begun = record {
  full = λ e. elim (leb_tells (length (payload message) - offset) (max - header_len message)) [ inl t ↦ cc | inr t ↦ omega (arith, t.1, header_small message) ];
  end = λ e. elim (leb_tells (length (payload message) - offset) (max - header_len message)) [ inl t ↦ omega (arith, t.1, within offset (length (payload message)) begun) | inr t ↦ cc ];
  fits = omega (arith, header_small message);
  empty = λ e. no_octets (payload message) (all_of_none offset (length (payload message)) begun (omega (arith, e, header_small message)));
}

pub fills : FillsParts
fills q max part low limits e = filled_first q.sent q.unsent q.offset limits.begun e
  where
    filled_first : (sent : Outstanding) (unsent : List (Request (List ℕ))) (offset : ℕ) → IsBegun unsent offset → next_part (record { sent = sent; unsent = unsent; offset = offset }) max ≡ Some part → IsFilled max part
    filled_first sent [] offset begun e = cc
    filled_first sent (message ∷ messages) offset begun e =
        let is : part_from (next_ticket sent) message offset max ≡ part = cc in
        subst (IsFilled max) is (filled (next_ticket sent) message offset max low begun)
