use Rattle.std.proofs.Common.{◌≡◌, ◌+◌, ◌-◌, ◌≤◌, ℕ, List, Option, Some, None, length, cond, false, refl, ap, subst, sym, ◌∙◌, arith}
use Rattle.std.specs.Option.{option_map, option_map_or}
use Rattle.std.proofs.lemmas.Option.{none-some, same_Some}
use Rattle.iw_octets.specs.declared.segment.Segment.TheVariants.{Untagged}
use Rattle.iw_octets.proofs.Segments.{length-segment_octets_untagged}
use Rattle.iw_rdmap.specs.Laws.{terminate_head}
use Rattle.iw_stream.specs.Ending.{last_word}
use Rattle.iw_stream.specs.Kept.{Keeps}
use Rattle.iw_stream.specs.Stream.{StreamState, StartUp, LastWord, NoneDue, Ready, due, message_due, octets_due, frame_of, owes_frame, is_mute, rtr_due}
use Rattle.iw_stream.proofs.Dues.{due_last}
use Rattle.iw_stream.proofs.Most.{of_len, length-of_len, next_short, no_octets_later}
use Rattle.iw_stream.proofs.stream.Stream.most_due.Goals as goal

-- the payload, by its length
payload_of : (o : Option (List ℕ)) (n : ℕ) → option_map length o ≡ Some n → (payload : List ℕ) × (o ≡ Some payload) × (length payload ≡ n)
payload_of None n e = absurd (none-some n e)
payload_of (Some payload) n e = (payload, refl, same_Some (length payload) n e)

nothing_of : (o : Option (List ℕ)) → option_map length o ≡ None → o ≡ None
nothing_of None e = refl
nothing_of (Some payload) e = absurd (none-some (length payload) (sym e))

pub returns-in-Some-clause-most : goal.returns-in-Some-clause-most
returns-in-Some-clause-most g c = λ table.
    let s : StreamState = c.args.self.now in
    let word = payload_of (last_word s.ending) c.in-Some.len (ap (λ (t : StreamState). option_map length (last_word t.ending)) (sym c.self.view_is) ∙ sym c.last_word_len.ensures.len ∙ c.in-Some.is) in
    let payload : List ℕ = word.0 in
    let due_is : due s ≡ LastWord payload = due_last s (Some payload) (sym c.owes_frame.ensures ∙ c.if-owes_frame.false) word.1 refl in
    let same : c.frame_len.result ≡ length (octets_due table s (due s)) =
    c.frame_len.ensures (Untagged terminate_head payload) (length-segment_octets_untagged terminate_head payload ∙ ap (λ n. 18 + n) word.2) ∙ ap (λ d. length (octets_due table s d)) (sym due_is) in
    omega (arith, same)

pub returns-in-None-clause-most : goal.returns-in-None-clause-most
returns-in-None-clause-most g c = λ table.
    let s : StreamState = c.args.self.now in
    let silent : last_word s.ending ≡ None = nothing_of (last_word s.ending) (ap (λ (t : StreamState). option_map length (last_word t.ending)) (sym c.self.view_is) ∙ sym c.last_word_len.ensures.len ∙ c.in-None.is) in
    let owes : owes_frame s ≡ false = sym c.owes_frame.ensures ∙ c.if-owes_frame.false in
    let due_is : due s ≡ cond (is_mute s) NoneDue (option_map_or Ready (rtr_due s) (message_due s)) =
    (λ i. cond (owes i) StartUp (option_map_or LastWord (silent i) (cond (is_mute s) NoneDue (option_map_or Ready (rtr_due s) (message_due s))))) in
    let keeps : Keeps s = subst Keeps c.self.view_is c.self.invariant.keeps in
    let least : 128 ≤ s.mulpdu = keeps.enough in
    let size : s.mulpdu ≡ c.self.inside.mulpdu = ap (λ (t : StreamState). t.mulpdu) (sym c.self.view_is) in
    let filled : c.frame_len-in-None.result ≡ length (frame_of s (of_len s.mulpdu)) = c.frame_len-in-None.ensures (of_len s.mulpdu) (length-of_len s.mulpdu (omega arith) ∙ size) in
    let few : length (octets_due table s (cond (is_mute s) NoneDue (option_map_or Ready (rtr_due s) (message_due s)))) ≤ length (frame_of s (of_len s.mulpdu)) =
    next_short table s keeps.aligned least (is_mute s) (rtr_due s) in
    omega (arith, filled, few, ap (λ d. length (octets_due table s d)) due_is)

pub returns-in-Some-clause-some : goal.returns-in-Some-clause-some
returns-in-Some-clause-some g c = λ table none.
    let keeps : Keeps c.args.self.now = subst Keeps c.self.view_is c.self.invariant.keeps in
    no_octets_later table c.args.self.now keeps.aligned (sym c.owes_frame.ensures ∙ c.if-owes_frame.false) none

pub returns-in-None-clause-some : goal.returns-in-None-clause-some
returns-in-None-clause-some g c = λ table none.
    let keeps : Keeps c.args.self.now = subst Keeps c.self.view_is c.self.invariant.keeps in
    no_octets_later table c.args.self.now keeps.aligned (sym c.owes_frame.ensures ∙ c.if-owes_frame.false) none
