-- Frames one after another.
use Rattle.std.proofs.Common.{◌≡◌, ◌⊎◌, ℕ, zero, suc, ◌+◌, ◌<◌, ◌≤◌, true, false, List, [], ◌++◌, length, Some, Result, Ok, Err, refl, sym, ap, subst, ◌∙◌, add-one, append_assoc, append-nil, arith, inl, inr}
use Rattle.std.proofs.lemmas.Bool.{true≢false}
use borrow.Author.Count.{below_more}
use Rattle.iw_stream.specs.declared.answer.Emission.{Emission}
use Rattle.iw_stream.specs.declared.answer.Emission.TheVariants as emissions
use Rattle.iw_octets.specs.declared.fault.Fault.{Fault}
use Rattle.iw_memory.specs.Table.{Table}
use Rattle.iw_reads.specs.declared.response.ResponsePart.{ResponsePart}
use Rattle.iw_stream.specs.Stream.{StreamState, Due, StartUp, LastWord, Ready, Response, NextPart, NoneDue, due, octets_due, emission_due, frame_fetched, octets_fetched, emission_fetched, IsNothing}
use Rattle.iw_endpoint.specs.Endpoint.{EndpointState, stream_at, emission_at, emitted_at, after_emit}
use Rattle.iw_connection.specs.declared.filling.Filled.{Filled}
use Rattle.iw_connection.specs.declared.filling.Filled.TheVariants as filled
use Rattle.iw_connection.specs.Filling.{is_frame, after_emissions, octets_emitted, Emits, Stopped, IsHeld, Ends, FillsTo, Fits}

pub emissions-more : (n : ℕ) (e : EndpointState) (number : ℕ) → after_emissions (n + 1) e number ≡ after_emit (after_emissions n e number) number
unfolding after_emissions
emissions-more n e number = ap (λ k. after_emissions k e number) (add-one n)

pub octets-more : (n : ℕ) (e : EndpointState) (number : ℕ) → octets_emitted (n + 1) e number ≡ octets_emitted n e number ++ emitted_at (after_emissions n e number) number
unfolding octets_emitted
octets-more n e number = ap (λ k. octets_emitted k e number) (add-one n)

pub none_emitted : (e : EndpointState) (number : ℕ) (octets : List ℕ) → Emits e number 0 octets octets e
unfolding after_emissions octets_emitted
none_emitted e number octets = record { frames = λ k low. absurd (omega arith); octets = sym (append-nil octets); left = refl }

pub one_emitted : (old now new : EndpointState) (number n : ℕ) (before out after : List ℕ) → Emits old number n before out now → is_frame (emission_at now number) ≡ true
    → after ≡ out ++ emitted_at now number → new ≡ after_emit now number → Emits old number (n + 1) before after new
one_emitted old now new number n before out after s frame put left =
    let here : is_frame (emission_at (after_emissions n old number) number) ≡ true = ap (λ e. is_frame (emission_at e number)) (sym s.left) ∙ frame in
    record {
      frames = below_more (λ k. is_frame (emission_at (after_emissions k old number) number) ≡ true) n s.frames here;
      octets = put ∙ ap (λ xs. xs ++ emitted_at now number) s.octets ∙ ap (λ e. (before ++ octets_emitted n old number) ++ emitted_at e number) s.left
          ∙ append_assoc before (octets_emitted n old number) (emitted_at (after_emissions n old number) number) ∙ sym (ap (λ xs. before ++ xs) (octets-more n old number));
      left = left ∙ ap (λ e. after_emit e number) s.left ∙ sym (emissions-more n old number);
    }

-- ---- what is no frame has no octets
none_fetched : (s : StreamState) (part : ResponsePart) (r : Result (List ℕ) Fault) → is_frame (emission_fetched s part r) ≡ false → octets_fetched r ≡ []
none_fetched s part (Ok frame) e = absurd (true≢false e)
none_fetched s part (Err fault) e = refl

none_due : (table : Table) (s : StreamState) (d : Due) → is_frame (emission_due table s d) ≡ false → octets_due table s d ≡ []
none_due table s StartUp e = absurd (true≢false e)
none_due table s (LastWord payload) e = absurd (true≢false e)
none_due table s (Ready rtr) e = absurd (true≢false e)
none_due table s (Response part) e = none_fetched s part (frame_fetched table s part) e
none_due table s (NextPart part) e = absurd (true≢false e)
none_due table s NoneDue e = refl

pub no_octets : (e : EndpointState) (number : ℕ) → is_frame (emission_at e number) ≡ false → emitted_at e number ≡ []
no_octets e number none = none_due e.table (stream_at e number) (due (stream_at e number)) none

no_frame : (emission : Emission) (f : Filled) → Stopped emission (Some f) → is_frame emission ≡ false
no_frame emission filled.More stop = absurd stop
no_frame emission filled.All stop = ap is_frame stop
no_frame emission (filled.Fault fault) stop = ap is_frame stop

-- what is emitted where it stops, which is no octet
pub stopped_out : (at : EndpointState) (number : ℕ) (f : Filled) (out after : List ℕ) → Stopped (emission_at at number) (Some f) → after ≡ out ++ emitted_at at number → after ≡ out
stopped_out at number f out after stop put = put ∙ ap (λ xs. out ++ xs) (no_octets at number (no_frame (emission_at at number) f stop)) ∙ append-nil out

ends_there : (at new : EndpointState) (number : ℕ) (held : Type 0) (f : Filled) → Stopped (emission_at at number) (Some f) → new ≡ after_emit at number → Ends at number new held f
ends_there at new number held filled.More stop left = absurd stop
ends_there at new number held filled.All stop left = (stop, left)
ends_there at new number held (filled.Fault fault) stop left = (stop, left)

-- n frames were emitted, and what is next is no frame
pub fills_stopped : (old at new : EndpointState) (number most n capacity : ℕ) (before out after : List ℕ) (f : Filled) → Emits old number n before out at → length out ≤ length before + most
    → Stopped (emission_at at number) (Some f) → after ≡ out ++ emitted_at at number → new ≡ after_emit at number → FillsTo old number most before after capacity new n f
fills_stopped old at new number most n capacity before out after f s few stop put left =
    let same : after ≡ out = stopped_out at number f out after stop put in
    record {
      at = at;
      emits = subst (λ xs. Emits old number n before xs at) (sym same) s;
      ends = ends_there at new number _ f stop left;
      few = inl (omega (arith, few, ap length same));
    }

-- n frames were emitted, and the next is held back
pub fills_held : (old at : EndpointState) (number most n capacity : ℕ) (before out : List ℕ) → Emits old number n before out at → 0 < n → (length out ≤ length before + most) ⊎ (n ≡ 1)
    → IsHeld at number (length before + most) (length out) capacity → FillsTo old number most before out capacity at n filled.More
fills_held old at number most n capacity before out s some few held = record {
  at = at;
  emits = s;
  ends = (refl, (some, held));
  few = few;
}

-- a frame has octets
pub some_octets : (at : EndpointState) (number : ℕ) → is_frame (emission_at at number) ≡ true → (length (emitted_at at number) ≡ 0 → IsNothing (emission_at at number)) → 0 < length (emitted_at at number)
some_octets at number frame some = go (length (emitted_at at number)) refl
  where
    refuted : (emission : Emission) → is_frame emission ≡ true → IsNothing emission → ⊥
    refuted (emissions.Frame from len) e nothing = nothing
    refuted (emissions.Fetched from len stag to n) e nothing = nothing
    refuted (emissions.Fault fault) e nothing = true≢false (sym e)
    refuted emissions.Nothing e nothing = true≢false (sym e)

    go : (n : ℕ) → length (emitted_at at number) ≡ n → 0 < length (emitted_at at number)
    go zero e = absurd (refuted (emission_at at number) frame (some e))
    go (suc n) e = omega (arith, e)

-- one frame more: all have octets but perhaps the first, and all are within `most` but perhaps the first
pub one_longer : (at : EndpointState) (number n begun most rest len after capacity : ℕ) → is_frame (emission_at at number) ≡ true → (0 < n → Fits at number rest len capacity) → after ≡ len + length (emitted_at at number)
    → begun ≤ len → begun + n ≤ len + 1 → len + rest ≡ begun + most → (begun + (n + 1) ≤ after + 1) × ((after ≤ begun + most) ⊎ (n + 1 ≡ 1))
one_longer at number zero begun most rest len after capacity frame fits grown low long sum = (omega (arith, grown, low), inr refl)
one_longer at number (suc n) begun most rest len after capacity frame fits grown low long sum =
    let fit = fits (omega arith) in
    (omega (arith, grown, long, some_octets at number frame fit.2), inl (omega (arith, grown, sum, fit.0)))

-- where octets came to a buffer, there was a frame
pub behind_first : (n : ℕ) (before out : List ℕ) (E C : Type 0) → (0 < n) ⊎ (E × (out ≡ before) × C) → length before < length out → 0 < n
behind_first n before out E C (inl some) more = some
behind_first n before out E C (inr same) more = absurd (omega (arith, ap length same.1, more))
