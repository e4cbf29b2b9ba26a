-- Steps up to one that has to be acted on, and frames one after another, as calls at an endpoint.
use Rattle.std.proofs.Common.{◌≡◌, ℕ, ◌<◌, true, false, List, [], ◌++◌, Result, Ok, Err, refl, sym, ap, ◌∙◌, zero, suc, arith, append_assoc, append-nil}
use Rattle.std.proofs.lemmas.Bool.{true≢false}
use Rattle.iw_octets.specs.declared.fault.Fault.{Fault}
use Rattle.iw_stream.specs.declared.answer.Emission.{Emission}
use Rattle.iw_stream.specs.declared.answer.Emission.TheVariants as emissions
use Rattle.iw_stream.specs.declared.answer.Step.{Step}
use Rattle.iw_stream.specs.declared.answer.Step.TheVariants as steps
use Rattle.iw_endpoint.specs.declared.refusal.NoSuchStream.{NoSuchStream}
use Rattle.iw_endpoint.specs.Endpoint.{EndpointState, step_at, after_work, emission_at, emitted_at, after_emit}
use Rattle.iw_connection.specs.declared.filling.Filled.{Filled}
use Rattle.iw_connection.specs.declared.filling.Filled.TheVariants as filled
use Rattle.iw_connection.specs.Steps.{is_progress, progresses, after_steps, GoesTo, Stops}
use Rattle.iw_connection.specs.Filling as filling
use Rattle.iw_connection.specs.Filling.{is_frame, after_emissions, octets_emitted, Ends, Fills, FillsTo}
use Rattle.iw_connection.proofs.Emissions.{no_octets}
use Rattle.iw_links.specs.Exchange.{Plan, Phase, Listening, Working, Speaking, after_step, after_emission, Told, told_by, told_of, Did, Emits}
use Rattle.iw_links.proofs.Exchanges.{at, both, emits, emits_nothing, emits_on, stays, works}

-- ---- steps
told_no_more : (t : Told) (step : Step (List ℕ)) → is_progress step ≡ true → t ≡ told_by t step
told_no_more t (steps.Placed right stag to len) h = refl
told_no_more t (steps.Buffered msn mo len) h = refl
told_no_more t (steps.Requested size stag to) h = refl
told_no_more t (steps.Tried place) h = refl
told_no_more t steps.Passed h = refl
told_no_more t (steps.Done message) h = absurd (true≢false (sym h))
told_no_more t (steps.Flushed message) h = absurd (true≢false (sym h))
told_no_more t (steps.FlushedRecv buffer) h = absurd (true≢false (sym h))
told_no_more t steps.Asked h = absurd (true≢false (sym h))
told_no_more t (steps.Opened agreed) h = absurd (true≢false (sym h))
told_no_more t (steps.Closed fault) h = absurd (true≢false (sym h))
told_no_more t (steps.Received buffer len solicited invalidate) h = absurd (true≢false (sym h))
told_no_more t (steps.Terminated fault) h = absurd (true≢false (sym h))
told_no_more t (steps.Fault fault) h = absurd (true≢false (sym h))
told_no_more t steps.Idle h = absurd (true≢false (sym h))

works_on : (step : Step (List ℕ)) → is_progress step ≡ true → Working ≡ after_step step
works_on (steps.Placed right stag to len) h = refl
works_on (steps.Buffered msn mo len) h = refl
works_on (steps.Requested size stag to) h = refl
works_on (steps.Tried place) h = refl
works_on steps.Passed h = refl
works_on (steps.Done message) h = refl
works_on (steps.Flushed message) h = refl
works_on (steps.FlushedRecv buffer) h = refl
works_on steps.Asked h = absurd (true≢false (sym h))
works_on (steps.Opened agreed) h = refl
works_on (steps.Closed fault) h = absurd (true≢false (sym h))
works_on (steps.Received buffer len solicited invalidate) h = refl
works_on (steps.Terminated fault) h = refl
works_on (steps.Fault fault) h = refl
works_on steps.Idle h = absurd (true≢false (sym h))

module _ (p : Plan) (t : Told) (k : ℕ) where
  one_step : (e : EndpointState) (r : Result (Step (List ℕ)) NoSuchStream) → r ≡ step_at e p.number → progresses r ≡ true → Did p (at e t Working k) (at (after_work e p.number) t Working k) [] []
  one_step e (Ok step) is h = works p e (after_work e p.number) t t k Working step is refl (told_no_more t step h) (works_on step h)
  one_step e (Err missing) is h = absurd (true≢false (sym h))

  steps_done : (e : EndpointState) (n : ℕ) → ((j : ℕ) → j < n → progresses (step_at (after_steps j e p.number) p.number) ≡ true) → Did p (at e t Working k) (at (after_steps n e p.number) t Working k) [] []
  unfolding after_steps
  steps_done e zero h = stays p (at e t Working k)
  steps_done e (suc n) h =
      both p _ _ _ (steps_done e n (λ j low. h j (omega (arith, low))))
      (one_step (after_steps n e p.number) (step_at (after_steps n e p.number) p.number) refl (h n (omega arith)))

  pub stops_short : (e new : EndpointState) → Stops e p.number new → Did p (at e t Working k) (at new t Working k) [] []
  stops_short e new s = rw (s.progress.left) (steps_done e s.before s.progress.progress)

  pub goes_to : (e new : EndpointState) (t' : Told) (phase : Phase) (step : Step (List ℕ)) → GoesTo e p.number step new → t' ≡ told_by t step → phase ≡ after_step step
      → Did p (at e t Working k) (at new t' phase k) [] []
  goes_to e new t' phase step g tells asks =
      both p _ _ _ (rw (g.progress.left) (steps_done e g.before g.progress.progress)) (works p g.at new t t' k phase step g.is g.left tells asks)

-- ---- frames
frame_told : (t : Told) (emission : Emission) → is_frame emission ≡ true → t ≡ told_of t emission
frame_told t (emissions.Frame from len) h = refl
frame_told t (emissions.Fetched from len stag to n) h = refl
frame_told t (emissions.Fault fault) h = absurd (true≢false (sym h))
frame_told t emissions.Nothing h = refl

goes_on : (emission : Emission) → is_frame emission ≡ true → Speaking ≡ after_emission emission
goes_on (emissions.Frame from len) h = refl
goes_on (emissions.Fetched from len stag to n) h = refl
goes_on (emissions.Fault fault) h = refl
goes_on emissions.Nothing h = absurd (true≢false (sym h))

module _ (p : Plan) (t : Told) (k : ℕ) where
  frames_done : (e : EndpointState) (n : ℕ) (out : List ℕ) → ((j : ℕ) → j < n → is_frame (emission_at (after_emissions j e p.number) p.number) ≡ true)
      → Emits p (at e t Speaking k) (at (after_emissions n e p.number) t Speaking k) out (out ++ octets_emitted n e p.number)
  unfolding after_emissions octets_emitted
  frames_done e zero out h = rw (append-nil out) (emits_nothing p (at e t Speaking k) out)
  frames_done e (suc n) out h =
      let here = h n (omega arith) in
      let m = after_emissions n e p.number in
      emits_on p _ _ _ out (out ++ octets_emitted n e p.number) _ (frames_done e n out (λ j low. h j (omega (arith, low))))
      (emits p m (after_emit m p.number) t t k Speaking (emission_at m p.number) _ _ refl (sym (append_assoc out (octets_emitted n e p.number) (emitted_at m p.number))) refl (frame_told t (emission_at m p.number) here) (goes_on (emission_at m p.number) here))

  pub frames_went : (e new : EndpointState) (n : ℕ) (out out' : List ℕ) → filling.Emits e p.number n out out' new → Emits p (at e t Speaking k) (at new t Speaking k) out out'
  frames_went e new n out out' s = rw (s.left, s.octets) (frames_done e n out s.frames)

  -- nothing was emitted
  pub nothing_went : (e new : EndpointState) (out out' : List ℕ) → new ≡ e → out' ≡ out → Emits p (at e t Speaking k) (at new t Speaking k) out out'
  nothing_went e new out out' same none = rw (same, none) (emits_nothing p (at e t Speaking k) out)

  filled_to : (e new : EndpointState) (most capacity n : ℕ) (out out' : List ℕ) (f : Filled) → (s : FillsTo e p.number most out out' capacity new n f) → (emission : Emission) → emission ≡ emission_at s.at p.number
      → is_frame emission ≡ false → new ≡ after_emit s.at p.number → (t' : Told) (phase : Phase) → t' ≡ told_of t emission → phase ≡ after_emission emission → Emits p (at e t Speaking k) (at new t' phase k) out out'
  filled_to e new most capacity n out out' f s emission is none left t' phase tells goes =
      let grows : out' ≡ out' ++ emitted_at s.at p.number = sym (append-nil out') ∙ ap (λ xs. out' ++ xs) (sym (no_octets s.at p.number (sym (ap is_frame is) ∙ none))) in
      emits_on p _ _ _ out out' out' (frames_went e s.at n out out' s.emits) (emits p s.at new t t' k phase emission out' out' is grows left tells goes)

  pub filled_all : (e new : EndpointState) (most capacity : ℕ) (out out' : List ℕ) → Fills e p.number most out out' capacity new filled.All → Emits p (at e t Speaking k) (at new t Listening k) out out'
  filled_all e new most capacity out out' s = filled_to e new most capacity s.0 out out' filled.All s.1 emissions.Nothing (sym s.1.ends.0) refl s.1.ends.1 t Listening refl refl

  pub filled_more : (e new : EndpointState) (most capacity : ℕ) (out out' : List ℕ) → Fills e p.number most out out' capacity new filled.More → Emits p (at e t Speaking k) (at new t Speaking k) out out'
  filled_more e new most capacity out out' s = rw (s.1.ends.0) (frames_went e s.1.at s.0 out out' s.1.emits)

  pub filled_fault : (e new : EndpointState) (most capacity : ℕ) (out out' : List ℕ) (fault : Fault) (t' : Told) → Fills e p.number most out out' capacity new (filled.Fault fault) → t' ≡ told_of t (emissions.Fault fault)
      → Emits p (at e t Speaking k) (at new t' Speaking k) out out'
  filled_fault e new most capacity out out' fault t' s tells =
      filled_to e new most capacity s.0 out out' (filled.Fault fault) s.1 (emissions.Fault fault) (sym s.1.ends.0) refl s.1.ends.1 t' Speaking tells refl
