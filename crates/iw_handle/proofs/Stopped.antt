-- What stops a call that fills a buffer before its first frame.
use Rattle.std.proofs.Common.{◌≡◌, ◌^◌, ℕ, Bool, true, false, Some, None, refl, sym, ap, ◌∙◌, Err}
use Rattle.std.specs.Prelude.{Result, IfSome, not, nat_lt, if◌then◌else◌}
use Rattle.std.specs.Result.{result_err}
use Rattle.std.proofs.lemmas.Option.{same_Some}
use Rattle.iw_connection.specs.declared.working.Refusal as connection
use Rattle.iw_connection.specs.declared.working.Refusal.TheVariants as stops
use Rattle.iw_connection.specs.Filling.{fill_refusal}
use Rattle.iw_endpoint.specs.Endpoint.{EndpointState, has_stream, sent_at}
use Rattle.iw_handle.specs.declared.refusal.Refusal.TheVariants as refusals
use Rattle.iw_handle.specs.Filling.{stop_reason}

-- what is true where nothing else is refused is true if it is want of memory
pub out_of_memory : (T : Type 0) (e : EndpointState) (number : ℕ) (stop : connection.Refusal) (P : Type 0) → IfSome (fill_refusal e number) (λ refusal. ◌≡◌ {A = Result T connection.Refusal} (Err stop) (Err refusal))
    → (fill_refusal e number ≡ None → P) → stop_reason stop ≡ refusals.NoMemory → P
out_of_memory T e number stop P refused room is = go (has_stream e number) (nat_lt (2 ^ 62) (sent_at e number)) refused room
  where
    is_not : (other : connection.Refusal) → (stop_reason other ≡ refusals.NoMemory → ⊥) → ◌≡◌ {A = Result T connection.Refusal} (Err stop) (Err other) → P
    is_not other wrong same = absurd (wrong (sym (ap stop_reason (same_Some stop other (ap result_err same))) ∙ is))

    go : (b c : Bool) → IfSome (if not b then Some stops.NoSuchStream else if c then Some stops.TooFar else None) (λ refusal. ◌≡◌ {A = Result T connection.Refusal} (Err stop) (Err refusal))
        → ((if not b then Some stops.NoSuchStream else if c then Some stops.TooFar else None) ≡ None → P) → P
    go false c refused room = is_not stops.NoSuchStream (λ e. cc) refused
    go true true refused room = is_not stops.TooFar (λ e. cc) refused
    go true false refused room = room refl
