-- What a refusal's code tells.
use Rattle.std.proofs.Common.{◌≡◌, ◌≢◌, ℕ, ℤ, pos, Option, Some, None, Ok, Err, ap, ◌∙◌, ◌⊎◌, inl, inr, subst}
use Rattle.std.specs.Prelude.{Result, IfSome, IfNone, IfErr}
use Rattle.std.specs.Result.{result_err}
use Rattle.iw_handle.specs.declared.open_handle.Held.{Held}
use Rattle.iw_handle.specs.declared.refusal.Refusal.{Refusal}
use Rattle.iw_handle.specs.declared.refusal.Refusal.TheVariants.{NoMemory}
use Rattle.iw_handle.specs.Refusals.{code_of, refusal_code}
use Rattle.iw_handle.specs.Sending.{HasKeptIn}
use Rattle.iw_handle.specs.State.{State}
use Rattle.iw_buffer.specs.Octets as buffers

pub coded_refusal : {A : Type 0} (o : Option Refusal) (r : Result A Refusal) (n : ℤ) → IfSome o (λ x. r ≡ Err x) → n ≡ pos (code_of (result_err r)) → IfSome o (λ x. n ≡ pos (refusal_code x))
coded_refusal None r n refused is = tt
coded_refusal (Some x) r n refused is = is ∙ ap (λ q. pos (code_of (result_err q))) refused

pub coded_memory : {A : Type 0} (o : Option Refusal) (r : Result A Refusal) (n : ℤ) → IfNone o (IfErr r (λ e. e ≡ NoMemory)) → n ≡ pos (code_of (result_err r)) → IfNone o ((n ≡ pos 0) ⊎ (n ≡ pos 3))
coded_memory None (Ok x) n memory is = inl is
coded_memory None (Err e) n memory is = inr (is ∙ ap (λ x. pos (refusal_code x)) memory)
coded_memory (Some x) r n memory is = tt

-- and of a refusal that is the same as another
pub coded_refusal_as : {A : Type 0} (o p : Option Refusal) (r : Result A Refusal) (n : ℤ) → o ≡ p → IfSome o (λ x. r ≡ Err x) → n ≡ pos (code_of (result_err r)) → IfSome p (λ x. n ≡ pos (refusal_code x))
coded_refusal_as o p r n same refused is = subst (λ q. IfSome q (λ x. n ≡ pos (refusal_code x))) same (coded_refusal o r n refused is)

pub coded_memory_as : {A : Type 0} (o p : Option Refusal) (r : Result A Refusal) (n : ℤ) → o ≡ p → IfNone o (IfErr r (λ e. e ≡ NoMemory)) → n ≡ pos (code_of (result_err r)) → IfNone p ((n ≡ pos 0) ⊎ (n ≡ pos 3))
coded_memory_as o p r n same memory is = subst (λ q. IfNone q ((n ≡ pos 0) ⊎ (n ≡ pos 3))) same (coded_memory o r n memory is)

-- a refusal of an open handle, and what is so beside it
pub coded_beside : {A : Type 0} (state : Option Held) (o : Option Refusal) (r : Result A Refusal) (n : ℤ) (P : Held → Type 0)
    → IfSome state (λ held. IfSome o (λ x. (r ≡ Err x) × P held)) → n ≡ pos (code_of (result_err r))
    → IfSome state (λ held. IfSome o (λ x. (n ≡ pos (refusal_code x)) × P held))
coded_beside None o r n P refused is = tt
coded_beside (Some held) None r n P refused is = tt
coded_beside (Some held) (Some x) r n P refused is = (is ∙ ap (λ q. pos (code_of (result_err q))) refused.0, refused.1)

-- what a refusal leaves of a posting from a buffer
pub coded_kept : {A : Type 0} (state : State) (number : ℕ) (buffer : buffers.State) (after : State) (left : buffers.State) (r : Result A Refusal) (n : ℤ)
    → IfErr r (λ e. HasKeptIn (e ≡ NoMemory) state number buffer after left) → n ≡ pos (code_of (result_err r)) → n ≢ pos 0
    → HasKeptIn (n ≡ pos 3) state number buffer after left
coded_kept state number buffer after left (Ok x) n kept is bad = absurd (bad is)
coded_kept state number buffer after left (Err e) n (inl same) is bad = inl same
coded_kept state number buffer after left (Err e) n (inr waits) is bad = inr (is ∙ ap (λ x. pos (refusal_code x)) waits.0, waits.1, waits.2)
