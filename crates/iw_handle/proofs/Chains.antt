-- Reasons one after another: none of the first holds, and the last is a callee's.
use Rattle.std.proofs.Common.{◌≡◌, Bool, true, false, ◌∙◌, ap, subst, sym, Option, Some, None, Result, Ok, Err, refl, ◌⊎◌, inl, inr}
use Rattle.std.specs.Prelude.{IfSome, IfNone, IfErr, IsErr, if◌then◌else◌}
use Rattle.std.specs.Option.{option_map}
use Rattle.std.specs.Result.{result_err}
use Rattle.std.proofs.lemmas.Bool.{true≢false}
use Rattle.std.proofs.lemmas.Option.{same_Some}
use Rattle.iw_endpoint.specs.Endpoint.{EndpointState}
use Rattle.iw_handle.specs.declared.open_handle.Held.{Held}
use Rattle.iw_handle.specs.declared.refusal.Refusal.{Refusal}
use Rattle.iw_handle.specs.declared.refusal.Refusal.TheVariants.{NoMemory}
use Rattle.iw_handle.specs.State.{State, first_of, refusal_in}

pub chain_refused : (P : Refusal → Type 0) (a b c : Option Refusal) → a ≡ None → b ≡ None → IfSome c P → IfSome (first_of a (first_of b c)) P
chain_refused P a b c na nb = subst (λ o. IfSome o P) (λ i. first_of (sym na i) (first_of (sym nb i) c))

pub chain_memory : (P : Type 0) (a b c : Option Refusal) → a ≡ None → b ≡ None → IfNone c P → IfNone (first_of a (first_of b c)) P
chain_memory P a b c na nb = subst (λ o. IfNone o P) (λ i. first_of (sym na i) (first_of (sym nb i) c))

module _ {A R : Type 0} (reason : R → Refusal) where
  pub reason_refused : (o : Option R) (x : R) (answer : Result A R) (y : Refusal) → answer ≡ Err x → y ≡ reason x → IfSome o (λ r. answer ≡ Err r) → IfSome (option_map reason o) (λ r. y ≡ r)
  reason_refused None x answer y is same refused = tt
  reason_refused (Some z) x answer y is same refused = same ∙ ap reason (same_Some x z (ap result_err (sym is ∙ refused)))

  pub reason_memory : (o : Option R) (x none : R) (answer : Result A R) (y : Refusal) → answer ≡ Err x → y ≡ reason x → IfNone o (IfErr answer (λ e. e ≡ none)) → IfNone (option_map reason o) (y ≡ reason none)
  reason_memory None x none answer y is same memory = same ∙ ap reason (subst (λ r. IfErr r (λ e. e ≡ none)) is memory)
  reason_memory (Some z) x none answer y is same memory = tt

-- the same where only one reason comes before
pub next_refused : (P : Refusal → Type 0) (a c : Option Refusal) → None ≡ a → IfSome c P → IfSome (first_of a c) P
next_refused P a c na = subst (λ o. IfSome o P) (λ i. first_of (na i) c)

pub next_memory : (P : Type 0) (a c : Option Refusal) → None ≡ a → IfNone c P → IfNone (first_of a c) P
next_memory P a c na = subst (λ o. IfNone o P) (λ i. first_of (na i) c)

-- and where the callee's reason stands in a pair
module _ {R : Type 0} (reason : R → Refusal) where
  pub paired_refused : (U : Type 0) (o : Option R) (x : R) (y : Refusal) → y ≡ reason x → IfSome o (λ r. (x ≡ r) × U) → IfSome (option_map reason o) (λ r. y ≡ r)
  paired_refused U None x y same refused = tt
  paired_refused U (Some z) x y same refused = same ∙ ap reason refused.0

  pub paired_memory : (o : Option R) (x none : R) (y : Refusal) → y ≡ reason x → IfNone o (x ≡ none) → IfNone (option_map reason o) (y ≡ reason none)
  paired_memory None x none y same memory = same ∙ ap reason memory
  paired_memory (Some z) x none y same memory = tt

  -- the same where the clause says beside it that the answer is an error
  pub paired_refused_in : (U : Type 0) (o : Option R) (x : R) (y : Refusal) → y ≡ reason x → IfSome o (λ r. (x ≡ r) × U) → IfSome (option_map reason o) (λ r. (y ≡ r) × U)
  paired_refused_in U None x y same refused = tt
  paired_refused_in U (Some z) x y same refused = (same ∙ ap reason refused.0, refused.1)

pub err_paired : (A U : Type 0) (o : Option Refusal) (y : Refusal) → IfSome o (λ r. (y ≡ r) × U) → IfSome o (λ r. ◌≡◌ {A = Result A Refusal} (Err y) (Err r))
err_paired A U None y is = tt
err_paired A U (Some z) y is = ap Err is.0

-- a fact of the chain that a test chooses
pub chosen : (P : Option Refusal → Type 0) (b : Bool) (x y : Option Refusal) → b ≡ true → P x → P (if b then x else y)
chosen P true x y is holds = holds
chosen P false x y is holds = absurd (true≢false (sym is))

-- and of the other one
pub left_over : (P : Option Refusal → Type 0) (b : Bool) (x y : Option Refusal) → b ≡ false → P y → P (if b then x else y)
left_over P false x y is holds = holds
left_over P true x y is holds = absurd (true≢false is)

pub err_refused : (A : Type 0) (o : Option Refusal) (y : Refusal) → IfSome o (λ r. y ≡ r) → IfSome o (λ r. ◌≡◌ {A = Result A Refusal} (Err y) (Err r))
err_refused A None y is = tt
err_refused A (Some z) y is = ap Err is

-- a refusal at the endpoint is the handle's
pub refused_in : (P : Refusal → Type 0) (refusal : EndpointState → Option Refusal) (held : Held) (state : State) →
    Some held ≡ state → IfSome (refusal held.endpoint) P → IfSome (refusal_in state refusal) P
refused_in P refusal held state s = subst (λ o. IfSome o P) (λ i. refusal_in (s i) refusal)

-- a refusal that is the same as another makes the answer an error
pub refused_is_err : {A : Type 0} (o p : Option Refusal) (r : Result A Refusal) → o ≡ p → IfSome o (λ x. r ≡ Err x) → IfSome p (λ _. IsErr r)
refused_is_err o p r same refused = subst (λ q. IfSome q (λ _. IsErr r)) same (go o refused)
  where
    go : (q : Option Refusal) → IfSome q (λ x. r ≡ Err x) → IfSome q (λ _. IsErr r)
    go None is = tt
    go (Some x) is = subst (λ z. IsErr z) (sym is) refl

-- an error is a refusal that is the same as another, or out of memory
pub why_err : {A : Type 0} (o p : Option Refusal) (r : Result A Refusal) → o ≡ p → IfSome o (λ x. r ≡ Err x) → IfNone o (IfErr r (λ e. e ≡ NoMemory)) → IfErr r (λ e. (e ≡ NoMemory) ⊎ (p ≡ Some e))
why_err {A} o p r same refused memory = subst (λ q. IfErr r (λ e. (e ≡ NoMemory) ⊎ (q ≡ Some e))) same (go o r refused memory)
  where
    go : (q : Option Refusal) (a : Result A Refusal) → IfSome q (λ x. a ≡ Err x) → IfNone q (IfErr a (λ e. e ≡ NoMemory)) → IfErr a (λ e. (e ≡ NoMemory) ⊎ (q ≡ Some e))
    go q (Ok x) is none = tt
    go None (Err e) is none = inl none
    go (Some x) (Err e) is none = inr (sym (ap result_err is))

-- both where something is handed back with the refusal
pub refused_is_err_with : {A B : Type 0} (o p : Option Refusal) (b : B) (r : Result A (Refusal × B)) → o ≡ p → IfSome o (λ x. r ≡ Err (x, b)) → IfSome p (λ _. IsErr r)
refused_is_err_with o p b r same refused = subst (λ q. IfSome q (λ _. IsErr r)) same (go o refused)
  where
    go : (q : Option Refusal) → IfSome q (λ x. r ≡ Err (x, b)) → IfSome q (λ _. IsErr r)
    go None is = tt
    go (Some x) is = subst (λ z. IsErr z) (sym is) refl

pub why_err_with : {A B : Type 0} (o p : Option Refusal) (b : B) (r : Result A (Refusal × B)) → o ≡ p → IfSome o (λ x. r ≡ Err (x, b)) → IfNone o (IfErr r (λ e. e.0 ≡ NoMemory)) → IfErr r (λ e. (e.0 ≡ NoMemory) ⊎ (p ≡ Some e.0))
why_err_with {A} {B} o p b r same refused memory = subst (λ q. IfErr r (λ e. (e.0 ≡ NoMemory) ⊎ (q ≡ Some e.0))) same (go o r refused memory)
  where
    go : (q : Option Refusal) (a : Result A (Refusal × B)) → IfSome q (λ x. a ≡ Err (x, b)) → IfNone q (IfErr a (λ e. e.0 ≡ NoMemory)) → IfErr a (λ e. (e.0 ≡ NoMemory) ⊎ (q ≡ Some e.0))
    go q (Ok x) is none = tt
    go None (Err e) is none = inl none
    go (Some x) (Err e) is none = inr (sym (ap (λ a. option_map (λ e. e.0) (result_err a)) is))
