-- Why no step is done at a stream, and that none is refused where it has not come too far.
use Rattle.std.proofs.Common.{◌≡◌, ℕ, ◌≤◌, ◌^◌, Bool, true, false, Option, Some, None, Result, Err, refl, sym, subst, arith}
use Rattle.std.specs.Prelude.{IfSome, IfNone, nat_lt, if◌then◌else◌}
use Rattle.std.proofs.lemmas.Bool.{true≢false}
use Rattle.std.proofs.lemmas.Bool.Decides.{nat_tests}
use Rattle.iw_endpoint.specs.Endpoint.{EndpointState, has_stream, point_at}
use Rattle.iw_handle.specs.declared.refusal.Refusal.{Refusal}
use Rattle.iw_handle.specs.declared.refusal.Refusal.TheVariants.{NoSuchStream, TooFar, NoMemory}
use Rattle.iw_handle.specs.State.{first_of}
use Rattle.iw_handle.specs.Streams.{refusal_to_work}

abbrev refusal_by : Bool → Bool → Option Refusal
refusal_by there far = first_of (if there then None else Some NoSuchStream) (if far then Some TooFar else None)

is_near : (n : ℕ) → n ≤ 2 ^ 62 → nat_lt (2 ^ 62) n ≡ false
is_near n low = grind (arith, nat_tests)

pub may_work : (e : EndpointState) (number : ℕ) → has_stream e number ≡ true → point_at e number ≤ 2 ^ 62 → refusal_to_work e number ≡ None
may_work e number there near = go (has_stream e number) (nat_lt (2 ^ 62) (point_at e number)) there (is_near (point_at e number) near)
  where
    go : (b far : Bool) → b ≡ true → far ≡ false → refusal_by b far ≡ None
    go false far is near = absurd (true≢false (sym is))
    go true true is near = absurd (true≢false near)
    go true false is near = refl

-- it is not for want of memory
pub not_memory : (e : EndpointState) (number : ℕ) → refusal_to_work e number ≡ Some NoMemory → ⊥
not_memory e number is = go (has_stream e number) (nat_lt (2 ^ 62) (point_at e number)) is
  where
    go : (b far : Bool) → refusal_by b far ≡ Some NoMemory → ⊥
    go false far is = cc
    go true true is = cc
    go true false is = cc

pub refused_none : (o : Option Refusal) (P : Refusal → Type 0) → o ≡ None → IfSome o P
refused_none o P none = subst (λ (q : Option Refusal). IfSome q P) (sym none) tt

pub refused_this : (A : Type 0) (o : Option Refusal) (r : Refusal) → o ≡ Some r → IfSome o (λ x. ◌≡◌ {A = Result A Refusal} (Err r) (Err x))
refused_this A o r is = subst (λ (q : Option Refusal). IfSome q (λ x. ◌≡◌ {A = Result A Refusal} (Err r) (Err x))) (sym is) refl

pub memory_of : (o : Option Refusal) (P : Type 0) → P → IfNone o P
memory_of None P p = p
memory_of (Some r) P p = tt

pub memory_none : (o : Option Refusal) (r : Refusal) (P : Type 0) → o ≡ Some r → IfNone o P
memory_none o r P is = subst (λ (q : Option Refusal). IfNone q P) (sym is) tt
