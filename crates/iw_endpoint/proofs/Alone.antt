-- Over any calls each domain is answered, and is left with, what it would be with no other domain at the endpoint.
use Rattle.std.proofs.Common.{◌≡◌, ◌⊎◌, ℕ, zero, suc, true, false, cond, List, [], ◌∷◌, get_or, replicate, Option, Some, None, refl, sym, ap, subst, ◌∙◌, inl, inr}
use Rattle.std.specs.Prelude.{IfSome, is_some}
use Rattle.std.specs.Option.{option_map}
use Rattle.std.proofs.lemmas.Bool.{false≢true, cases_Bool}
use Rattle.std.proofs.lemmas.Bool.Decides.{eqb_tells}
use Rattle.iw_stream.specs.Stream.{StreamState}
use Rattle.iw_endpoint.specs.Endpoint.{EndpointState, fresh, no_streams, no_closed, stream_of, closed_at, next_refusal, next_shared_refusal}
use Rattle.iw_endpoint.specs.Isolation.{Call, AddDomain, Register, RegisterDrawn, RegisterOctets, RegisterOctetsDrawn, Deregister, DeregisterKept, TakeRegion, Invalidate, Store, Facts, Local, LocalMut, Open, Share, PostShared, TakeShared, OpenShared, OpenNext, OpenSharedNext, AtStream, HasDomains, IsOwn, IsOwnNumber, gives_none, Concerns, Opens, OwnStep, OpensOwn, DomainsAreAlone, part_of, answer, after, unless, owner, concerned, only, view, after_all, own_answer, own_answers, own_after_all}
use Rattle.iw_endpoint.proofs.Parts.{fresh_domains}
use Rattle.iw_endpoint.proofs.Steps.{concerns_one}

-- each stream is in the domain whose its number is
abbrev pub AreOwned : (ℕ → ℕ) → EndpointState → Type 0
AreOwned whose e = (n : ℕ) → IsOwnNumber (whose n) e n

-- the number that is given, if one is, is the domain's
given : (whose : ℕ → ℕ) (e : EndpointState) (n : Option ℕ) (pd : ℕ) → AreOwned whose e → ((m : ℕ) → n ≡ Some m → whose m ≡ pd) → IfSome n (IsOwnNumber pd e)
given whose e None pd owned opens = tt
given whose e (Some m) pd owned opens = subst (λ d. IsOwnNumber d e m) (opens m refl) (owned m)

-- each number under which the call opens a stream is its domain's
abbrev pub IsOpenedOwn : (ℕ → ℕ) → EndpointState → Call → Type 0
IsOpenedOwn whose e call = gives_none e call ≡ false → (n d : ℕ) → Opens n d call → whose n ≡ d

pub concerns : (whose : ℕ → ℕ) (e : EndpointState) (call : Call) → AreOwned whose e → IsOpenedOwn whose e call → Concerns (concerned whose call) e call
concerns whose e (AddDomain pd) owned opens = refl
concerns whose e (Register pd base octets rights) owned opens = refl
concerns whose e (RegisterDrawn pd base octets rights drawn) owned opens = refl
concerns whose e (RegisterOctets pd base octets kept rights) owned opens = refl
concerns whose e (RegisterOctetsDrawn pd base octets kept rights drawn) owned opens = refl
concerns whose e (Deregister stag) owned opens = refl
concerns whose e (DeregisterKept stag) owned opens = refl
concerns whose e (TakeRegion stag) owned opens = refl
concerns whose e (Invalidate stag) owned opens = refl
concerns whose e (Store stag to octets) owned opens = refl
concerns whose e (Facts stag) owned opens = refl
concerns whose e (Local stag) owned opens = refl
concerns whose e (LocalMut stag octets) owned opens = refl
concerns whose e (Open n pd role config) owned opens = (refl, subst (λ d. IsOwnNumber d e n) (opens refl n pd (refl, refl)) (owned n))
concerns whose e (Share pd) owned opens = refl
concerns whose e (PostShared pd buffer) owned opens = refl
concerns whose e (TakeShared pd) owned opens = refl
concerns whose e (OpenShared n pd role config) owned opens = (refl, subst (λ d. IsOwnNumber d e n) (opens refl n pd (refl, refl)) (owned n))
concerns whose e (OpenNext n pd role config) owned opens = (refl, λ gives. given whose e n pd owned (λ m is. opens gives m pd (is, refl)))
concerns whose e (OpenSharedNext n pd role config) owned opens = (refl, λ gives. given whose e n pd owned (λ m is. opens gives m pd (is, refl)))
concerns whose e (AtStream n call) owned opens = owned n

owned_by : (d x : ℕ) (o : Option StreamState) → option_map (λ s. s.domain) o ≡ Some x → IsOwn d o → x ≡ d
owned_by d x None e own = absurd (let no : ⊥ = cc in no)
owned_by d x (Some s) e own = let same : s.domain ≡ x = cc in sym same ∙ own

opened_owned : (whose : ℕ → ℕ) (e : EndpointState) (call : Call) (d : ℕ) → AreOwned whose e → ((n d : ℕ) → Opens n d call → whose n ≡ d) → OwnStep d e call → AreOwned whose (after e call)
opened_owned whose e call d owned opens step n = (go (stream_of (after e call) n) (step.owners n), ended (closed_at (after e call) n) (step.closed n))
  where
    told : (s : StreamState) → (owner e n ≡ Some s.domain) ⊎ Opens n s.domain call → s.domain ≡ whose n
    told s h = elim h [ inl was ↦ owned_by (whose n) s.domain (stream_of e n) was (owned n).0 | inr opened ↦ sym (opens n s.domain opened) ]

    go : (o : Option StreamState) → IfSome o (λ s. (owner e n ≡ Some s.domain) ⊎ Opens n s.domain call) → IsOwn (whose n) o
    go None h = tt
    go (Some s) h = told s h

    last : (x : ℕ) → (closed_at e n ≡ Some x) ⊎ (owner e n ≡ Some x) → x ≡ whose n
    last x h = elim h [
      | inl was ↦ subst (λ o. IfSome o (λ y. y ≡ whose n)) was (owned n).1
      | inr now ↦ owned_by (whose n) x (stream_of e n) now (owned n).0
    ]

    ended : (o : Option ℕ) → IfSome o (λ x. (closed_at e n ≡ Some x) ⊎ (owner e n ≡ Some x)) → IfSome o (λ x. x ≡ whose n)
    ended None h = tt
    ended (Some x) h = last x h

-- a refused call leaves all as it is
kept_unless : {R : Type 0} (q : Option R) (e new : EndpointState) → is_some q ≡ true → unless q e new ≡ e
kept_unless None e new refused = absurd (false≢true refused)
kept_unless (Some r) e new refused = refl

gives_nothing : (e : EndpointState) (call : Call) → gives_none e call ≡ true → after e call ≡ e
gives_nothing e (OpenNext n pd role config) refused = kept_unless (next_refusal e n pd role config) e _ refused
gives_nothing e (OpenSharedNext n pd role config) refused = kept_unless (next_shared_refusal e n pd role config) e _ refused
gives_nothing e call refused = absurd (false≢true refused)

pub stay_owned : (whose : ℕ → ℕ) (e : EndpointState) (call : Call) (d : ℕ) → AreOwned whose e → IsOpenedOwn whose e call → OwnStep d e call → AreOwned whose (after e call)
stay_owned whose e call d owned opens step = elim (cases_Bool (gives_none e call)) [
  | inl none ↦ subst (AreOwned whose) (sym (gives_nothing e call none)) owned
  | inr gives ↦ opened_owned whose e call d owned (opens gives) step
]

record Runs (whose : ℕ → ℕ) (d : ℕ) (e : EndpointState) (calls : List Call) : Type 0 where
  answers : view whose d e calls ≡ own_answers d (part_of d e) (only whose d calls)
  part : part_of d (after_all e calls) ≡ own_after_all d (part_of d e) (only whose d calls)

one_more : (whose : ℕ → ℕ) (d : ℕ) (e : EndpointState) (call : Call) (calls : List Call) → OwnStep (concerned whose call) e call → Runs whose d (after e call) calls → Runs whose d e (call ∷ calls)
one_more whose d e call calls step rest = elim (eqb_tells (concerned whose call) d) [
  | inl same ↦
      let own = subst (λ x. OwnStep x e call) same.1 step in
      let those = only whose d calls in record {
        answers =
            ap (λ b. cond b (answer e call ∷ view whose d (after e call) calls) (view whose d (after e call) calls)) same.0
            ∙ (λ i. own.answered i ∷ rest.answers i)
            ∙ ap (λ p. own_answer d (part_of d e) call ∷ own_answers d p those) own.own
            ∙ sym (ap (λ b. own_answers d (part_of d e) (cond b (call ∷ those) those)) same.0);
        part =
            rest.part
            ∙ ap (λ p. own_after_all d p those) own.own
            ∙ sym (ap (λ b. own_after_all d (part_of d e) (cond b (call ∷ those) those)) same.0);
      }
  | inr other ↦
      let stays = step.others d (λ e. other.1 (sym e)) in
      let those = only whose d calls in record {
        answers =
            ap (λ b. cond b (answer e call ∷ view whose d (after e call) calls) (view whose d (after e call) calls)) other.0
            ∙ rest.answers
            ∙ ap (λ p. own_answers d p those) stays
            ∙ sym (ap (λ b. own_answers d (part_of d e) (cond b (call ∷ those) those)) other.0);
        part =
            rest.part
            ∙ ap (λ p. own_after_all d p those) stays
            ∙ sym (ap (λ b. own_after_all d (part_of d e) (cond b (call ∷ those) those)) other.0);
      }
]

runs : (whose : ℕ → ℕ) (calls : List Call) (e : EndpointState) → HasDomains e → AreOwned whose e → OpensOwn whose e calls → (d : ℕ) → Runs whose d e calls
runs whose [] e all owned opens d = record { answers = refl; part = refl }
runs whose (call ∷ calls) e all owned opens d =
    let c = concerned whose call in
    let step = concerns_one c e call all (concerns whose e call owned opens.0) in
    one_more whose d e call calls step (runs whose calls (after e call) step.domains (stay_owned whose e call c owned opens.0 step) opens.1 d)

nothing_in : {A : Type 0} (k n : ℕ) → get_or (replicate {A = Option A} k None) n None ≡ None
nothing_in zero zero = refl
nothing_in zero (suc n) = refl
nothing_in (suc k) zero = refl
nothing_in {A} (suc k) (suc n) = nothing_in {A = A} k n

pub nothing_owned : (whose : ℕ → ℕ) → AreOwned whose fresh
unfolding no_streams no_closed
nothing_owned whose n = (subst (λ o. IsOwn (whose n) o) (sym (nothing_in {A = StreamState} 64 n)) tt, subst (λ o. IfSome o (λ x. x ≡ whose n)) (sym (nothing_in {A = ℕ} 64 n)) tt)

pub alone_all : DomainsAreAlone
alone_all whose calls opens d = let run = runs whose calls fresh fresh_domains (nothing_owned whose) opens d in record { answers = run.answers; part = run.part }
