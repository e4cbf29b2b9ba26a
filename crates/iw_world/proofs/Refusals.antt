-- A posting that is refused, other than by NoMemory, is refused for the reason that its stream has.
use Rattle.std.proofs.Common.{◌≡◌, Option, Some, None, true, sym, ◌∙◌, refl}
use Rattle.std.specs.Prelude.{is_some, unwrap_or}
use Rattle.std.specs.Option.{IfSome, IfNone, option_map}
use Rattle.std.proofs.lemmas.Bool.{false≢true}
use Rattle.iw_stream.specs.declared.answer.PostRefusal.{PostRefusal}
use Rattle.iw_stream.specs.declared.answer.PostRefusal.TheVariants.{NoMemory}
use Rattle.iw_stream.specs.Stream.{StreamState}
use Rattle.iw_endpoint.specs.declared.refusal.CallRefusal.{CallRefusal}
use Rattle.iw_endpoint.specs.declared.refusal.CallRefusal.TheVariants.{Refused}
use Rattle.iw_endpoint.specs.Endpoint.{EndpointState, unopened, refusal_at}
use Rattle.iw_endpoint.specs.Isolation.{unless}

pub record IsRefused (o : Option StreamState) (f : StreamState → Option PostRefusal) (refusal : PostRefusal) (left e new : EndpointState) : Type 0 where
  pub told : Some refusal ≡ f (unwrap_or o unopened)
  pub kept : left ≡ unless (refusal_at o f) e new

pub is_refused : (o : Option StreamState) (f : StreamState → Option PostRefusal) (got : CallRefusal PostRefusal) (refusal : PostRefusal) (X : Type 0) (left e new : EndpointState) → is_some o ≡ true → got ≡ Refused refusal → (refusal ≡ NoMemory → ⊥)
    → IfSome (refusal_at o f) (λ reason. (got ≡ reason) × X) → IfNone (refusal_at o f) (got ≡ Refused NoMemory) → left ≡ e → IsRefused o f refusal left e new
is_refused None f got refusal X left e new there is other some none same = absurd (false≢true there)
is_refused (Some s) f got refusal X left e new there is other some none same = go (f s) refl some none
  where
    go : (q : Option PostRefusal) → f s ≡ q → IfSome (option_map Refused q) (λ reason. (got ≡ reason) × X) → IfNone (option_map Refused q) (got ≡ Refused NoMemory) → IsRefused (Some s) f refusal left e new
    go None at some none = absurd (other (let alike : Refused refusal ≡ Refused NoMemory = sym is ∙ none in cc))
    go (Some reason) at some none =
        let alike : Refused refusal ≡ Refused reason = sym is ∙ some.0 in
        let one : refusal ≡ reason = cc in
        record { told = (λ i. Some (one i)) ∙ sym at; kept = same ∙ (λ i. unless (option_map Refused (sym at i)) e new) }
