-- What a read leaves of a stream, as what it leaves of the endpoint.
use Rattle.std.proofs.Common.{◌≡◌, ℕ, Bool, true, false, List, Option, Some, None, Result, Ok, Err, IfOk, get_or, slice_set, sym, ap, subst, ◌∙◌}
use Rattle.std.specs.Prelude.{unwrap_or, MatchBool}
use Rattle.std.proofs.lemmas.List.{set-get_or}
use Rattle.iw_stream.specs.declared.intake.Intake.{Intake}
use Rattle.iw_stream.specs.declared.intake.Intake.TheVariants.{Came, End, Full}
use Rattle.iw_stream.specs.Reading as stream
use Rattle.iw_stream.specs.Stream.{StreamState}
use Rattle.iw_endpoint.specs.Endpoint.{EndpointState, unopened, stream_at, with_stream}
use Rattle.iw_endpoint.specs.Reading.{IsRead, Counts}

pub read_at : (e : EndpointState) (number : ℕ) (s : StreamState) (before after : Option (List ℕ)) (intake : Intake) → with_stream e number (stream_at e number) ≡ e
    → stream.IsRead (stream_at e number) s before after intake → IsRead e (with_stream e number s) number before after intake
read_at e number s before after (Came n) same t = record {
  octets = t.octets;
  len = t.len;
  given = t.given;
  delivered = ap (with_stream e number) t.delivered;
  some = t.some;
  most = t.most;
  kept = t.kept;
  fits = t.fits;
}
read_at e number s before after End same t = (ap (with_stream e number) t.0 ∙ same, t.1, t.2)
read_at e number s before after Full same t = (ap (with_stream e number) t.0 ∙ same, t.1, t.2, t.3)

-- the stream that was found, put back, leaves the endpoint as it was
stays : (e : EndpointState) (number : ℕ) (now : StreamState) → Some now ≡ get_or e.streams number None → with_stream e number now ≡ e
stays e number now found =
    let put : slice_set e.streams number (Some now) ≡ e.streams = ap (slice_set e.streams number) found ∙ set-get_or e.streams number None in
    λ i. record e { streams = put i }

counts_at : (e : EndpointState) (number : ℕ) (s : StreamState) (n : ℕ) → stream.Counts (stream_at e number) s n → Counts e (with_stream e number s) number n
counts_at e number s n t = record {
  octets = t.octets;
  len = t.len;
  small = t.small;
  delivered = ap (with_stream e number) t.delivered;
  some = t.some;
  most = t.most;
  kept = t.kept;
  fits = t.fits;
}

-- the stream was found, and what it counted is told
pub counts_found : (e new : EndpointState) (number n : ℕ) (came : Bool) (now s : StreamState) → Some now ≡ get_or e.streams number None → new ≡ with_stream e number s
    → MatchBool came (stream.Counts now s n) (s ≡ now) → MatchBool came (Counts e new number n) (new ≡ e)
counts_found e new number n true now s found left c =
    let here : stream_at e number ≡ now = ap (λ o. unwrap_or o unopened) (sym found) in
    subst (λ x. Counts e x number n) (sym left) (counts_at e number s n (subst (λ x. stream.Counts x s n) (sym here) c))
counts_found e new number n false now s found left same = left ∙ ap (with_stream e number) same ∙ stays e number now found

-- the stream was found, and what its read answered is told
pub read_found : {E : Type 0} (e new : EndpointState) (number : ℕ) (r : Result Intake E) (intake : Intake) (now s : StreamState) (before after rest : Option (List ℕ)) → r ≡ Ok intake → after ≡ rest
    → Some now ≡ get_or e.streams number None → new ≡ with_stream e number s → stream.IsRead now s before rest intake → IfOk r (λ x. IsRead e new number before after x)
read_found e new number r intake now s before after rest is given found left read =
    let here : stream_at e number ≡ now = ap (λ o. unwrap_or o unopened) (sym found) in
    let put : slice_set e.streams number (Some (stream_at e number)) ≡ e.streams = ap (λ x. slice_set e.streams number (Some x)) here ∙ ap (slice_set e.streams number) found ∙ set-get_or e.streams number None in
    let same : with_stream e number (stream_at e number) ≡ e = λ i. record e { streams = put i } in
    let t = read_at e number s before rest intake same (subst (λ x. stream.IsRead x s before rest intake) (sym here) read) in
    subst (λ q. IfOk q (λ x. IsRead e new number before after x)) (sym is)
    (subst (λ n. IsRead e n number before after intake) (sym left) (subst (λ o. IsRead e (with_stream e number s) number before o intake) (sym given) t))

pub none_told : {T E : Type 0} (P : T → Type 0) (r : Result T E) (error : E) → r ≡ Err error → IfOk r P
none_told P r error is = subst (λ q. IfOk q P) (sym is) tt
