-- Steps of a connection's stream, one after another.
use Rattle.std.proofs.Common.{◌≡◌, ℕ, List, refl, sym, subst, ◌∙◌}
use Rattle.iw_octets.specs.declared.stag.Stag.{Stag}
use Rattle.iw_stream.specs.declared.answer.Step.{Step}
use Rattle.iw_stream.specs.declared.answer.Step.TheVariants as steps
use Rattle.iw_endpoint.specs.Endpoint.{EndpointState, broken, after_close}
use Rattle.iw_connection.specs.Steps.{GoesTo, Stops}
use Rattle.iw_server.specs.declared.connection.Connection.{Connection}
use Rattle.iw_server.specs.Acting.{IsSame, standing, Does, Acts, NoStep, OneMore, ActsAll, ActsOn}
use Rattle.iw_server.specs.Closing as closing
use Rattle.iw_server.specs.Closing.{HandsBack, IsForgotten}

-- ---- what a connection keeps

pub same_refl : (c : Connection) → IsSame c c
same_refl c = record { stream = refl; region = refl; place = refl; unwritten = refl }

pub same_trans : (a b c : Connection) → IsSame a b → IsSame b c → IsSame a c
same_trans a b c p q = record {
  stream = q.stream ∙ p.stream;
  region = q.region ∙ p.region;
  place = q.place ∙ p.place;
  unwritten = q.unwritten ∙ p.unwritten;
}

-- ---- steps that are acted on

-- so far, of a connection that is the same
pub record HasActed (e : EndpointState) (c : Connection) (e' : EndpointState) (c' : Connection) : Type 0 where
  pub same : IsSame c c'
  pub acts : Acts c.region c.stream (standing e c) (standing e' c')

pub acted_none : (e : EndpointState) (c : Connection) → HasActed e c e c
acted_none e c = record { same = same_refl c; acts = NoStep }

pub acted_more : (e : EndpointState) (c : Connection) (e' : EndpointState) (c' : Connection) (step : Step (List ℕ)) (m f : EndpointState) (d : Connection) → HasActed e c e' c'
    → GoesTo e' c'.stream step m → IsSame c' d → Does c'.region c'.stream step (standing m c') (standing f d) → HasActed e c f d
acted_more e c e' c' step m f d h goes same does =
    let first = subst (λ (n : ℕ). GoesTo e' n step m) h.same.stream goes in
    let then = subst (λ (n : ℕ). Does c'.region n step (standing m c') (standing f d)) h.same.stream does in
    record {
      same = same_trans c c' d h.same same;
      acts = OneMore (standing e' c') step m (standing f d) h.acts first (subst (λ (r : Stag). Does r c.stream step (standing m c') (standing f d)) h.same.region then);
    }

pub acted_all : (e : EndpointState) (c : Connection) (e' : EndpointState) (c' : Connection) (f : EndpointState) → HasActed e c e' c' → GoesTo e' c'.stream steps.Idle f → ActsAll c.region c.stream (standing e c) (standing f c')
acted_all e c e' c' f h goes = record {
  t = standing e' c';
  acts = h.acts;
  rests = subst (λ (n : ℕ). GoesTo e' n steps.Idle f) h.same.stream goes;
  same = refl;
}

pub acted_on : (e : EndpointState) (c : Connection) (e' : EndpointState) (c' : Connection) (f : EndpointState) → HasActed e c e' c' → Stops e' c'.stream f → ActsOn c.region c.stream (standing e c) (standing f c')
acted_on e c e' c' f h stops = record {
  t = standing e' c';
  acts = h.acts;
  stops = subst (λ (n : ℕ). Stops e' n f) h.same.stream stops;
  same = refl;
}

-- ---- what is handed back

pub hands_back_none : (number : ℕ) (e f : EndpointState) → f ≡ broken e number → HandsBack number (broken e number) f
hands_back_none number e f is = subst (HandsBack number (broken e number)) (sym is) closing.NoStep

pub hands_back_more : (number : ℕ) (e m f : EndpointState) (step : Step (List ℕ)) → HandsBack number e m → GoesTo m number step f → HandsBack number e f
hands_back_more number e m f step h goes = closing.OneMore m step f h goes

pub forgotten : (old before at new : EndpointState) (number : ℕ) → HandsBack number (broken old number) before → GoesTo before number steps.Idle at → new ≡ after_close at number → IsForgotten old number new
forgotten old before at new number h goes is = record { before = before; at = at; hands_back = h; rests = goes; closed = is }
