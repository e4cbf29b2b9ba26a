-- A step of a run in which an end also opens streams that it has a place for, whatever numbers they have.
use Rattle.std.proofs.Common.{◌≡◌, ℕ, List, [], ◌∷◌, ◌++◌, Some, cond, eqb, refl, sym, ap, ◌∙◌, subst, arith}
use Rattle.std.specs.Prelude.{slice_set}
use Rattle.std.proofs.lemmas.List.{length-set}
use Rattle.iw_memory.specs.Table.{Table}
use Rattle.iw_events.specs.declared.call.End.{End}
use Rattle.iw_events.specs.declared.act.Act.{Act}
use Rattle.iw_events.specs.declared.act.Entry.{Entry}
use Rattle.iw_laws.specs.Words.{Octets, Opening, other, acts, opening_of, openings_by, stream_acts_by, table_after, table_by}
use Rattle.iw_laws.specs.Turns.{Pooling, pooling_by}
use Rattle.iw_laws.specs.Rules.{EndState, State, end_of, with_end, Rule, end_after}
use Rattle.iw_laws.proofs.States.{connected, connected_at}
use Rattle.iw_laws.proofs.Tales.{table-push, pooled, pooling-push}
use Rattle.iw_laws.proofs.Pools.{PoolsSeen, tale}
use Rattle.iw_laws.proofs.Ends.{EndSeen, IsTold, Opens, number_opened, set_numbers, told_step, KeepsNumber}
use Rattle.iw_laws.proofs.Whole.{Keeps, PairAt, OpensFit, AreTold, opened_pair, end_moved, told_moved, one_more}
use Rattle.iw_laws.proofs.Runs.{PlainRule, plain_rule}

-- ---- one opening

-- the end with this stream opened in a place, under a number
abbrev pub given : EndState → ℕ → ℕ → Opening → EndState
given s n number o = record s { endpoint = record s.endpoint { streams = slice_set s.endpoint.streams n (Some (connected o (Some number)).stream) } }

-- an act that opens the stream n so, and does nothing else
pub record OpensOnly (act : Act Octets) (n : ℕ) (o : Opening) : Type 0 where
  pub opening : (j : ℕ) → openings_by j act ≡ cond (eqb n j) (o ∷ []) []
  pub silent : (j : ℕ) → stream_acts_by j act ≡ []
  pub table : (t : Table) → table_by t act ≡ t
  pub pools : (p : Pooling) (d : ℕ) → (pooling_by p act).pools d ≡ p.pools d

module _ (s : EndState) (done : List (Act Octets)) (act : Act Octets) (n number : ℕ) (o : Opening) (k : EndSeen s done) (new : Opens s n) (fits : OpensFit o) (only : OpensOnly act n o) where
  number_given : (j : ℕ) → KeepsNumber (given s n number o) done act j
  number_given j = number_opened s (given s n number o) done act n j number o k new (only.opening j) refl (only.silent j)

  end_given : EndSeen (given s n number o) (done ++ act ∷ [])
  end_given = record {
    domains = (k.domains.0, k.domains.1, omega (arith, k.domains.2, length-set s.endpoint.streams n (Some (connected o (Some number)).stream)));
    wires = k.wires ∙ sym (length-set s.endpoint.streams n (Some (connected o (Some number)).stream));
    none_closed = k.none_closed;
    opened = λ j. (number_given j).has;
    domain = λ j. (number_given j).domain;
    pooled = λ j. (number_given j).pooled;
    unused = λ j. (number_given j).unused;
  }

  pools_given : PoolsSeen s done → PoolsSeen (given s n number o) (done ++ act ∷ [])
  pools_given pools d = pools d ∙ sym (only.pools (pooled done) d) ∙ sym (ap (λ (z : Pooling). z.pools d) (pooling-push done act))

  told_given : number ≡ n → IsTold s done → IsTold (given s n number o) (done ++ act ∷ [])
  told_given same told = record {
    table = told.table ∙ sym (only.table (table_after done)) ∙ sym (table-push done act);
    numbers = set_numbers s.endpoint (given s n number o).endpoint n (connected o (Some number)).stream new.number refl (ap Some same) told.numbers;
  }

  pair_given : (peer : EndState) (others : List (Act Octets)) (j : ℕ) → PairAt s done peer others j → PairAt (given s n number o) (done ++ act ∷ []) peer others j
  pair_given peer others j = opened_pair s (given s n number o) done act n j number o (opening_of j others) (connected_at peer j) (tale j others) k new fits (only.opening j) refl refl (only.silent j)

keeps_given : (trace : List (Entry Octets)) (w : State) (x : End) (act : Act Octets) (n number : ℕ) (o : Opening) → Keeps trace w → Opens (end_of x w) n → OpensFit o → OpensOnly act n o
    → Keeps (trace ++ record { end = x; act = act } ∷ []) (with_end x (given (end_of x w) n number o) w)
keeps_given trace w x act n number o k new fits only =
    let s : EndState = end_of x w in
    let done : List (Act Octets) = acts x trace in
    end_moved trace w x act (given s n number o) k (end_given s done act n number o (k.ends x) new fits only) (pools_given s done act n number o (k.ends x) new fits only (k.pools x))
    (λ j. pair_given s done act n number o (k.ends x) new fits only (end_of (other x) w) (acts (other x) trace) j (k.pairs x j))

-- ---- a step

-- an act leaves the end so: it opens a stream, or does as the rules say
pub data Moves (s peer s' : EndState) (act : Act Octets) : Type 0 where
  Gives : (n number : ℕ) (o : Opening) → Opens s n → OpensFit o → OpensOnly act n o → PlainRule s peer act → s' ≡ given s n number o → Moves s peer s' act
  Does : Rule s peer act → s' ≡ end_after s act → Moves s peer s' act

-- a stream that it opens has the number of its place
abbrev pub IsOwn : {s peer s' : EndState} {act : Act Octets} → Moves s peer s' act → Type 0
IsOwn (Gives n number o new fits only rule is) = number ≡ n
IsOwn (Does rule is) = Unit {0}

pub moves_rule : (s peer s' : EndState) (act : Act Octets) → Moves s peer s' act → PlainRule s peer act
moves_rule s peer s' act (Gives n number o new fits only rule is) = rule
moves_rule s peer s' act (Does rule is) = plain_rule s peer act rule

pub moves_keep : (trace : List (Entry Octets)) (w : State) (x : End) (act : Act Octets) (s' : EndState) → Keeps trace w → Moves (end_of x w) (end_of (other x) w) s' act → Keeps (trace ++ record { end = x; act = act } ∷ []) (with_end x s' w)
moves_keep trace w x act s' k (Gives n number o new fits only rule is) = subst (λ z. Keeps (trace ++ record { end = x; act = act } ∷ []) (with_end x z w)) (sym is) (keeps_given trace w x act n number o k new fits only)
moves_keep trace w x act s' k (Does rule is) = subst (λ z. Keeps (trace ++ record { end = x; act = act } ∷ []) (with_end x z w)) (sym is) (one_more trace w (record { end = x; act = act }) k rule)

pub moves_told : (trace : List (Entry Octets)) (w : State) (x : End) (act : Act Octets) (s' : EndState) → Keeps trace w → (m : Moves (end_of x w) (end_of (other x) w) s' act) → IsOwn m → AreTold trace w → AreTold (trace ++ record { end = x; act = act } ∷ []) (with_end x s' w)
moves_told trace w x act s' k (Gives n number o new fits only rule is) own told =
    told_moved trace w x act s' told (subst (λ z. IsTold z (acts x trace ++ act ∷ [])) (sym is) (told_given (end_of x w) (acts x trace) act n number o (k.ends x) new fits only own (told x)))
moves_told trace w x act s' k (Does rule is) own told =
    told_moved trace w x act s' told (subst (λ z. IsTold z (acts x trace ++ act ∷ [])) (sym is) (told_step (end_of x w) (end_of (other x) w) (acts x trace) act (k.ends x) rule (told x)))
