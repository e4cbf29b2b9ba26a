-- A run: at each place a state, what it has in common with what was done before, and the rule of the next entry there.
use Rattle.std.proofs.Common.{◌≡◌, List, [], ◌∷◌, ◌++◌, subst}
use Rattle.iw_events.specs.declared.act.Act.{Act}
use Rattle.iw_events.specs.declared.act.Act.TheVariants.{Domain, Register, Deregister, Invalidate, Store, Open, Share, Pool, Unpool, OpenShared, Stream}
use Rattle.iw_events.specs.declared.act.Entry.{Entry}
use Rattle.iw_laws.specs.Words.{Octets, other}
use Rattle.iw_laws.specs.Rules.{EndState, State, end_of, start, Rule, state_after, Follows}
use Rattle.iw_laws.proofs.Whole.{Keeps, Seen, AreTold, keeps_seen, follows_split, onward, told_onward, unsaid, told_first}

-- the rule of an act, whatever number an opening has
abbrev pub PlainRule : EndState → EndState → Act Octets → Type 0
PlainRule s peer (Open n pd role options private refused) = Unit {0}
PlainRule s peer (OpenShared n pd role options private refused) = Unit {0}
PlainRule s peer (Domain pd refused) = Rule s peer (Domain pd refused)
PlainRule s peer (Register pd base rights octets answer) = Rule s peer (Register pd base rights octets answer)
PlainRule s peer (Deregister stag answer) = Rule s peer (Deregister stag answer)
PlainRule s peer (Invalidate stag refused) = Rule s peer (Invalidate stag refused)
PlainRule s peer (Store stag to octets refused) = Rule s peer (Store stag to octets refused)
PlainRule s peer (Share pd refused) = Rule s peer (Share pd refused)
PlainRule s peer (Pool pd len refused) = Rule s peer (Pool pd len refused)
PlainRule s peer (Unpool pd answer) = Rule s peer (Unpool pd answer)
PlainRule s peer (Stream n act) = Rule s peer (Stream n act)

pub plain_rule : (s peer : EndState) (act : Act Octets) → Rule s peer act → PlainRule s peer act
plain_rule s peer (Open n pd role options private refused) rule = tt
plain_rule s peer (OpenShared n pd role options private refused) rule = tt
plain_rule s peer (Domain pd refused) rule = rule
plain_rule s peer (Register pd base rights octets answer) rule = rule
plain_rule s peer (Deregister stag answer) rule = rule
plain_rule s peer (Invalidate stag refused) rule = rule
plain_rule s peer (Store stag to octets refused) rule = rule
plain_rule s peer (Share pd refused) rule = rule
plain_rule s peer (Pool pd len refused) rule = rule
plain_rule s peer (Unpool pd answer) rule = rule
plain_rule s peer (Stream n act) rule = rule

abbrev pub PlainRuleIn : State → Entry Octets → Type 0
PlainRuleIn w e = PlainRule (end_of e.end w) (end_of (other e.end) w) e.act

-- the rule of the next entry, if there is one
abbrev pub NextRule : State → List (Entry Octets) → Type 0
NextRule w [] = Unit {0}
NextRule w (e ∷ es) = PlainRuleIn w e

-- a state between entries: what it has in common with what was done before, and the rule of the next entry there
pub record Moment (past future : List (Entry Octets)) : Type 0 where
  pub state : State
  pub keeps : Keeps past state
  pub next : NextRule state future

pub seen_then : (past future : List (Entry Octets)) (m : Moment past future) → Seen past m.state
seen_then past future m = keeps_seen past m.state m.keeps

-- one at each place of the trace, whatever the regions are
abbrev pub Run : List (Entry Octets) → Type 0
Run trace = (past future : List (Entry Octets)) → trace ≡ past ++ future → Moment past future

-- one where the regions, and the numbers of streams, are those that were told
abbrev pub ToldMoment : List (Entry Octets) → List (Entry Octets) → Type 0
ToldMoment past future = (m : Moment past future) × AreTold past m.state

abbrev pub ToldRun : List (Entry Octets) → Type 0
ToldRun trace = (past future : List (Entry Octets)) → trace ≡ past ++ future → ToldMoment past future

pub run_in : (trace : List (Entry Octets)) → ToldRun trace → Run trace
run_in trace run past future is = (run past future is).0

-- what follows the rules is one
pub run_of : (trace : List (Entry Octets)) → Follows start trace → ToldRun trace
run_of trace follows past future is =
    let split = follows_split past future start (subst (Follows start) is follows) in
    (record { state = state_after start past; keeps = onward [] past start unsaid split.0; next = next future split.1 }, told_onward [] past start unsaid told_first split.0)
  where
    next : (future : List (Entry Octets)) → Follows (state_after start past) future → NextRule (state_after start past) future
    next [] h = tt
    next (e ∷ es) h = let w : State = state_after start past in plain_rule (end_of e.end w) (end_of (other e.end) w) e.act h.0
