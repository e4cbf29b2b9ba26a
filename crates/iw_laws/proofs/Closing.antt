-- What a close leaves at an end of a server.
use Rattle.std.proofs.Common.{◌≡◌, ◌≢◌, ℕ, zero, suc, List, [], ◌∷◌, ◌++◌, map, Option, Some, None, Bool, true, false, cond, eqb, refl, sym, ap, ◌∙◌, subst}
use Rattle.std.specs.Prelude.{is_some, slice_set, slice_index_or}
use Rattle.std.specs.Option.{option_map}
use Rattle.std.proofs.lemmas.List.{get_or-set_other}
use Rattle.std.proofs.lemmas.Bool.{eq-eqb}
use Rattle.iw_octets.specs.declared.stag.Stag.{Stag}
use Rattle.iw_memory.specs.Region.{Region, retired_region}
use Rattle.iw_memory.specs.Part.{Part, SlotState, own_region, own_retired, retired_slot, under_key, unused}
use Rattle.iw_memory.specs.Table.{Table, part_of, region_at, retired}
use Rattle.iw_stream.specs.Stream.{StreamState, peer_of}
use Rattle.iw_endpoint.specs.Endpoint as endpoint
use Rattle.iw_endpoint.specs.Endpoint.{EndpointState, has_stream, stream_of, stream_at, rest_refusal}
use Rattle.iw_events.specs.declared.call.End.{End}
use Rattle.iw_events.specs.declared.server.ServerAct.TheVariants.{Close}
use Rattle.iw_events.specs.declared.server.ServerEntry.{ServerEntry}
use Rattle.iw_laws.specs.Words.{Octets, other, acts}
use Rattle.iw_laws.specs.Rules.{EndState, State, end_of, start}
use Rattle.iw_laws.specs.Servers.{Connections, told, ServerRule, server_after, after_server_entry, server_state_after, ServerFollows}
use Rattle.iw_laws.specs.ServerLaws.{NoneLimited, LeavesOthers, CloseLeavesOthers, CloseLeavesRegions}
use Rattle.iw_laws.proofs.States.{asked}
use Rattle.iw_laws.proofs.Ends.{AreNumbered, number_at, there}
use Rattle.iw_laws.proofs.Unlimited.{Unlimited, all_free, retired_free}
use Rattle.iw_laws.proofs.Serving.{set_there, served, served_unlimited}

-- the first entries follow the rules, and so does the next
pub server_follows-split : (name : Connections) (xs ys : List (ServerEntry Octets)) (w : State) → ServerFollows name w (xs ++ ys) → ServerFollows name w xs × ServerFollows name (server_state_after w xs) ys
server_follows-split name [] ys w h = (tt, h)
server_follows-split name (e ∷ xs) ys w h = let p = server_follows-split name xs ys (after_server_entry w e) h.1 in ((h.0, p.0), p.1)

-- ---- regions that are out of use

-- what stands at a place that is changed so
set_here : {A : Type 0} (f : A → A) (d : A) → f d ≡ d → (xs : List A) (i : ℕ) → slice_index_or (slice_set xs i (f (slice_index_or xs i d))) i d ≡ f (slice_index_or xs i d)
set_here f d same [] i = sym same
set_here f d same (x ∷ xs) zero = refl
set_here f d same (x ∷ xs) (suc i) = set_here f d same xs i

slot_retired : (stream : Option ℕ) (slots : List SlotState) (i : ℕ) → slice_index_or (map (retired_slot stream) slots) i unused ≡ retired_slot stream (slice_index_or slots i unused)
slot_retired stream [] i = refl
slot_retired stream (s ∷ slots) zero = refl
slot_retired stream (s ∷ slots) (suc i) = slot_retired stream slots i

region_retired : (part : Part) (stream : Option ℕ) (stag : Stag) → own_region (own_retired part stream) stag ≡ option_map (retired_region stream) (own_region part stag)
region_retired None stream stag = keyed (eqb 0 stag.key) None
  where
    keyed : (b : Bool) (o : Option Region) → cond b None None ≡ option_map (retired_region stream) (cond b None None)
    keyed true o = refl
    keyed false o = refl
region_retired (Some slots) stream stag = ap (λ s. under_key s stag.key) (slot_retired stream slots stag.slot) ∙ keyed (slice_index_or slots stag.slot unused)
  where
    keyed : (s : SlotState) → under_key (retired_slot stream s) stag.key ≡ option_map (retired_region stream) (under_key s stag.key)
    keyed s = go (eqb s.key stag.key)
      where
        go : (b : Bool) → cond b (option_map (retired_region stream) s.region) None ≡ option_map (retired_region stream) (cond b s.region None)
        go true = refl
        go false = refl

-- in the domain, and in every other
pub at_retired : (t : Table) (d : ℕ) (stream : Option ℕ) (stag : Stag) → stag.domain ≡ d → region_at (retired t (record { domain = d; stream = stream })) stag ≡ option_map (retired_region stream) (region_at t stag)
at_retired t d stream stag own =
    subst (λ x. own_region (part_of (retired t (record { domain = d; stream = stream })) x) stag ≡ option_map (retired_region stream) (own_region (part_of t x) stag)) (sym own)
    (ap (λ part. own_region part stag) (set_here (λ part. own_retired part stream) None refl t d) ∙ region_retired (part_of t d) stream stag)

pub at_others : (t : Table) (d : ℕ) (stream : Option ℕ) (stag : Stag) → stag.domain ≢ d → region_at (retired t (record { domain = d; stream = stream })) stag ≡ region_at t stag
at_others t d stream stag apart = ap (λ part. own_region part stag) (get_or-set_other t d stag.domain (own_retired (part_of t d) stream) None apart)

-- ---- a close

closes_one : (s : EndState) (n : ℕ) → AreNumbered s.endpoint → has_stream s.endpoint n ≡ true → (server_after s (Close n None)).endpoint ≡ endpoint.after_close s.endpoint n → LeavesOthers s (server_after s (Close n None)) n
closes_one s n numbers has left =
    let c : StreamState = stream_at s.endpoint n in
    let table : (server_after s (Close n None)).endpoint.table ≡ retired s.endpoint.table (record { domain = c.domain; stream = Some n }) =
    ap (λ (e : EndpointState). e.table) left ∙ ap (λ z. retired s.endpoint.table (record { domain = c.domain; stream = z })) (number_at s.endpoint n numbers has) in
    record {
      gone =
          ap (λ e. has_stream e n) left
          ∙ ap is_some (set_there s.endpoint.streams n n None None (there s.endpoint.streams n has) ∙ ap (λ b. cond b None (stream_of s.endpoint n)) (eq-eqb n n refl));
      others = λ m apart. ap (λ e. stream_of e m) left ∙ get_or-set_other s.endpoint.streams n m None None apart;
      retired = λ stag own. ap (λ t. region_at t stag) table ∙ at_retired s.endpoint.table c.domain (Some n) stag own;
      regions = λ stag apart. ap (λ t. region_at t stag) table ∙ at_others s.endpoint.table c.domain (Some n) stag apart;
      pools = ap (λ (e : EndpointState). e.pools) left;
      wires = refl;
    }

-- the close of a run, in the state that the entries before it leave
closed_there : (name : Connections) (past future : List (ServerEntry Octets)) (x : End) (n : ℕ) → ServerFollows name start (past ++ record { end = x; act = Close n None } ∷ future)
    → ServerFollows name start past × ServerRule (name x) (name (other x)) (end_of x (server_state_after start past)) (end_of (other x) (server_state_after start past)) (Close n None)
closed_there name past future x n follows = let split = server_follows-split name past (record { end = x; act = Close n None } ∷ future) start follows in (split.0, split.1.0)

after_it : (s peer : EndState) (own other : ℕ → ℕ) (n : ℕ) → ServerRule own other s peer (Close n None) → (server_after s (Close n None)).endpoint ≡ endpoint.after_close s.endpoint n
after_it s peer own other n rule = asked s.endpoint (endpoint.after_close s.endpoint n) n rest_refusal None rule.0.0 rule.0.1

pub close_leaves_others : CloseLeavesOthers
close_leaves_others name trace apart follows past future x n is =
    let w : State = server_state_after start past in
    let at = closed_there name past future x n (subst (ServerFollows name start) is follows) in
    closes_one (end_of x w) n ((served name past apart at.0).alike x).numbers at.1.0.0 (after_it (end_of x w) (end_of (other x) w) (name x) (name (other x)) n at.1)

-- where no region is limited to a stream
none_before : (past future : List (ServerEntry Octets)) → NoneLimited (past ++ future) → NoneLimited past
none_before [] future none = tt
none_before (e ∷ past) future none = (none.0, none_before past future none.1)

pub close_leaves_regions : CloseLeavesRegions
close_leaves_regions name trace apart follows none past future x n is =
    let closes : ServerEntry Octets = record { end = x; act = Close n None } in
    let w : State = server_state_after start past in
    let s : EndState = end_of x w in
    let at = closed_there name past future x n (subst (ServerFollows name start) is follows) in
    let walked = served_unlimited name past apart at.0 (none_before past (closes ∷ future) (subst NoneLimited is none)) in
    let free : Unlimited s.endpoint.table = subst Unlimited (sym (walked.as_told tt x).table ∙ (walked.alike x).table) (all_free (acts x (told name past))) in
    ap (λ (e : EndpointState). e.table) (after_it s (end_of (other x) w) (name x) (name (other x)) n at.1) ∙ retired_free s.endpoint.table (peer_of (stream_at s.endpoint n)) free
