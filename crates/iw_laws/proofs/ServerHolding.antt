-- What stands in a region of an end that serves any number of connections, once a message has come.
use Rattle.std.proofs.Common.{◌≡◌, ◌≢◌, ◌⊎◌, inl, inr, ℕ, ◌+◌, ◌-◌, ◌<◌, ◌≤◌, List, [], ◌∷◌, ◌++◌, length, Option, Some, None, Ok, Err, Bool, true, false, cond, refl, sym, ap, ◌∙◌, subst, arith, append_assoc}
use Rattle.std.specs.Prelude.{fold}
use Rattle.std.specs.Option.{option_map}
use Rattle.std.proofs.lemmas.Bool.Decides.{eqb_tells}
use Rattle.std.proofs.lemmas.List.{append-nil}
use Rattle.std.proofs.lemmas.List.Concat.{flat_map-append}
use Rattle.std.proofs.lemmas.List.Sums.{fold-append}
use Rattle.std.proofs.lemmas.Option.{none-some, same_Some}
use Rattle.iw_octets.specs.declared.stag.Stag.{Stag}
use Rattle.iw_memory.specs.declared.rights.Right.{Right}
use Rattle.iw_memory.specs.declared.rights.Right.TheVariants as rights
use Rattle.iw_memory.specs.Region.{bound_region, is_bound_to, made_invalid, retired_region}
use Rattle.iw_memory.specs.Table.{Table, empty, region_at, retired}
use Rattle.iw_memory.specs.Laws.{AllowsFor}
use Rattle.iw_stream.specs.Judging.{Standing}
use Rattle.iw_events.specs.declared.call.End.{End}
use Rattle.iw_events.specs.declared.call.End.TheVariants.{A, B}
use Rattle.iw_events.specs.declared.act.Act.{Act}
use Rattle.iw_events.specs.declared.act.Act.TheVariants as acts
use Rattle.iw_events.specs.declared.act.StreamAct.{StreamAct}
use Rattle.iw_events.specs.declared.act.StreamAct.TheVariants.{Deliver, Raw, Work}
use Rattle.iw_events.specs.declared.act.Seen.TheVariants as seen
use Rattle.iw_events.specs.declared.act.Entry.{Entry}
use Rattle.iw_events.specs.declared.server.ServerAct.{ServerAct}
use Rattle.iw_events.specs.declared.server.ServerAct.TheVariants.{Plain, Stream, OpenNext, OpenSharedNext, Read, ReadRaw, RegisterFor, Close}
use Rattle.iw_events.specs.declared.server.ServerEntry.{ServerEntry}
use Rattle.iw_laws.specs.Words as words
use Rattle.iw_laws.specs.Words.{Octets, Placing, OnSome, other, deed, domain_of, table_by}
use Rattle.iw_laws.specs.Safe.{Covered}
use Rattle.iw_laws.specs.Faithful.{Answering}
use Rattle.iw_laws.specs.Holds.{Place, cell_of, Holds, touches}
use Rattle.iw_laws.specs.Servers.{Connections, told, told_by, at_end}
use Rattle.iw_laws.specs.ServerLaws.{server_acts, server_acts_if, count_given, OfConnections}
use Rattle.iw_laws.specs.ServerRegions.{server_table, server_table_by, server_table_if, server_table_from, server_standing, server_stream_act, ServerAtEach, WithinAs}
use Rattle.iw_laws.specs.ServerMemory.{ServerAnswered, ServerShowsMemory}
use Rattle.iw_laws.specs.ServerHolds.{server_touches, server_touched, server_last_touch, IsLeftAlone, ServerHoldsWritten, ServerHoldsFetched}
use Rattle.iw_laws.proofs.OneOctet.{Stands}
use Rattle.iw_laws.proofs.Touched.{IsPlaceable, FitsAct, placeable, storable, other_slot, stays, counts-push, count_act, none_act, IsPut, placed_there, placed_counted, IsStep, IsSeenSince, seen_first, seen_step, stands_there, placed_at, IsOnlyOne}
use Rattle.iw_laws.proofs.Holding.{write_apart, sink_apart, written_one, fetched_one}
use Rattle.iw_laws.proofs.Laws.{covered, answering_all}
use Rattle.iw_laws.proofs.Closing.{at_retired, at_others}
use Rattle.iw_laws.proofs.Serving.{server_run}
use Rattle.iw_laws.proofs.ServerTables.{of_server_regions, within_as}
use Rattle.iw_laws.proofs.ServerCalls.{shows_server_memory}

-- ---- what an end has done

acts-append : (x : End) (xs ys : List (Entry Octets)) → words.acts x (xs ++ ys) ≡ words.acts x xs ++ words.acts x ys
unfolding words.acts
acts-append x xs ys = flat_map-append (λ (e : Entry Octets). words.acts_if x e.end e.act) xs ys

server_acts-append : (x : End) (xs ys : List (ServerEntry Octets)) → server_acts x (xs ++ ys) ≡ server_acts x xs ++ server_acts x ys
server_acts-append x xs ys = flat_map-append (λ (e : ServerEntry Octets). server_acts_if x e.end e.act) xs ys

-- what is told of an entry at its own end, and at the other
abbrev told_if : End → End → List (Act Octets) → List (Act Octets)
told_if A A done = done
told_if B B done = done
told_if A B done = []
told_if B A done = []

acts_end : (x y : End) (done : List (Act Octets)) → words.acts x (at_end y done) ≡ told_if x y done
unfolding words.acts
acts_end A A [] = refl
acts_end B B [] = refl
acts_end A B [] = refl
acts_end B A [] = refl
acts_end A A (act ∷ done) = ap (λ z. act ∷ z) (acts_end A A done)
acts_end B B (act ∷ done) = ap (λ z. act ∷ z) (acts_end B B done)
acts_end A B (act ∷ done) = acts_end A B done
acts_end B A (act ∷ done) = acts_end B A done

module _ (name : Connections) where
  told-push : (xs : List (ServerEntry Octets)) (e : ServerEntry Octets) → told name (xs ++ e ∷ []) ≡ told name xs ++ at_end e.end (told_by (name e.end) e.act)
  told-push [] e = append-nil (at_end e.end (told_by (name e.end) e.act))
  told-push (x ∷ xs) e =
      ap (λ z. at_end x.end (told_by (name x.end) x.act) ++ z) (told-push xs e) ∙ sym (append_assoc (at_end x.end (told_by (name x.end) x.act)) (told name xs) (at_end e.end (told_by (name e.end) e.act)))

  told_acts-push : (x : End) (xs : List (ServerEntry Octets)) (e : ServerEntry Octets) → words.acts x (told name (xs ++ e ∷ [])) ≡ words.acts x (told name xs) ++ told_if x e.end (told_by (name e.end) e.act)
  told_acts-push x xs e =
      ap (words.acts x) (told-push xs e) ∙ acts-append x (told name xs) (at_end e.end (told_by (name e.end) e.act)) ∙ ap (λ z. words.acts x (told name xs) ++ z) (acts_end x e.end (told_by (name e.end) e.act))

  from-push : (x : End) (es past : List (ServerEntry Octets)) (table : Table) (e : ServerEntry Octets)
      → server_table_from name x past table (es ++ e ∷ []) ≡ server_table_if x e.end (name x) (words.acts x (told name (past ++ es))) (server_table_from name x past table es) e.act
  from-push x [] past table e = ap (λ z. server_table_if x e.end (name x) (words.acts x (told name z)) table e.act) (sym (append-nil past))
  from-push x (f ∷ es) past table e =
      let t : Table = server_table_if x f.end (name x) (words.acts x (told name past)) table f.act in
      from-push x es (past ++ f ∷ []) t e
      ∙ ap (λ z. server_table_if x e.end (name x) (words.acts x (told name z)) (server_table_from name x (past ++ f ∷ []) t es) e.act) (append_assoc past (f ∷ []) es)

  table-push : (x : End) (xs : List (ServerEntry Octets)) (e : ServerEntry Octets) → server_table name x (xs ++ e ∷ []) ≡ server_table_if x e.end (name x) (words.acts x (told name xs)) (server_table name x xs) e.act
  table-push x xs e = from-push x xs [] empty e

-- what touched the place last of what was done since did so of all
touched_later : (p : Place) (ys : List (ServerAct Octets)) (l : Option (ServerAct Octets)) (act : ServerAct Octets) → fold (server_touched p) None ys ≡ Some act → fold (server_touched p) l ys ≡ Some act
touched_later p [] l act h = absurd (none-some _ h)
touched_later p (y ∷ ys) l act h = go (server_touches p y) refl h (touched_later p ys l act)
  where
    go : (b : Bool) → server_touches p y ≡ b → fold (server_touched p) (cond b (Some y) None) ys ≡ Some act → (fold (server_touched p) None ys ≡ Some act → fold (server_touched p) l ys ≡ Some act) → fold (server_touched p) (server_touched p l y) ys ≡ Some act
    go true e h' later = ap (λ b. fold (server_touched p) (cond b (Some y) l) ys) e ∙ h'
    go false e h' later = ap (λ b. fold (server_touched p) (cond b (Some y) l) ys) e ∙ later h'

-- ---- a close leaves what stands in regions

invalid_if : (b : Bool) (table table' : Table) (p : Place) (o : Octets) (s : Stands table p o) → region_at table' p.stag ≡ Some (cond b (made_invalid s.region) s.region) → Stands table' p o
invalid_if true table table' p o s is = record { region = made_invalid s.region; is = is; low = s.low; stand = s.stand }
invalid_if false table table' p o s is = record { region = s.region; is = is; low = s.low; stand = s.stand }

retired_stays : (table : Table) (d n : ℕ) (p : Place) (o : Octets) → Stands table p o → Stands (retired table (record { domain = d; stream = Some n })) p o
retired_stays table d n p o s = elim (eqb_tells p.stag.domain d) [
  | inl same ↦ invalid_if (is_bound_to s.region.bound (Some n)) table (retired table (record { domain = d; stream = Some n })) p o s (at_retired table d (Some n) p.stag same.1 ∙ ap (option_map (retired_region (Some n))) s.is)
  | inr other ↦ record { region = s.region; is = at_others table d (Some n) p.stag other.1 ∙ s.is; low = s.low; stand = s.stand }
]

-- ---- one act

-- what an act puts in a region lies within it
abbrev FitsServerAct : Table → ServerAct Octets → Type 0
FitsServerAct table (Plain act) = FitsAct table act
FitsServerAct table (Stream n act) = FitsAct table (acts.Stream n act)
FitsServerAct table (Read n from number octets delivery) = Unit {0}
FitsServerAct table (ReadRaw n number octets delivery) = Unit {0}
FitsServerAct table (OpenNext pd role options private answer) = Unit {0}
FitsServerAct table (OpenSharedNext pd role options private answer) = Unit {0}
FitsServerAct table (RegisterFor n base rights octets answer) = Unit {0}
FitsServerAct table (Close n refused) = Unit {0}

abbrev IsPlacing : ℕ → Right → Stag → ServerAct Octets → ℕ → Octets → Type 0
IsPlacing n right stag act to octets = server_stream_act act ≡ Some (n, Work (seen.Placed right stag to octets))

module _ (name : ℕ → ℕ) (p : Place) (n : ℕ) (right : Right) (unread : right ≡ rights.Read → ⊥) (done : List (Act Octets)) (table : Table) where
  abbrev Steps : ServerAct Octets → List (Act Octets) → Table → Type 0
  Steps act tells table' = IsStep (ServerAct Octets) (IsPlacing n right p.stag) p table table' (server_touches p act) act (placed_at p (name n) right done) (placed_at p (name n) right (done ++ tells))

  -- one that tells nothing
  silent : (act : ServerAct Octets) (table' : Table) → (server_touches p act ≡ false → (o : Octets) → Stands table p o → Stands table' p o) → server_stream_act act ≡ None → Steps act [] table'
  silent act table' stay none = record {
    left = λ h. (stay h, λ octet. same octet);
    put = λ h to octets ours. absurd (none-some _ (sym none ∙ ours));
    more = λ octet. omega (arith, same octet);
  }
    where
      same : (octet : ℕ) → placed_at p (name n) right (done ++ []) octet ≡ placed_at p (name n) right done octet
      same octet = ap (λ z. placed_at p (name n) right z octet) (append-nil done)

  -- one that tells this
  telling : (act : ServerAct Octets) (a : Act Octets) → FitsAct table a → server_touches p act ≡ touches p a → ((to : ℕ) (octets : Octets) → IsPlacing n right p.stag act to octets → a ≡ acts.Stream (name n) (Work (seen.Placed right p.stag to octets)))
      → Steps act (a ∷ []) (table_by table a)
  telling act a fits touched named = record {
    left = λ h. (λ o s. stays table p o a fits (sym touched ∙ h) s, λ octet. omega (arith, counts-push (name n) right (cell_of p octet) done a, none_act table p octet (name n) right a fits (sym touched ∙ h)));
    put = λ h to octets ours.
        let same = named to octets ours in
        let fits' : FitsAct table (acts.Stream (name n) (Work (seen.Placed right p.stag to octets))) = subst (FitsAct table) same fits in
        let h' : touches p (acts.Stream (name n) (Work (seen.Placed right p.stag to octets))) ≡ true = ap (touches p) (sym same) ∙ sym touched ∙ h in (
          subst (λ t. IsPut t p to octets) (sym (ap (table_by table) same)) (placed_there table p (name n) right to octets fits' h'),
          λ octet one. (let some = placed_counted table p (name n) right to octets octet unread fits' h' one in omega (arith, some, counts-push (name n) right (cell_of p octet) done a, ap (count_act (name n) right (cell_of p octet)) same)),
        );
    more = λ octet. omega (arith, counts-push (name n) right (cell_of p octet) done a);
  }

  -- of a stream
  named_act : (m : ℕ) (act : StreamAct Octets) (to : ℕ) (octets : Octets) → ◌≡◌ {A = Option (ℕ × StreamAct Octets)} (Some (m, act)) (Some (n, Work (seen.Placed right p.stag to octets))) → acts.Stream (name m) act ≡ acts.Stream (name n) (Work (seen.Placed right p.stag to octets))
  named_act m act to octets h = ap (λ z. acts.Stream (name z.0) z.1) (same_Some (m, act) (n, Work (seen.Placed right p.stag to octets)) h)

  of_stream : (act : ServerAct Octets) (m : ℕ) (a : StreamAct Octets) → FitsAct table (acts.Stream m a) → server_touches p act ≡ touches p (acts.Stream m a) → server_stream_act act ≡ Some (m, a) → Steps act (acts.Stream (name m) a ∷ []) (table_by table (acts.Stream m a))
  of_stream act m a fits touched is = telling act (acts.Stream (name m) a) fits touched (λ to octets ours. named_act m a to octets (sym is ∙ ours))

  no_stream : (act : ServerAct Octets) (a : Act Octets) → server_stream_act act ≡ None → (to : ℕ) (octets : Octets) → IsPlacing n right p.stag act to octets → a ≡ acts.Stream (name n) (Work (seen.Placed right p.stag to octets))
  no_stream act a none to octets ours = absurd (none-some _ (sym none ∙ ours))

  one_step : (act : ServerAct Octets) → FitsServerAct table act → Steps act (told_by name act) (server_table_by name done table act)
  one_step (Plain (acts.Stream m a)) fits = of_stream (Plain (acts.Stream m a)) m a fits refl refl
  one_step (Stream m a) fits = of_stream (Stream m a) m a fits refl refl
  one_step (Read m from number octets delivery) fits = of_stream (Read m from number octets delivery) m (Deliver from number octets delivery) tt refl refl
  one_step (ReadRaw m number octets delivery) fits = of_stream (ReadRaw m number octets delivery) m (Raw number octets delivery) tt refl refl
  one_step (Plain (acts.Domain pd refused)) fits = telling (Plain (acts.Domain pd refused)) (acts.Domain pd refused) fits refl (no_stream (Plain (acts.Domain pd refused)) _ refl)
  one_step (Plain (acts.Register pd base rights octets answer)) fits =
      telling (Plain (acts.Register pd base rights octets answer)) (acts.Register pd base rights octets answer) fits refl (no_stream (Plain (acts.Register pd base rights octets answer)) _ refl)
  one_step (Plain (acts.Deregister stag answer)) fits = telling (Plain (acts.Deregister stag answer)) (acts.Deregister stag answer) fits refl (no_stream (Plain (acts.Deregister stag answer)) _ refl)
  one_step (Plain (acts.Invalidate stag refused)) fits = telling (Plain (acts.Invalidate stag refused)) (acts.Invalidate stag refused) fits refl (no_stream (Plain (acts.Invalidate stag refused)) _ refl)
  one_step (Plain (acts.Store stag to octets refused)) fits = telling (Plain (acts.Store stag to octets refused)) (acts.Store stag to octets refused) fits refl (no_stream (Plain (acts.Store stag to octets refused)) _ refl)
  one_step (Plain (acts.Share pd refused)) fits = telling (Plain (acts.Share pd refused)) (acts.Share pd refused) fits refl (no_stream (Plain (acts.Share pd refused)) _ refl)
  one_step (Plain (acts.Pool pd len refused)) fits = telling (Plain (acts.Pool pd len refused)) (acts.Pool pd len refused) fits refl (no_stream (Plain (acts.Pool pd len refused)) _ refl)
  one_step (Plain (acts.Unpool pd answer)) fits = telling (Plain (acts.Unpool pd answer)) (acts.Unpool pd answer) fits refl (no_stream (Plain (acts.Unpool pd answer)) _ refl)
  one_step (Plain (acts.Open m pd role options private None)) fits =
      telling (Plain (acts.Open m pd role options private None)) (acts.Open (name m) pd role options private None) tt refl (no_stream (Plain (acts.Open m pd role options private None)) _ refl)
  one_step (Plain (acts.OpenShared m pd role options private None)) fits =
      telling (Plain (acts.OpenShared m pd role options private None)) (acts.OpenShared (name m) pd role options private None) tt refl (no_stream (Plain (acts.OpenShared m pd role options private None)) _ refl)
  one_step (OpenNext pd role options private (Ok m)) fits =
      telling (OpenNext pd role options private (Ok m)) (acts.Open (name m) pd role options private None) tt refl (no_stream (OpenNext pd role options private (Ok m)) _ refl)
  one_step (OpenSharedNext pd role options private (Ok m)) fits =
      telling (OpenSharedNext pd role options private (Ok m)) (acts.OpenShared (name m) pd role options private None) tt refl (no_stream (OpenSharedNext pd role options private (Ok m)) _ refl)
  one_step (Plain (acts.Open m pd role options private (Some r))) fits = silent (Plain (acts.Open m pd role options private (Some r))) table (λ h o s. s) refl
  one_step (Plain (acts.OpenShared m pd role options private (Some r))) fits = silent (Plain (acts.OpenShared m pd role options private (Some r))) table (λ h o s. s) refl
  one_step (OpenNext pd role options private (Err r)) fits = silent (OpenNext pd role options private (Err r)) table (λ h o s. s) refl
  one_step (OpenSharedNext pd role options private (Err r)) fits = silent (OpenSharedNext pd role options private (Err r)) table (λ h o s. s) refl
  one_step (RegisterFor m base rights octets (Ok stag)) fits =
      silent (RegisterFor m base rights octets (Ok stag)) (server_table_by name done table (RegisterFor m base rights octets (Ok stag)))
      (λ h o s. other_slot table p o stag (record { key = stag.key; region = Some (bound_region m base octets rights) }) h s) refl
  one_step (RegisterFor m base rights octets (Err r)) fits = silent (RegisterFor m base rights octets (Err r)) table (λ h o s. s) refl
  one_step (Close m None) fits = silent (Close m None) (server_table_by name done table (Close m None)) (λ h o s. retired_stays table (domain_of (name m) done) m p o s) refl
  one_step (Close m (Some r)) fits = silent (Close m (Some r)) table (λ h o s. s) refl

-- ---- so at every moment of a run

placed_fits : (s : Standing) (done : List (Act Octets)) (n m : ℕ) (act : StreamAct Octets) → WithinAs s done n act → FitsAct s.table (acts.Stream m act)
placed_fits s done n m act within = go (deed act).placing within.0
  where
    go : (o : Option Placing) → OnSome (λ q. AllowsFor s.table s.peer q.stag q.to (length q.octets) q.right) o → OnSome (IsPlaceable s.table) o
    go None h = tt
    go (Some q) h = placeable s.table s.peer q h

module _ (name : Connections) (trace : List (ServerEntry Octets)) (within : ServerAtEach WithinAs name trace) (memory : ServerShowsMemory name trace) (y : End) (p : Place) (n : ℕ) (right : Right) (unread : right ≡ rights.Read → ⊥) (past : List (ServerEntry Octets)) where
  abbrev here : List (ServerEntry Octets) → List (Act Octets)
  here pre = words.acts y (told name pre)

  abbrev Since : List (ServerAct Octets) → Table → List (Act Octets) → Type 0
  Since more table done = IsSeenSince (ServerAct Octets) (IsPlacing n right p.stag) p table (server_last_touch p more) (placed_at p (name y n) right (here past)) (placed_at p (name y n) right done)

  fits : (pre : List (ServerEntry Octets)) (e : ServerEntry Octets) (post : List (ServerEntry Octets)) → trace ≡ pre ++ e ∷ post → FitsServerAct (server_table name e.end pre) e.act
  fits pre e post is = by e.end e.act (within pre e post is) (memory pre e post is)
    where
      by : (x : End) (act : ServerAct Octets) → OnSome (λ a. WithinAs (server_standing name x pre a.0) (words.acts x (told name pre)) (name x a.0) a.1) (server_stream_act act)
          → ServerAnswered (name x) (server_table name x pre) (count_given (server_acts x pre)) (words.acts x (told name pre)) act → FitsServerAct (server_table name x pre) act
      by x (Plain (acts.Stream m act)) lies answered = placed_fits (server_standing name x pre m) (words.acts x (told name pre)) (name x m) m act lies
      by x (Stream m act) lies answered = placed_fits (server_standing name x pre m) (words.acts x (told name pre)) (name x m) m act lies
      by x (Plain (acts.Store stag to octets None)) lies answered = storable (server_table name x pre) stag to octets answered
      by x (Plain (acts.Store stag to octets (Some refusal))) lies answered = tt
      by x (Plain (acts.Domain pd refused)) lies answered = tt
      by x (Plain (acts.Register pd base rights octets answer)) lies answered = tt
      by x (Plain (acts.Deregister stag answer)) lies answered = tt
      by x (Plain (acts.Invalidate stag refused)) lies answered = tt
      by x (Plain (acts.Open m pd role options private refused)) lies answered = tt
      by x (Plain (acts.OpenShared m pd role options private refused)) lies answered = tt
      by x (Plain (acts.Share pd refused)) lies answered = tt
      by x (Plain (acts.Pool pd len refused)) lies answered = tt
      by x (Plain (acts.Unpool pd answer)) lies answered = tt
      by x (Read m from number octets delivery) lies answered = tt
      by x (ReadRaw m number octets delivery) lies answered = tt
      by x (OpenNext pd role options private answer) lies answered = tt
      by x (OpenSharedNext pd role options private answer) lies answered = tt
      by x (RegisterFor m base rights octets answer) lies answered = tt
      by x (Close m refused) lies answered = tt

  next : (more : List (ServerAct Octets)) (table : Table) (done : List (Act Octets)) (act : ServerAct Octets) → FitsServerAct table act → Since more table done → Since (more ++ act ∷ []) (server_table_by (name y) done table act) (done ++ told_by (name y) act)
  next more table done act fits k =
      let table' : Table = server_table_by (name y) done table act in
      let now' : ℕ → ℕ = placed_at p (name y n) right (done ++ told_by (name y) act) in
      subst (λ l. IsSeenSince (ServerAct Octets) (IsPlacing n right p.stag) p table' l (placed_at p (name y n) right (here past)) now') (sym (fold-append (server_touched p) None more (act ∷ [])))
      (seen_step (ServerAct Octets) (IsPlacing n right p.stag) p (placed_at p (name y n) right (here past)) table table' (server_last_touch p more) (server_touches p act) act (placed_at p (name y n) right done) now' (one_step (name y) p n right unread done table act fits) k)

  one : (mid pre : List (ServerEntry Octets)) (e : ServerEntry Octets) (post : List (ServerEntry Octets)) → trace ≡ pre ++ e ∷ post → Since (server_acts y mid) (server_table name y pre) (here pre)
      → Since (server_acts y (mid ++ e ∷ [])) (server_table name y (pre ++ e ∷ [])) (here (pre ++ e ∷ []))
  one mid pre e post is k =
      subst (λ z. Since z (server_table name y (pre ++ e ∷ [])) (here (pre ++ e ∷ []))) (sym (server_acts-append y mid (e ∷ [])))
      (subst (λ z. Since (server_acts y mid ++ server_acts y (e ∷ [])) z (here (pre ++ e ∷ []))) (sym (table-push name y pre e))
      (subst (Since (server_acts y mid ++ server_acts y (e ∷ [])) (server_table_if y e.end (name y) (here pre) (server_table name y pre) e.act)) (sym (told_acts-push name y pre e))
      (by y e.end (server_acts y mid) (server_table name y pre) (here pre) k (λ same. subst (λ z. FitsServerAct (server_table name z pre) e.act) same (fits pre e post is)) refl)))
    where
      by : (z u : End) (more : List (ServerAct Octets)) (table : Table) (done : List (Act Octets)) → Since more table done → (u ≡ y → FitsServerAct table e.act) → z ≡ y
          → Since (more ++ (server_acts_if z u e.act ++ [])) (server_table_if z u (name y) done table e.act) (done ++ told_if z u (told_by (name u) e.act))
      by A A more table done k fits same = subst (λ x. Since (more ++ e.act ∷ []) (server_table_by (name y) done table e.act) (done ++ told_by (name x) e.act)) (sym same) (next more table done e.act (fits same) k)
      by B B more table done k fits same = subst (λ x. Since (more ++ e.act ∷ []) (server_table_by (name y) done table e.act) (done ++ told_by (name x) e.act)) (sym same) (next more table done e.act (fits same) k)
      by A B more table done k fits same = subst (λ z. Since z table (done ++ [])) (sym (append-nil more)) (subst (Since more table) (sym (append-nil done)) k)
      by B A more table done k fits same = subst (λ z. Since z table (done ++ [])) (sym (append-nil more)) (subst (Since more table) (sym (append-nil done)) k)

  abbrev At : List (ServerEntry Octets) → List (ServerEntry Octets) → Type 0
  At mid pre = Since (server_acts y mid) (server_table name y pre) (here pre)

  from : (mid pre post future : List (ServerEntry Octets)) → trace ≡ pre ++ (post ++ future) → At mid pre → At (mid ++ post) (pre ++ post)
  from mid pre [] future is k = subst (λ z. At z (pre ++ [])) (sym (append-nil mid)) (subst (At mid) (sym (append-nil pre)) k)
  from mid pre (e ∷ post) future is k =
      subst (λ z. At z (pre ++ e ∷ post)) (append_assoc mid (e ∷ []) post)
      (subst (At ((mid ++ e ∷ []) ++ post)) (append_assoc pre (e ∷ []) post)
      (from (mid ++ e ∷ []) (pre ++ e ∷ []) post future (is ∙ sym (append_assoc pre (e ∷ []) (post ++ future))) (one mid pre e (post ++ future) is k)))

  -- an octet stands where it was placed since, where no other was
  pub server_stands : (since future : List (ServerEntry Octets)) → trace ≡ (past ++ since) ++ future → (octet : ℕ) → IsOnlyOne (placed_at p (name y n) right (here past)) (placed_at p (name y n) right (here (past ++ since))) octet
      → IsLeftAlone p n right (server_acts y (past ++ since)) → Holds (server_table name y (past ++ since)) p octet
  server_stands since future is octet one alone =
      stands_there (ServerAct Octets) (IsPlacing n right p.stag) p (placed_at p (name y n) right (here past)) (server_table name y (past ++ since)) (server_last_touch p (server_acts y since)) (placed_at p (name y n) right (here (past ++ since)))
      (from [] past since future (is ∙ append_assoc past since future) (seen_first (ServerAct Octets) (IsPlacing n right p.stag) p (placed_at p (name y n) right (here past)) (server_table name y past))) octet one.some one.alone
      (λ act last. alone act (ap (server_last_touch p) (server_acts-append y past since) ∙ fold-append (server_touched p) None (server_acts y past) (server_acts y since) ∙ touched_later p (server_acts y since) (server_last_touch p (server_acts y past)) act last))

-- ---- the laws

told-append : (name : Connections) (xs ys : List (ServerEntry Octets)) → told name (xs ++ ys) ≡ told name xs ++ told name ys
told-append name [] ys = refl
told-append name (x ∷ xs) ys = ap (λ z. at_end x.end (told_by (name x.end) x.act) ++ z) (told-append name xs ys) ∙ sym (append_assoc (at_end x.end (told_by (name x.end) x.act)) (told name xs) (told name ys))

pub server_holds_written : OfConnections ServerHoldsWritten
server_holds_written name trace apart follows past since future is x n was honest p octet k w alone =
    let law : Covered (told name trace) = covered (told name trace) (server_run name trace apart follows) in
    let at_now : told name trace ≡ told name (past ++ since) ++ told name future = ap (told name) is ∙ told-append name (past ++ since) future in
    let at_past : told name trace ≡ told name past ++ told name (since ++ future) = ap (told name) (is ∙ append_assoc past since future) ∙ told-append name past (since ++ future) in
    server_stands name trace (of_server_regions WithinAs within_as name trace apart follows) (shows_server_memory name trace apart follows) (other x) p n rights.Write write_apart past since future is octet
    (written_one x (name (other x) n) (told name past) (told name (past ++ since)) was p octet k (law (told name past) (told name (since ++ future)) at_past x (name (other x) n)) (law (told name (past ++ since)) (told name future) at_now x (name (other x) n) honest) w) alone

pub server_holds_fetched : OfConnections ServerHoldsFetched
server_holds_fetched name trace apart follows past since future is x n was honest p octet w alone =
    let law : Answering (told name trace) = answering_all (told name trace) (server_run name trace apart follows) in
    let at_now : told name trace ≡ told name (past ++ since) ++ told name future = ap (told name) is ∙ told-append name (past ++ since) future in
    let at_past : told name trace ≡ told name past ++ told name (since ++ future) = ap (told name) (is ∙ append_assoc past since future) ∙ told-append name past (since ++ future) in
    server_stands name trace (of_server_regions WithinAs within_as name trace apart follows) (shows_server_memory name trace apart follows) (other x) p n rights.Sink sink_apart past since future is octet
    (fetched_one x (name (other x) n) (told name past) (told name (past ++ since)) was p octet (law (told name past) (told name (since ++ future)) at_past x (name (other x) n)) (law (told name (past ++ since)) (told name future) at_now x (name (other x) n) honest) w) alone
