-- The frames with a record, where they are of those that were written one after another: lowest first, they are some of these, in their order.
use Rattle.std.proofs.Common.{◌≡◌, ℕ, zero, suc, ◌+◌, ◌<◌, ◌≤◌, Bool, true, false, cond, get_or, List, [], ◌∷◌, ◌++◌, map, length, Option, Some, None, refl, sym, ap, ◌∙◌, subst, arith, append_assoc}
use Rattle.std.proofs.lemmas.List.Elements.{Contains-get_or}
use Rattle.std.specs.Prelude.{◌⊎◌, All}
use Rattle.std.specs.List.{Contains, filter, filter_map}
use Rattle.iw_ranges.specs.Arrived.{has_come}
use Rattle.iw_fpdu.specs.declared.layout.Layout.{Layout}
use Rattle.iw_fpdu.specs.Places.{IsStart, frame_start, span_start}
use Rattle.iw_fpdu.specs.Frame.{max_sent, frame_end}
use Rattle.iw_fpdu.specs.Found.{ulpdu}
use Rattle.iw_fpdu.specs.Sequence.{sequence, place_past}
use Rattle.iw_fpdu.specs.Laws.{IsBetween, found_at}
use Rattle.iw_fpdu.proofs.Follows.{ends, frames_follow}
use Rattle.iw_fpdu.proofs.Sequences.{next_between, between_past}
use Rattle.iw_locate.specs.declared.judged.Record.{Record}
use Rattle.iw_locate.specs.declared.judged.State.{State}
use Rattle.iw_locate.specs.declared.judged.State.TheVariants.{Tried, Placed}
use Rattle.iw_locate.specs.Records.{from_of, IsPlaced, AreApart}
use Rattle.iw_locate.specs.Free.{Scene, point_of}
use Rattle.iw_locate.specs.Lowest.{is_placed}
use Rattle.iw_locate.proofs.Apart.{apart_drop}
use Rattle.iw_locate.proofs.Sequenced.{IsOneOf, beyond-append, past_one, past_low, end_low}
use Rattle.iw_locate.proofs.Honest.{IsSent, IsRecordOf, record_is_read}
use Rattle.iw_locate.proofs.Sublists.{IsSublist, sublist-picked, filter_map-map, sublist_counts}

-- ---- one of the frames behind the first ones
later_of : (layout : Layout) (at : ℕ) (done rest before : List (List ℕ)) (s : ℕ) (u : List ℕ) (after : List (List ℕ)) → IsBetween layout.markers at → done ++ rest ≡ before ++ u ∷ after
    → s ≡ frame_start layout.markers (place_past layout at before) → place_past layout at done ≤ span_start layout.markers s → IsOneOf layout (place_past layout at done) rest s u
unfolding place_past
later_of layout at [] rest before s u after b is place past = record { before = before; after = after; is = is; place = place }
later_of layout at (d ∷ done) rest [] s u after b is place past =
    let end : ℕ = frame_end layout.markers at (length d) in
    let span : span_start layout.markers s ≡ at = ap (span_start layout.markers) place ∙ b.span in
    absurd (omega (arith, past, span, end_low layout at (length d) b, past_low layout end done (next_between layout at (length d) b)))
later_of layout at (d ∷ done) rest (x ∷ before) s u after b is place past =
    let first : x ≡ d = cc (sym is) in
    let others : done ++ rest ≡ before ++ u ∷ after = cc is in
    later_of layout (frame_end layout.markers at (length d)) done rest before s u after (next_between layout at (length d) b) others
    (place ∙ ap (λ (y : List ℕ). frame_start layout.markers (place_past layout (frame_end layout.markers at (length y)) before)) first) past

pub one_later : (layout : Layout) (at : ℕ) (done rest us : List (List ℕ)) (s : ℕ) (u : List ℕ) → IsBetween layout.markers at → us ≡ done ++ rest → IsOneOf layout at us s u
    → place_past layout at done ≤ span_start layout.markers s → IsOneOf layout (place_past layout at done) rest s u
one_later layout at done rest us s u b parts o past = later_of layout at done rest o.before s u o.after b (sym parts ∙ o.is) o.place past

-- ---- records in order
module _ {T : Type 0} (layout : Layout) (marked : layout.markers ≡ true) (carried : Record T → List ℕ) where
  -- the frame of a record carries this, and ends where that ends
  pub record Carries (at : ℕ) (us : List (List ℕ)) (r : Record T) : Type 0 where
    pub one : IsOneOf layout at us r.start (carried r)
    pub end : r.end ≡ frame_end true r.start (length (carried r))

  -- one that begins past another is of the frames past that one's
  carries_later : (at : ℕ) (us : List (List ℕ)) (r x : Record T) → IsBetween layout.markers at → (first : Carries at us r) → Carries at us x → r.end ≤ from_of x
      → Carries (place_past layout at (first.one.before ++ carried r ∷ [])) first.one.after x
  carries_later at us r x b first other past = record {
    one = one_later layout at (first.one.before ++ carried r ∷ []) first.one.after us x.start (carried x) b (first.one.is ∙ sym (append_assoc first.one.before (carried r ∷ []) first.one.after)) other.one
        (omega (arith, end_is, past, ap (λ m. span_start m x.start) marked));
    end = other.end;
  }
    where
      end_is : r.end ≡ place_past layout at (first.one.before ++ carried r ∷ [])
      end_is =
          let beyond : ℕ = place_past layout at first.one.before in
          first.end ∙ (λ i. frame_end (sym marked i) (first.one.place i) (length (carried r))) ∙ ends layout.markers beyond (length (carried r))
          ∙ sym (beyond-append layout at first.one.before (carried r ∷ []) ∙ past_one layout beyond (carried r))

  pub sublist_of : (rs : List (Record T)) (at : ℕ) (us : List (List ℕ)) → IsBetween layout.markers at → AreApart rs → ((r : Record T) → Contains rs r → Carries at us r) → IsSublist (map carried rs) us
  sublist_of [] at us b apart each = tt
  sublist_of (r ∷ rs) at us b apart each =
      let first : Carries at us r = each r (0, omega arith, refl) in (
        first.one.before,
        first.one.after,
        first.one.is,
        sublist_of rs (place_past layout at (first.one.before ++ carried r ∷ [])) first.one.after (between_past layout at (first.one.before ++ carried r ∷ []) b) (apart_drop (r ∷ rs) apart)
            (λ x (k, lt, is). carries_later at us r x b first (each x (suc k, omega arith, is)) (omega (arith, apart.order 0 (suc k) x (omega arith) (omega arith), ap (λ (y : Record T). from_of y) is))),
      )

-- ---- the records of placed frames
abbrev pub placed_of : {T : Type 0} → List (Record T) → List (Record T)
placed_of rs = filter (λ r. is_placed r.state) rs

-- what passes a test was there, and passes
pub passes : {X : Type 0} (p : X → Bool) (xs : List X) (x : X) → Contains (filter p xs) x → Contains xs x × (p x ≡ true)
passes p [] x (k, lt, is) = absurd (omega arith)
passes p (y ∷ xs) x h = go (passes p xs x) (p y) refl h
  where
    go : (Contains (filter p xs) x → Contains xs x × (p x ≡ true)) → (b : Bool) → p y ≡ b → Contains (cond b (y ∷ filter p xs) (filter p xs)) x → Contains (y ∷ xs) x × (p x ≡ true)
    go more true e (zero, lt, is) = ((0, omega arith, is), ap p (sym is) ∙ e)
    go more true e (suc k, lt, is) = let w = more (k, omega arith, is) in ((suc w.0.0, omega (arith, w.0.1), w.0.2), w.1)
    go more false e h = let w = more h in ((suc w.0.0, omega (arith, w.0.1), w.0.2), w.1)

apart_cons : {T : Type 0} (r : Record T) (rs : List (Record T)) → AreApart rs → IsStart true r.start → r.start < r.end → ((x : Record T) → Contains rs x → r.end ≤ from_of x) → AreApart (r ∷ rs)
apart_cons {T} r rs apart start some past = record { start = starts; some = somes; order = orders }
  where
    starts : (i : ℕ) (d : Record T) → i < length (r ∷ rs) → IsStart true (get_or (r ∷ rs) i d).start
    starts zero d lt = start
    starts (suc i) d lt = apart.start i d (omega arith)

    somes : (i : ℕ) (d : Record T) → i < length (r ∷ rs) → (get_or (r ∷ rs) i d).start < (get_or (r ∷ rs) i d).end
    somes zero d lt = some
    somes (suc i) d lt = apart.some i d (omega arith)

    orders : (i j : ℕ) (d : Record T) → i < j → j < length (r ∷ rs) → (get_or (r ∷ rs) i d).end ≤ from_of (get_or (r ∷ rs) j d)
    orders zero zero d lt inside = absurd (omega arith)
    orders zero (suc j) d lt inside = past (get_or rs j d) (Contains-get_or rs j d (omega arith))
    orders (suc i) zero d lt inside = absurd (omega arith)
    orders (suc i) (suc j) d lt inside = apart.order i j d (omega arith) (omega arith)

pub apart_filter : {T : Type 0} (p : Record T → Bool) (rs : List (Record T)) → AreApart rs → AreApart (filter p rs)
apart_filter p [] apart = apart
apart_filter {T} p (r ∷ rs) apart = go (apart_filter p rs (apart_drop (r ∷ rs) apart)) (p r)
  where
    later : (x : Record T) → Contains (filter p rs) x → r.end ≤ from_of x
    later x h = let w = (passes p rs x h).0 in omega (arith, apart.order 0 (suc w.0) x (omega arith) (omega (arith, w.1)), ap (λ (y : Record T). from_of y) w.2)

    go : AreApart (filter p rs) → (b : Bool) → AreApart (cond b (r ∷ filter p rs) (filter p rs))
    go rest true = apart_cons r (filter p rs) rest (apart.start 0 r (omega arith)) (apart.some 0 r (omega arith)) later
    go rest false = rest

placed_is : {T : Type 0} (state : State T) → is_placed state ≡ true → IsPlaced state
placed_is Tried e = absurd (cc e)
placed_is (Placed x) e = tt

-- ---- among what came
-- a record is of one of the frames past the first ones, and all the octets of that came
pub record IsLater {T : Type 0} (v : Scene T) (us done : List (List ℕ)) (r : Record T) : Type 0 where
  pub of : IsRecordOf v.layout us r
  pub past : place_past v.layout 0 done ≤ from_of r
  pub come : (q : ℕ) → from_of r ≤ q → q < r.end → has_come v.arrived (v.base + q) ≡ true

-- what the frame of a record carries, as it is read
abbrev pub ulpdu_at : {T : Type 0} → Scene T → Record T → List ℕ
ulpdu_at v r = ulpdu (found_at v.arrived v.layout v.base r.start)

module _ {T : Type 0} (v : Scene T) (us : List (List ℕ)) (marked : v.layout.markers ≡ true) (short : All (λ u. length u ≤ max_sent) us) (sent : IsSent v (sequence v.layout 0 us))
    (done rest : List (List ℕ)) (parts : us ≡ done ++ rest) (low : point_of v ≤ place_past v.layout 0 done) where
  carries : (r : Record T) → IsLater v us done r → Carries v.layout marked (ulpdu_at v) (place_past v.layout 0 done) rest r
  carries r is =
      let read : ulpdu_at v r ≡ is.of.ulpdu = (record_is_read v us marked short sent r is.of (omega (arith, low, is.past)) is.come).ulpdu in
      record {
        one = one_later v.layout 0 done rest us r.start (ulpdu_at v r) (frames_follow.first v.layout.markers) parts (subst (IsOneOf v.layout 0 us r.start) (sym read) is.of.one)
            (omega (arith, is.past, ap (λ m. span_start m r.start) marked));
        end = is.of.end ∙ ap (frame_end true r.start) (is.of.len ∙ ap length (sym read));
      }

  -- lowest first, what they carry is some of what was sent past the first ones, in its order
  pub later_are_sublist : (rs : List (Record T)) → AreApart rs → ((r : Record T) → Contains rs r → IsLater v us done r) → IsSublist (map (ulpdu_at v) rs) rest
  later_are_sublist rs apart each =
      sublist_of v.layout marked (ulpdu_at v) rs (place_past v.layout 0 done) rest (between_past v.layout 0 done (frames_follow.first v.layout.markers)) apart (λ r within. carries r (each r within))

  -- so of the placed ones
  pub placed_are_sublist : (rs : List (Record T)) → AreApart rs → ((r : Record T) → Contains rs r → IsPlaced r.state → IsLater v us done r) → IsSublist (map (ulpdu_at v) (placed_of rs)) rest
  placed_are_sublist rs apart each =
      later_are_sublist (placed_of rs) (apart_filter (λ (r : Record T). is_placed r.state) rs apart)
      (λ r within. let w = passes (λ (x : Record T). is_placed x.state) rs r within in each r w.0 (placed_is r.state w.1))

  -- what is counted over what is picked of the placed ones is at most what is counted over what is read off all those that were sent past the first ones
  pub placed_count : {S : Type 0} (pick : Record T → Option S) (read : List ℕ → Option S) (segments : List S) (count : List S → ℕ) → ((xs ys : List S) → count (xs ++ ys) ≡ count xs + count ys)
      → map read rest ≡ map Some segments → (rs : List (Record T)) → AreApart rs → ((r : Record T) → Contains rs r → IsPlaced r.state → IsLater v us done r)
      → ((r : Record T) → Contains rs r → IsPlaced r.state → (pick r ≡ None) ⊎ (pick r ≡ read (ulpdu_at v r))) → count (filter_map pick (placed_of rs)) ≤ count segments
  placed_count pick read segments count joins are rs apart each picked =
      sublist_counts count joins (filter_map pick (placed_of rs)) segments
      (subst (IsSublist (filter_map pick (placed_of rs))) (filter_map-map read rest segments are)
      (sublist-picked pick (ulpdu_at v) read (placed_of rs) rest
      (λ r within. let w = passes (λ (x : Record T). is_placed x.state) rs r within in picked r w.0 (placed_is r.state w.1))
      (placed_are_sublist rs apart each)))
