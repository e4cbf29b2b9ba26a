-- The header that is kept of a frame is its segment's.
use Rattle.std.proofs.Common.{◌≡◌, ℕ, ◌-◌, ◌≤◌, Bool, true, false, List, [], ◌∷◌, length, drop, take, get_or, if◌then◌else◌, Option, Some, None, refl, sym, ap, ◌∙◌, subst, arith, inl, inr, length-drop}
use Rattle.std.proofs.lemmas.Bool.{cases_lt}
use Rattle.std.proofs.lemmas.Option.{none-some, same_Some}
use Rattle.std.proofs.lemmas.List.{get_or-take, length-take, take-append-drop}
use Rattle.iw_octets.specs.declared.segment.Segment.{Segment}
use Rattle.iw_octets.specs.declared.segment.Segment.TheVariants.{Tagged, Untagged}
use Rattle.iw_octets.specs.Head.{is_tagged, tagged_fields, untagged_fields}
use Rattle.iw_octets.specs.Segment.{read_segment}
use Rattle.iw_octets.proofs.Front.{tagged_fields-append, untagged_fields-append, read_segment-long_tagged, read_segment-long_untagged, read_segment-short_tagged, read_segment-short_untagged}
use Rattle.iw_rdmap.specs.Terminate.{header_len}
use Rattle.iw_untagged.specs.Receiving.{Receiving}
use Rattle.iw_stream.specs.Frames.{Frame, header_in, payload_len, payload_of, placed, segment_in}
use Rattle.iw_reads.specs.declared.reads.Outstanding.{Outstanding}
use Rattle.iw_stream.specs.Judging.{Standing, segment_turn, turn_of, turned_by, receiving_turned, left_by_turn, reads_left}
use Rattle.iw_stream.specs.Kept.{HasBuffer}
use Rattle.iw_stream.proofs.Heads.{header_of}

-- the header alone
abbrev pub bare : Segment (List ℕ) → Segment (List ℕ)
bare (Tagged head payload) = Tagged head []
bare (Untagged head payload) = Untagged head []

pub record IsHeader (u : List ℕ) (segment : Segment (List ℕ)) : Type 0 where
  pub len : length (header_in u) ≡ header_of segment
  pub whole : header_len (header_in u) ≡ header_of segment
  pub read : read_segment (header_in u) ≡ Some (bare segment)
  pub rest : length u - length (header_in u) ≡ length (payload_of (Some segment))

none_left : (n : ℕ) (xs : List ℕ) → length xs ≡ n → drop n xs ≡ []
none_left n xs e = go (drop n xs) (omega (arith, length-drop n xs, e))
  where
    go : (ys : List ℕ) → length ys ≡ 0 → ys ≡ []
    go [] e = refl
    go (y ∷ ys) e = absurd (omega arith)

pub header_read : (u : List ℕ) (segment : Segment (List ℕ)) → read_segment u ≡ Some segment → IsHeader u segment
header_read u segment e = go (is_tagged (get_or u 0 0)) refl
  where
    go : (tagged : Bool) → is_tagged (get_or u 0 0) ≡ tagged → IsHeader u segment
    go true tagged = elim (cases_lt (length u) 14) [
      | inl short ↦ absurd (none-some _ (sym (read_segment-short_tagged u short tagged) ∙ e))
      | inr long ↦
          let n : length (take 14 u) ≡ 14 = omega (arith, length-take 14 u) in
          let first : is_tagged (get_or (take 14 u) 0 0) ≡ true = ap is_tagged (get_or-take 14 u 0 0 (omega arith)) ∙ tagged in
          let is : header_in u ≡ take 14 u = ap (λ b. take (if b then 14 else 18) u) tagged in
          let fields : tagged_fields (take 14 u) ≡ tagged_fields u = sym (ap tagged_fields (sym (take-append-drop 14 u)) ∙ tagged_fields-append (take 14 u) (drop 14 u) (omega (arith, n))) in
          subst (IsHeader u) (same_Some _ _ (sym (read_segment-long_tagged u long tagged) ∙ e)) (record {
            len = ap length is ∙ n;
            whole = ap header_len is ∙ ap (λ b. if b then 14 else 18) first;
            read = ap read_segment is ∙ read_segment-long_tagged (take 14 u) (omega (arith, n)) first ∙ (λ i. Some (Tagged (fields i) (none_left 14 (take 14 u) n i)));
            rest = omega (arith, ap length is, n, length-drop 14 u);
          })
    ]
    go false untagged = elim (cases_lt (length u) 18) [
      | inl short ↦ absurd (none-some _ (sym (read_segment-short_untagged u short untagged) ∙ e))
      | inr long ↦
          let n : length (take 18 u) ≡ 18 = omega (arith, length-take 18 u) in
          let first : is_tagged (get_or (take 18 u) 0 0) ≡ false = ap is_tagged (get_or-take 18 u 0 0 (omega arith)) ∙ untagged in
          let is : header_in u ≡ take 18 u = ap (λ b. take (if b then 14 else 18) u) untagged in
          let fields : untagged_fields (take 18 u) ≡ untagged_fields u = sym (ap untagged_fields (sym (take-append-drop 18 u)) ∙ untagged_fields-append (take 18 u) (drop 18 u) (omega (arith, n))) in
          subst (IsHeader u) (same_Some _ _ (sym (read_segment-long_untagged u long untagged) ∙ e)) (record {
            len = ap length is ∙ n;
            whole = ap header_len is ∙ ap (λ b. if b then 14 else 18) first;
            read = ap read_segment is ∙ read_segment-long_untagged (take 18 u) (omega (arith, n)) first ∙ (λ i. Some (Untagged (fields i) (none_left 18 (take 18 u) n i)));
            rest = omega (arith, ap length is, n, length-drop 18 u);
          })
    ]

pub header_short : (u : List ℕ) → length (header_in u) ≤ length u
header_short u = omega (arith, length-take (if is_tagged (get_or u 0 0) then 14 else 18) u)

-- what is kept asks for the same buffer
pub kept_buffer : (r : Receiving) (u : List ℕ) → HasBuffer r (length (payload_of (read_segment u))) (read_segment u) → HasBuffer r (length u - length (header_in u)) (read_segment (header_in u))
kept_buffer r u has = go (read_segment u) refl has
  where
    bare_buffer : (n : ℕ) (segment : Segment (List ℕ)) → HasBuffer r n (Some segment) → HasBuffer r n (Some (bare segment))
    bare_buffer n (Tagged head payload) h = h
    bare_buffer n (Untagged head payload) h = h

    go : (o : Option (Segment (List ℕ))) → read_segment u ≡ o → HasBuffer r (length (payload_of o)) o → HasBuffer r (length u - length (header_in u)) (read_segment (header_in u))
    go None e h = absurd h
    go (Some segment) e h =
        let is = header_read u segment e in
        subst (HasBuffer r (length u - length (header_in u))) (sym is.read)
        (subst (λ n. HasBuffer r n (Some (bare segment))) (sym is.rest) (bare_buffer (length (payload_of (Some segment))) segment h))

-- ---- the turn of what is kept is its segment's
pub payload_kept : (frame : Frame) (segment : Segment (List ℕ)) → segment_in frame ≡ Some segment → payload_len (placed frame) ≡ length (payload_of (Some segment))
payload_kept frame segment e = (header_read frame.ulpdu segment e).rest

bare_turn : (at : Standing) (n : ℕ) (segment : Segment (List ℕ)) → segment_turn at.table at.peer at.receiving at.reads n (Some (bare segment)) ≡ segment_turn at.table at.peer at.receiving at.reads n (Some segment)
bare_turn at n (Tagged head payload) = refl
bare_turn at n (Untagged head payload) = refl

pub turn_kept : (at : Standing) (frame : Frame) (segment : Segment (List ℕ)) → segment_in frame ≡ Some segment
    → turn_of at (placed frame) ≡ segment_turn at.table at.peer at.receiving at.reads (length (payload_of (Some segment))) (Some segment)
turn_kept at frame segment e =
    (λ i. segment_turn at.table at.peer at.receiving at.reads (payload_kept frame segment e i) ((header_read frame.ulpdu segment e).read i)) ∙ bare_turn at (length (payload_of (Some segment))) segment

bare_turned : (r : Receiving) (n : ℕ) (segment : Segment (List ℕ)) → turned_by r n (Some (bare segment)) ≡ turned_by r n (Some segment)
bare_turned r n (Tagged head payload) = refl
bare_turned r n (Untagged head payload) = refl

pub turned_kept : (r : Receiving) (frame : Frame) (segment : Segment (List ℕ)) → segment_in frame ≡ Some segment → receiving_turned r (placed frame) ≡ turned_by r (length (payload_of (Some segment))) (Some segment)
turned_kept r frame segment e =
    (λ i. turned_by r (payload_kept frame segment e i) ((header_read frame.ulpdu segment e).read i)) ∙ bare_turned r (length (payload_of (Some segment))) segment

bare_left : (reads : List Outstanding) (n : ℕ) (segment : Segment (List ℕ)) → left_by_turn reads n (Some (bare segment)) ≡ left_by_turn reads n (Some segment)
bare_left reads n (Tagged head payload) = refl
bare_left reads n (Untagged head payload) = refl

pub left_kept : (reads : List Outstanding) (frame : Frame) (segment : Segment (List ℕ)) → segment_in frame ≡ Some segment → reads_left reads (placed frame) ≡ left_by_turn reads (length (payload_of (Some segment))) (Some segment)
left_kept reads frame segment e =
    (λ i. left_by_turn reads (payload_kept frame segment e i) ((header_read frame.ulpdu segment e).read i)) ∙ bare_left reads (length (payload_of (Some segment))) segment
