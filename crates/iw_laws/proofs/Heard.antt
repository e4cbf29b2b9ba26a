-- Ends that understand each other: behind the start-up frame that an end has read stand the frames that the other has sent, laid out as it expects them.
use Rattle.std.proofs.Common.{◌≡◌, ℕ, ◌≤◌, List, [], ◌++◌, length, map, Option, Some, None, Bool, true, false, refl, sym, ap, ◌∙◌, subst, arith, length-append, inl, inr, ◌⊎◌}
use Rattle.std.specs.Prelude.{is_some, IsTrue}
use Rattle.std.specs.Option.{option_map_or}
use Rattle.std.proofs.lemmas.Bool.{false≢true}
use Rattle.arrayvec.specs.ArrayVec.{ArrayVec}
use Rattle.iw_octets.specs.declared.segment.Segment.{Segment}
use Rattle.iw_octets.specs.Segment.{segment_octets}
use Rattle.iw_ranges.specs.InOrder.{IsOf}
use Rattle.iw_fpdu.specs.declared.layout.Layout.{Layout}
use Rattle.iw_fpdu.specs.Sequence.{sequence}
use Rattle.iw_startup.specs.declared.progress.Progress.TheVariants as progresses
use Rattle.iw_startup.specs.declared.side.Side.{Side}
use Rattle.iw_startup.specs.declared.side.Side.TheVariants as sides
use Rattle.iw_startup.specs.declared.side.Reply.{Reply}
use Rattle.iw_startup.specs.declared.side.Reply.TheVariants as replies
use Rattle.iw_startup.specs.State.{StartupState, IsReached, progress, own_frame, reply_frame, agreed_of, private_in, frame_of, is_answered}
use Rattle.iw_startup.specs.Enhanced.{at_responder, asked_revision}
use Rattle.iw_startup.specs.Frame.{private_room, revision_of}
use Rattle.iw_startup.specs.Laws.{IsAskable}
use Rattle.iw_startup.proofs.Ends.{least_end}
use Rattle.iw_startup.proofs.Written.{takes}
use Rattle.iw_startup.proofs.Openings.{nothing_agreed, unanswered_not_agreed}
use Rattle.iw_startup.proofs.Agreement.{IsAgreed, Asking, Accepting, is_agreed, HasRead, has_read, request_taken, understood, request_read, reply_read, rejection_read, Agree, both_agree}
use Rattle.iw_startup.proofs.Handshake.{asked_by}
use Rattle.iw_startup.proofs.Reached.{responds as responds_as}
use Rattle.iw_stream.specs.declared.answer.Role.TheVariants.{Preset, Initiator, Responder}
use Rattle.iw_stream.specs.Starting.{StartState, AtOnce, Unheard, Heard, IsFresh, is_open, plain, layout_in, layout_out, sending, expecting}
use Rattle.iw_stream.specs.Starting as starting
use Rattle.iw_stream.specs.Stream.{StreamState}
use Rattle.iw_stream.specs.Work.{inbox}
use Rattle.iw_laws.specs.Words.{Octets, Opening}
use Rattle.iw_laws.proofs.States.{Connected}
use Rattle.iw_laws.specs.Safe.{Fits}
use Rattle.iw_laws.proofs.Tales.{Tale}
use Rattle.iw_laws.proofs.Rooms.{request_room, reply_room}
use Rattle.iw_laws.proofs.Tracks.{OnStart, start_octets, Track, IsBare}
use Rattle.iw_laws.proofs.Reached.{reaches}
use Rattle.iw_laws.proofs.Owned.{Own, out_of, IsFramed, Unspoken, Spoken, IsStartOf, StartsAs, role_of}

-- a stream that begins with start-up frames, by their exchange
pub record Exchanges (start : StartState) (u : StartupState) : Type 0 where
  pub open_is : is_open start ≡ is_some (agreed_of u)
  pub expects : expecting start ≡ option_map_or layout_in (agreed_of u) plain
  pub sends : sending start ≡ option_map_or layout_out (agreed_of u) plain
  pub octets : start_octets start ≡ u.octets
  pub frame : starting.own_frame start ≡ frame_of u

unheard_exchanges : (u : StartupState) → u.octets ≡ [] → Exchanges (Unheard u) u
unheard_exchanges u fresh =
    let none : agreed_of u ≡ None = nothing_agreed u fresh in
    record { open_is = ap is_some (sym none); expects = ap (λ o. option_map_or layout_in o plain) (sym none); sends = ap (λ o. option_map_or layout_out o plain) (sym none); octets = sym fresh; frame = refl }

heard_exchanges : (u : StartupState) → Exchanges (Heard u) u
heard_exchanges u = record { open_is = refl; expects = refl; sends = refl; octets = refl; frame = refl }

-- the start-up of an end
pub record Starts (o : Opening) (s : StreamState) (u : StartupState) : Type 0 where
  pub is : Exchanges s.start u
  pub begun : StartsAs o u
  pub reached : IsReached u

role_not_preset : (side : Side) → role_of side ≡ Preset → ⊥
role_not_preset sides.Initiator e = cc
role_not_preset (sides.Responder reply) e = cc

-- a stream that is not open at once has a start-up
starts : (o : Opening) (c : Connected) (t : Tale) → Own o c t → (o.role ≡ Preset → ⊥) → (u : StartupState) × Starts o c.stream u
starts o c t own other = go c.stream.start refl own.starts own.track.begins.reached own.track.begins.fresh
  where
    go : (z : StartState) → c.stream.start ≡ z → IsStartOf o z → OnStart IsReached z → IsFresh z → (u : StartupState) × Starts o c.stream u
    go (AtOnce layout) e h r f = absurd (other h.0)
    go (Unheard u) e h r f = (u, record { is = subst (λ z. Exchanges z u) (sym e) (unheard_exchanges u f.0); begun = h; reached = r })
    go (Heard u) e h r f = (u, record { is = subst (λ z. Exchanges z u) (sym e) (heard_exchanges u); begun = h; reached = r })

-- and one that is has the layout that was asked for
no_start : (o : Opening) (c : Connected) (t : Tale) → Own o c t → o.role ≡ Preset → c.stream.start ≡ AtOnce (record { markers = o.config.markers; crc = o.config.crc })
no_start o c t own preset = go c.stream.start refl own.starts
  where
    go : (z : StartState) → c.stream.start ≡ z → IsStartOf o z → c.stream.start ≡ AtOnce (record { markers = o.config.markers; crc = o.config.crc })
    go (AtOnce layout) e h = e ∙ ap AtOnce h.1
    go (Unheard u) e h = absurd (role_not_preset u.side (h.role ∙ preset))
    go (Heard u) e h = absurd (role_not_preset u.side (h.role ∙ preset))

-- the octets of the peer's frame are the first of those that it has sent
read_of : (o : Opening) (c : Connected) (t : Tale) (own : Own o c t) (u : StartupState) (sent : Octets) → Exchanges c.stream.start u → IsOf t.story.came sent → (more : Octets) × (u.octets ++ more ≡ sent)
read_of o c t own u sent is of =
    let k = own.track in
    let r = reaches c.stream t k sent of in
    let intro : k.intro ≡ u.octets = k.begins.octets ∙ is.octets in
    (k.before ++ (inbox c.stream ++ r.rest), sym (r.is ∙ ap (λ z. z ++ (k.before ++ (inbox c.stream ++ r.rest))) intro))

-- what an end has sent: nothing, or its start-up frame first
sent_first : (o : Opening) (c : Connected) (t : Tale) (own : Own o c t) (u : StartupState) → Exchanges c.stream.start u
    → (t.sent ≡ []) ⊎ (t.sent ≡ frame_of u ++ sequence (sending c.stream.start) 0 (map segment_octets (out_of c.stream t own.emits)))
sent_first o c t own u is = go own.emits.framed
  where
    go : IsFramed c.stream.start t.sent (out_of c.stream t own.emits) → (t.sent ≡ []) ⊎ (t.sent ≡ frame_of u ++ sequence (sending c.stream.start) 0 (map segment_octets (out_of c.stream t own.emits)))
    go (Unspoken b d) = inl b
    go (Spoken b) = inr (b ∙ ap (λ z. z ++ sequence (sending c.stream.start) 0 (map segment_octets (out_of c.stream t own.emits))) is.frame)

-- nothing can be read where nothing was sent
not_read : (u : StartupState) (more : Octets) → HasRead u → u.octets ++ more ≡ [] → ⊥
not_read u more h e = omega (arith, ap length e, length-append u.octets more, h.whole, least_end u.config.establishment u.side u.octets)

-- ---- both ends

-- where a stream is not open, no frame was read; where it is, the frames that the other end has sent stand behind the start-up frame that was read
pub data IsHeard (c : Connected) (t : Tale) (d : Connected) (u : Tale) (segments : List (Segment Octets)) (k : Track d.stream u) : Type 0 where
  Bare : IsBare k.frames k.before (is_some d.stream.front) → d.stream.early ≡ [] → IsHeard c t d u segments k
  Clear : t.sent ≡ k.intro ++ sequence (expecting d.stream.start) 0 (map segment_octets segments) → IsHeard c t d u segments k

nothing_sent : (l : Layout) (us : List (Segment Octets)) → us ≡ [] → sequence l 0 (map segment_octets us) ≡ []
unfolding sequence
nothing_sent l us e = ap (λ z. sequence l 0 (map segment_octets z)) e

-- frames laid out alike, or none at all
same_frames : (l l' : Layout) (first : Octets) (us : List (Segment Octets)) → (us ≡ []) ⊎ (l ≡ l') → first ++ sequence l 0 (map segment_octets us) ≡ first ++ sequence l' 0 (map segment_octets us)
same_frames l l' first us (inl none) = ap (λ z. first ++ z) (nothing_sent l us none ∙ sym (nothing_sent l' us none))
same_frames l l' first us (inr same) = ap (λ z. first ++ sequence z 0 (map segment_octets us)) same

initiates : (side : Side) → role_of side ≡ Initiator → side ≡ sides.Initiator
initiates sides.Initiator e = refl
initiates (sides.Responder reply) e = cc

responds : (side : Side) → role_of side ≡ Responder → (reply : Option Reply) × (side ≡ sides.Responder reply)
responds sides.Initiator e = cc
responds (sides.Responder reply) e = (reply, refl)

-- the octets of the peer's frame
intro_is : (o : Opening) (c : Connected) (t : Tale) (own : Own o c t) (u : StartupState) → Exchanges c.stream.start u → own.track.intro ≡ u.octets
intro_is o c t own u is = own.track.begins.octets ∙ is.octets

abbrev IsResponding : Side → Type 0
IsResponding sides.Initiator = ⊥
IsResponding (sides.Responder reply) = Unit {0}

not_asking : (side : Side) → side ≡ sides.Initiator → IsResponding side → ⊥
not_asking sides.Initiator e h = h
not_asking (sides.Responder reply) e h = cc

not_both : (side : Side) (private : ArrayVec ℕ) → side ≡ sides.Initiator → side ≡ sides.Responder (Some (replies.Accept private)) → ⊥
not_both side private e f = let same : sides.Initiator ≡ sides.Responder (Some (replies.Accept private)) = sym e ∙ f in cc

-- an initiator and a responder, the initiator's start-up being w and the responder's v
module _ (a : Opening) (c : Connected) (t : Tale) (own : Own a c t) (w : StartupState) (sw : Starts a c.stream w) (asks : w.side ≡ sides.Initiator)
    (b : Opening) (d : Connected) (u : Tale) (other : Own b d u) (v : StartupState) (sv : Starts b d.stream v)
    (there : IsOf u.story.came t.sent) (back : IsOf t.story.came u.sent) where
  asked_room : length w.config.private.items ≤ private_room (asked_revision w.config.establishment)
  asked_room = request_room w sw.reached asks

  frame_is : frame_of w ≡ own_frame w.config sides.Initiator []
  frame_is = ap (λ side. own_frame w.config side w.octets) asks

  -- a responder that was asked has read the Request
  asked_read : progress v ≡ progresses.Asked → HasRead v
  asked_read asked = has_read v progresses.Asked sv.reached asked (λ e. cc)

  -- what came after it, on both sides
  pub record IsRequest : Type 0 where
    pub more : Octets
    pub beyond : Octets
    pub is : v.octets ++ more ≡ own_frame w.config sides.Initiator [] ++ beyond

  request_is : progress v ≡ progresses.Asked → IsRequest
  request_is asked =
      let r = read_of b d u other v t.sent sv.is there in
      go r.0 r.1 (sent_first a c t own w sw.is)
    where
      go : (more : Octets) → v.octets ++ more ≡ t.sent → (t.sent ≡ []) ⊎ (t.sent ≡ frame_of w ++ sequence (sending c.stream.start) 0 (map segment_octets (out_of c.stream t own.emits))) → IsRequest
      go more e (inl none) = absurd (not_read v more (asked_read asked) (e ∙ none))
      go more e (inr first) = record {
        more = more;
        beyond = sequence (sending c.stream.start) 0 (map segment_octets (out_of c.stream t own.emits));
        is = e ∙ first ∙ ap (λ z. z ++ sequence (sending c.stream.start) 0 (map segment_octets (out_of c.stream t own.emits))) frame_is;
      }

  -- it takes its revision, and has read it as it was sent
  taken : (reply : Option Reply) → v.side ≡ sides.Responder reply → progress v ≡ progresses.Asked → takes (sides.Responder None) v.config.establishment (asked_revision w.config.establishment) ≡ true
  taken reply side asked = let r = request_is asked in request_taken v reply w.config r.more r.beyond side (asked_read asked) asked r.is

  has_request : (reply : Option Reply) → v.side ≡ sides.Responder reply → progress v ≡ progresses.Asked → v.octets ≡ own_frame w.config sides.Initiator []
  has_request reply side asked = let r = request_is asked in request_read v reply w.config r.more r.beyond side (asked_read asked) (taken reply side asked) asked_room r.is

  responds_one : (reply : Option Reply) → v.side ≡ sides.Responder reply → at_responder v.config.establishment ≡ v.config.establishment
  responds_one reply side = responds_as v reply sv.reached side

  askable : (reply : Option Reply) → v.side ≡ sides.Responder reply → progress v ≡ progresses.Asked → IsAskable w.config v.config
  askable reply side asked = record { room = asked_room; understood = understood v.config.establishment w.config.establishment (taken reply side asked) }

  -- and answers in kind
  in_kind : (reply : Option Reply) → v.side ≡ sides.Responder reply → progress v ≡ progresses.Asked → revision_of v.config.establishment v.octets ≡ asked_revision w.config.establishment
  in_kind reply side asked =
      (λ i. revision_of (sym (responds_one reply side) i) (has_request reply side asked i)) ∙ asked_by w.config v.config (askable reply side asked)

  -- an answer was given to a whole Request
  was_asked : (reply : Reply) → v.side ≡ sides.Responder (Some reply) → progress v ≡ progresses.Asked
  was_asked reply side = sv.reached.asked (subst (λ z. IsTrue (is_answered z)) (sym side) refl)

  room : (reply : Reply) → v.side ≡ sides.Responder (Some reply) → length (private_in reply).items ≤ private_room (asked_revision w.config.establishment)
  room reply side = subst (λ n. length (private_in reply).items ≤ n) (ap private_room (in_kind (Some reply) side (was_asked reply side))) (reply_room v reply sv.reached side)

  -- the initiator has read the Reply
  has_reply : (reply : Reply) → v.side ≡ sides.Responder (Some reply) → HasRead w → w.octets ≡ reply_frame v.config reply v.octets
  has_reply reply side h =
      let r = read_of a c t own w u.sent sw.is back in
      go r.0 r.1 (sent_first b d u other v sv.is)
    where
      go : (more : Octets) → w.octets ++ more ≡ u.sent → (u.sent ≡ []) ⊎ (u.sent ≡ frame_of v ++ sequence (sending d.stream.start) 0 (map segment_octets (out_of d.stream u other.emits))) → w.octets ≡ reply_frame v.config reply v.octets
      go more e (inl none) = absurd (not_read w more h (e ∙ none))
      go more e (inr first) =
          reply_read w v.config reply v.octets more (sequence (sending d.stream.start) 0 (map segment_octets (out_of d.stream u other.emits))) asks h (in_kind (Some reply) side (was_asked reply side)) (room reply side)
          (e ∙ first ∙ ap (λ z. own_frame v.config z v.octets ++ sequence (sending d.stream.start) 0 (map segment_octets (out_of d.stream u other.emits))) side)

  -- without an answer there is no Reply
  no_reply : v.side ≡ sides.Responder None → HasRead w → ⊥
  no_reply side h =
      let r = read_of a c t own w u.sent sw.is back in
      not_read w r.0 h (r.1 ∙ unsent (sent_first b d u other v sv.is))
    where
      shut : out_of d.stream u other.emits ≡ []
      shut = (other.emits.parts.shut (sv.is.open_is ∙ ap is_some (unanswered_not_agreed v side))).none

      unsent : (u.sent ≡ []) ⊎ (u.sent ≡ frame_of v ++ sequence (sending d.stream.start) 0 (map segment_octets (out_of d.stream u other.emits))) → u.sent ≡ []
      unsent (inl none) = none
      unsent (inr first) = first ∙ (λ i. own_frame v.config (side i) v.octets ++ nothing_sent (sending d.stream.start) (out_of d.stream u other.emits) shut i)

  agree : (private : ArrayVec ℕ) → v.side ≡ sides.Responder (Some (replies.Accept private)) → HasRead w → Agree w v
  agree private side hw =
      let reply : Reply = replies.Accept private in
      let asked = was_asked reply side in
      both_agree w v private asks side (responds_one (Some reply) side) (askable (Some reply) side asked) (room reply side) (has_reply reply side hw) (has_request (Some reply) side asked)

  -- behind the Request stand the frames that the initiator has sent
  responder_hears : is_open d.stream.start ≡ true → IsResponding v.side → t.sent ≡ other.track.intro ++ sequence (expecting d.stream.start) 0 (map segment_octets (out_of c.stream t own.emits))
  responder_hears started responding = go (is_agreed v (sym (sv.is.open_is) ∙ started))
    where
      us : List (Segment Octets)
      us = out_of c.stream t own.emits

      laid : (private : ArrayVec ℕ) → v.side ≡ sides.Responder (Some (replies.Accept private)) → (z : Bool) → is_open c.stream.start ≡ z → (us ≡ []) ⊎ ((sending c.stream.start) ≡ (expecting d.stream.start))
      laid private side false closed = inl (own.emits.parts.shut closed).none
      laid private side true closed = inr (agreed (is_agreed w (sym (sw.is.open_is) ∙ closed)))
        where
          agreed : IsAgreed w → (sending c.stream.start) ≡ (expecting d.stream.start)
          agreed (Accepting p s e) = absurd (not_both w.side p asks s)
          agreed (Asking s e) =
              let both = agree private side (has_read w progresses.Agreed sw.reached e (λ x. cc)) in
              sw.is.sends ∙ ap (λ z. option_map_or layout_out z plain) both.asking ∙ sym (sv.is.expects ∙ ap (λ z. option_map_or layout_in z plain) both.accepting)

      said : (private : ArrayVec ℕ) → v.side ≡ sides.Responder (Some (replies.Accept private)) → progress v ≡ progresses.Asked → (t.sent ≡ []) ⊎ (t.sent ≡ frame_of w ++ sequence (sending c.stream.start) 0 (map segment_octets us))
          → t.sent ≡ other.track.intro ++ sequence (expecting d.stream.start) 0 (map segment_octets us)
      said private side asked (inl none) = (let r = read_of b d u other v t.sent sv.is there in absurd (not_read v r.0 (asked_read asked) (r.1 ∙ none)))
      said private side asked (inr first) =
          first ∙ same_frames (sending c.stream.start) (expecting d.stream.start) (frame_of w) us (laid private side (is_open c.stream.start) refl)
          ∙ ap (λ z. z ++ sequence (expecting d.stream.start) 0 (map segment_octets us)) (frame_is ∙ sym (has_request (Some (replies.Accept private)) side asked) ∙ sym (intro_is b d u other v sv.is))

      go : IsAgreed v → t.sent ≡ other.track.intro ++ sequence (expecting d.stream.start) 0 (map segment_octets us)
      go (Asking s e) = absurd (not_asking v.side s responding)
      go (Accepting private side e) = said private side e (sent_first a c t own w sw.is)

  -- behind the Reply stand the frames that the responder has sent
  initiator_hears : is_open c.stream.start ≡ true → (reply : Option Reply) → v.side ≡ sides.Responder reply → u.sent ≡ own.track.intro ++ sequence (expecting c.stream.start) 0 (map segment_octets (out_of d.stream u other.emits))
  initiator_hears started reply side = go (is_agreed w (sym (sw.is.open_is) ∙ started))
    where
      us : List (Segment Octets)
      us = out_of d.stream u other.emits

      said : (private : ArrayVec ℕ) → v.side ≡ sides.Responder (Some (replies.Accept private)) → HasRead w → (u.sent ≡ []) ⊎ (u.sent ≡ frame_of v ++ sequence (sending d.stream.start) 0 (map segment_octets us))
          → u.sent ≡ own.track.intro ++ sequence (expecting c.stream.start) 0 (map segment_octets us)
      said private side hw (inl none) = (let r = read_of a c t own w u.sent sw.is back in absurd (not_read w r.0 hw (r.1 ∙ none)))
      said private side hw (inr first) =
          let both = agree private side hw in
          let laid : (sending d.stream.start) ≡ (expecting c.stream.start) =
          sv.is.sends ∙ ap (λ z. option_map_or layout_out z plain) both.accepting ∙ sym (sw.is.expects ∙ ap (λ z. option_map_or layout_in z plain) both.asking) in
          first ∙ same_frames (sending d.stream.start) (expecting c.stream.start) (frame_of v) us (inr laid)
          ∙ ap (λ z. z ++ sequence (expecting c.stream.start) 0 (map segment_octets us)) (ap (λ z. own_frame v.config z v.octets) side ∙ sym (has_reply (replies.Accept private) side hw) ∙ sym (intro_is a c t own w sw.is))

      answered_by : (reply : Option Reply) → v.side ≡ sides.Responder reply → HasRead w → u.sent ≡ own.track.intro ++ sequence (expecting c.stream.start) 0 (map segment_octets us)
      answered_by None s hw = absurd (no_reply s hw)
      answered_by (Some (replies.Accept private)) s hw = said private s hw (sent_first b d u other v sv.is)
      answered_by (Some (replies.Reject private)) s hw =
          let none = rejection_read w v.config v.octets private asks (in_kind (Some (replies.Reject private)) s (was_asked (replies.Reject private) s)) (room (replies.Reject private) s) (has_reply (replies.Reject private) s hw) in
          absurd (false≢true (ap is_some (sym none) ∙ sym (sw.is.open_is) ∙ started))

      go : IsAgreed w → u.sent ≡ own.track.intro ++ sequence (expecting c.stream.start) 0 (map segment_octets us)
      go (Accepting p s e) = absurd (not_both w.side p asks s)
      go (Asking s e) = answered_by reply side (has_read w progresses.Agreed sw.reached e (λ x. cc))

-- ends that are open at once, with the same layout
preset_hears : (a : Opening) (c : Connected) (t : Tale) (own : Own a c t) (b : Opening) (d : Connected) (u : Tale) (other : Own b d u)
    → a.role ≡ Preset → b.role ≡ Preset → a.config.markers ≡ b.config.markers → a.config.crc ≡ b.config.crc → t.sent ≡ other.track.intro ++ sequence (expecting d.stream.start) 0 (map segment_octets (out_of c.stream t own.emits))
preset_hears a c t own b d u other ra rb markers crc = go own.emits.framed
  where
    us : List (Segment Octets)
    us = out_of c.stream t own.emits

    none_c : c.stream.start ≡ AtOnce (record { markers = a.config.markers; crc = a.config.crc })
    none_c = no_start a c t own ra

    none_d : d.stream.start ≡ AtOnce (record { markers = b.config.markers; crc = b.config.crc })
    none_d = no_start b d u other rb

    intro : other.track.intro ≡ []
    intro = other.track.begins.octets ∙ ap start_octets none_d

    sends : sending c.stream.start ≡ record { markers = a.config.markers; crc = a.config.crc }
    sends = ap sending none_c

    expects : expecting d.stream.start ≡ record { markers = b.config.markers; crc = b.config.crc }
    expects = ap expecting none_d

    laid : (sending c.stream.start) ≡ (expecting d.stream.start)
    laid = sends ∙ (λ i. record { markers = markers i; crc = crc i }) ∙ sym expects

    frames : sequence (sending c.stream.start) 0 (map segment_octets us) ≡ other.track.intro ++ sequence (expecting d.stream.start) 0 (map segment_octets us)
    frames = (λ i. sym intro i ++ sequence (laid i) 0 (map segment_octets us))

    go : IsFramed c.stream.start t.sent us → t.sent ≡ other.track.intro ++ sequence (expecting d.stream.start) 0 (map segment_octets us)
    go (Unspoken y z) = y ∙ sym (nothing_sent (sending c.stream.start) us z) ∙ frames
    go (Spoken y) = y ∙ ap (λ z. starting.own_frame z ++ sequence (sending c.stream.start) 0 (map segment_octets us)) none_c ∙ frames

initiator_not : (o : Opening) → o.role ≡ Initiator → o.role ≡ Preset → ⊥
initiator_not o e f = let same : Initiator ≡ Preset = sym e ∙ f in cc

responder_not : (o : Opening) → o.role ≡ Responder → o.role ≡ Preset → ⊥
responder_not o e f = let same : Responder ≡ Preset = sym e ∙ f in cc

-- behind the start-up frame that an honest end has read stand the frames that the other has sent, where its stream is open
pub clears : (a : Opening) (c : Connected) (t : Tale) (own : Own a c t) (b : Opening) (d : Connected) (u : Tale) (other : Own b d u) → Fits a b → IsOf u.story.came t.sent → IsOf t.story.came u.sent → is_open d.stream.start ≡ true
    → t.sent ≡ other.track.intro ++ sequence (expecting d.stream.start) 0 (map segment_octets (out_of c.stream t own.emits))
clears a c t own b d u other fits there back started = go fits
  where
    go : Fits a b → t.sent ≡ other.track.intro ++ sequence (expecting d.stream.start) 0 (map segment_octets (out_of c.stream t own.emits))
    go (inl f) = preset_hears a c t own b d u other f.0 f.1 f.2 f.3
    go (inr (inl f)) =
        let w = starts a c t own (initiator_not a f.0) in
        let v = starts b d u other (responder_not b f.1) in
        let side = responds v.0.side (v.1.begun.role ∙ f.1) in
        responder_hears a c t own w.0 w.1 (initiates w.0.side (w.1.begun.role ∙ f.0)) b d u other v.0 v.1 there back started (subst IsResponding (sym side.1) tt)
    go (inr (inr f)) =
        let v = starts a c t own (responder_not a f.0) in
        let w = starts b d u other (initiator_not b f.1) in
        let side = responds v.0.side (v.1.begun.role ∙ f.0) in
        initiator_hears b d u other w.0 w.1 (initiates w.0.side (w.1.begun.role ∙ f.1)) a c t own v.0 v.1 back there started side.0 side.1

-- what an honest end hears of the other
pub hears_all : (a : Opening) (c : Connected) (t : Tale) (own : Own a c t) (b : Opening) (d : Connected) (u : Tale) (other : Own b d u) → Fits a b → IsOf u.story.came t.sent → IsOf t.story.came u.sent
    → IsHeard c t d u (out_of c.stream t own.emits) other.track
hears_all a c t own b d u other fits there back = go (is_open d.stream.start) refl
  where
    go : (started : Bool) → is_open d.stream.start ≡ started → IsHeard c t d u (out_of c.stream t own.emits) other.track
    go false shut = Bare (other.track.shut shut) (other.track.early.unopened shut)
    go true started = Clear (clears a c t own b d u other fits there back started)
