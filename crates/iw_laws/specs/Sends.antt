-- What goes out, and when a message is finished.
use Rattle.std.specs.Prelude.{◌≡◌, ◌≢◌, ◌⊎◌, Bool, true, false, ℕ, ◌+◌, ◌-◌, ◌≤◌, List, [], ◌∷◌, ◌++◌, length, map, take, slice_get, Option, Some, None}
use Rattle.std.specs.Option.{option_map}
use Rattle.iw_octets.specs.declared.segment.Segment.{Segment}
use Rattle.iw_octets.specs.declared.segment.Segment.TheVariants.{Untagged}
use Rattle.iw_octets.specs.Segment.{segment_octets, FitsSegment}
use Rattle.iw_fpdu.specs.Frame.{frame_octets}
use Rattle.iw_fpdu.specs.Sequence.{sequence}
use Rattle.iw_queues.specs.declared.request.Kind.{Kind}
use Rattle.iw_queues.specs.declared.request.Request.{Request}
use Rattle.iw_queues.specs.declared.request.Request.TheVariants.{Message as Posted, Read}
use Rattle.iw_octets.specs.declared.constants.TheConstants.{TAGGED_HEADER}
use Rattle.iw_octets.specs.declared.payload.ReadRequest.{ReadRequest}
use Rattle.iw_rdmap.specs.Laws.{terminate_head}
use Rattle.iw_reads.specs.declared.requests.Asked.{Asked}
use Rattle.iw_queues.specs.Request.{kind_of}
use Rattle.iw_queues.specs.Segments.{first_numbers}
use Rattle.iw_queues.specs.Joined.{IsPrefixOf}
use Rattle.iw_events.specs.declared.call.End.{End}
use Rattle.iw_events.specs.declared.act.Act.{Act}
use Rattle.iw_events.specs.declared.act.StreamAct.{StreamAct}
use Rattle.iw_events.specs.declared.act.Shown.{Shown}
use Rattle.iw_events.specs.declared.act.Shown.TheVariants.{Frame, Fetched, Fault as Denied, Nothing}
use Rattle.iw_events.specs.declared.act.Entry.{Entry}
use Rattle.iw_stream.specs.Ending.{is_broken, last_word}
use Rattle.iw_laws.specs.Words.{Octets, acts, deed, stream_acts, posted, handed_kinds, ended, sent, size_set, listed}
use Rattle.iw_stream.specs.Rtr.{rtr_message}
use Rattle.iw_stream.specs.Starting.{is_open, sending, own_frame, most_reads_in, rtr_in}
use Rattle.iw_laws.specs.Turns.{Story, story_of, is_silent, is_last, is_rtr}
use Rattle.iw_laws.specs.Merged.{Item, AreMerged, posts_in, answers_in, octets_of, responded}
use Rattle.iw_laws.specs.Words.{OnSome, OnStream, AtEach}

-- ---- all that was sent

-- these octets are this end's start-up frame, if it has one, and past it, one after the other, the frames of segments that
-- carry these messages in order and whole
pub record AreFrames (t : Story) (octets : Octets) (items : List Item) : Type 0 where
  pub segments : List (Segment Octets)
  pub carry : AreMerged first_numbers 0 items segments
  pub framed : octets ≡ own_frame t.start ++ sequence (sending t.start) 0 (map segment_octets segments)

-- the RTR, if one is agreed on: it goes out before all that was posted (RFC 6581 9.2)
abbrev pub ready_of : Story → List (Request Octets)
ready_of t = listed (option_map rtr_message (rtr_in t.start))

-- the Reads that the peer asked for, in order
abbrev pub asked_of : Story → List ReadRequest
asked_of t = map (λ a. a.request) t.answers ++ map (λ a. a.request) t.asked.unanswered

-- the octets that were fetched for them, in order
abbrev pub fetched_of : Story → Octets
fetched_of t = octets_of t.answers ++ t.begun

abbrev pub terminate_segment : Octets → Segment Octets
terminate_segment payload = Untagged terminate_head payload

-- the Terminate that went out, if one did
abbrev pub farewells : Option Octets → List (Segment Octets)
farewells None = []
farewells (Some payload) = terminate_segment payload ∷ []

-- these octets are the start-up frame and the frames of the first of the segments that carry the RTR and what was posted, in order, and the
-- responses to what the peer asked for, in order; of the responses those have exactly the octets that were fetched; and past them the
-- frame of a Terminate, if one went out; or there are no octets
pub record AreFirstFrames (t : Story) (octets : Octets) (messages : List (Request Octets)) : Type 0 where
  pub items : List Item
  pub posts : posts_in items ≡ ready_of t ++ messages
  pub answers : map (λ a. a.request) (answers_in items) ≡ asked_of t
  pub begun : List (Segment Octets)
  pub later : List (Segment Octets)
  pub carry : AreMerged first_numbers 0 items (begun ++ later)
  pub fetched : responded begun ≡ fetched_of t
  pub framed : ((octets ≡ []) × (begun ≡ [])) ⊎ (octets ≡ own_frame t.start ++ sequence (sending t.start) 0 (map segment_octets (begun ++ farewells t.farewell)))
  pub closed : is_open t.start ≡ false → begun ++ farewells t.farewell ≡ []
  pub silent : is_silent t ≡ true → begun ++ farewells t.farewell ≡ []

-- at every moment, what an end has sent on a stream
abbrev pub Emission : List (Entry Octets) → Type 0
Emission trace =
    (past future : List (Entry Octets)) → trace ≡ past ++ future → (x : End) (n : ℕ)
    → AreFirstFrames (story_of n (acts x past)) (sent (stream_acts n (acts x past))) (posted (stream_acts n (acts x past)))

-- these octets are all frames of the RTR, of these messages and of the responses, and no request of the peer waits
pub record AreAllFrames (t : Story) (octets : Octets) (messages : List (Request Octets)) : Type 0 where
  pub items : List Item
  pub posts : posts_in items ≡ ready_of t ++ messages
  pub answers : answers_in items ≡ t.answers
  pub none_waits : t.asked.unanswered ≡ []
  pub frames : AreFrames t octets items

-- ---- one frame

-- the octets that go out after others are the frame of a segment (the numbers of its header fit their fields), whose ULPDU
-- has at most this size, and exactly this size if it is not the last of its message
pub record IsFrameOf (t : Story) (size : ℕ) (before octets : Octets) : Type 0 where
  pub segment : Segment Octets
  pub known : FitsSegment segment
  pub is : octets ≡ frame_octets (sending t.start) (length before - length (own_frame t.start)) (segment_octets segment)
  pub fits : length (segment_octets segment) ≤ size
  pub full : is_last segment ≡ false → length (segment_octets segment) ≡ size

-- they are the start-up frame, which is not empty, and nothing went out before
abbrev pub IsStartFrame : Story → Octets → Octets → Type 0
IsStartFrame t before octets = (before ≡ []) × (octets ≡ own_frame t.start) × (octets ≢ [])

-- n octets that are fetched fill a ULPDU of this size past their header, but for those at the end of a response
pub record IsFetchSized (t : Story) (size n : ℕ) : Type 0 where
  pub fits : n + TAGGED_HEADER ≤ size
  pub full : (oldest : Asked) (others : List Asked) → t.asked.unanswered ≡ oldest ∷ others → length t.begun + n ≢ oldest.request.size
      → n + TAGGED_HEADER ≡ size

abbrev pub FrameSized : Story → ℕ → Octets → Shown Octets → Type 0
FrameSized t size before (Frame from octets) =
    (from ≡ length before) × (IsStartFrame t before octets ⊎ IsFrameOf t size before octets)
FrameSized t size before (Fetched from frame stag to octets) = (from ≡ length before) × IsFetchSized t size (length octets)
FrameSized t size before (Denied fault) = Unit {0}
FrameSized t size before Nothing = Unit {0}

abbrev pub SizedStream : List (Act Octets) → ℕ → StreamAct Octets → Type 0
SizedStream before n act =
    OnSome (FrameSized (story_of n before) (size_set (stream_acts n before)) (sent (stream_acts n before))) (deed act).shown

-- each frame stands past what was sent before, and has the size that was set
abbrev pub Sized : List (Entry Octets) → Type 0
Sized = AtEach (OnStream SizedStream)

-- frames may be sent: the stream has not ended, is open, and need not keep silent
pub record MaySend (over : Bool) (t : Story) : Type 0 where
  pub running : over ≡ false
  pub open_now : is_open t.start ≡ true
  pub loud : is_silent t ≡ false

-- they are the frame of the Terminate that is due
pub record IsLastWord (t : Story) (before octets : Octets) : Type 0 where
  pub payload : Octets
  pub is_due : last_word t.ending ≡ Some payload
  pub is : octets ≡ frame_octets (sending t.start) (length before - length (own_frame t.start)) (segment_octets (terminate_segment payload))

-- a response may: the RTR, if one is agreed on, goes before it too
abbrev pub MayRespond : Bool → Story → Octets → Type 0
MayRespond over t before = MaySend over t × (is_rtr t (length before) ≡ false)

abbrev pub FrameAllowed : Bool → Story → Octets → Shown Octets → Type 0
FrameAllowed over t before (Frame from octets) = IsStartFrame t before octets ⊎ (IsLastWord t before octets ⊎ MaySend over t)
FrameAllowed over t before (Fetched from frame stag to octets) = MayRespond over t before
FrameAllowed over t before (Denied fault) = MayRespond over t before
FrameAllowed over t before Nothing = Unit {0}

abbrev pub SpeaksStream : List (Act Octets) → ℕ → StreamAct Octets → Type 0
SpeaksStream before n act =
    OnSome (FrameAllowed (ended (stream_acts n before)) (story_of n before) (sent (stream_acts n before))) (deed act).shown

-- but for the start-up frame and the Terminate that is due, a frame goes out only where one may be sent, and a response behind the RTR
abbrev pub Speaks : List (Entry Octets) → Type 0
Speaks = AtEach (OnStream SpeaksStream)

-- ---- nothing

-- why nothing is emitted: the stream has ended, or is not open, or keeps silent; or the RTR and all that was posted have been sent; or all
-- before a Read, which waits since as many are outstanding as both ends agreed on
pub data HasNothing (over : Bool) (t : Story) (octets : Octets) (messages : List (Request Octets)) : Type 0 where
  Over : over ≡ true → HasNothing over t octets messages
  Closed : is_open t.start ≡ false → HasNothing over t octets messages
  Silent : is_silent t ≡ true → HasNothing over t octets messages
  AllSent : AreAllFrames t octets messages → HasNothing over t octets messages
  ReadWaits : (k : ℕ) (request : ReadRequest) → slice_get messages k ≡ Some (Read request) → most_reads_in t.start ≤ length t.reads
      → AreAllFrames t octets (take k messages) → HasNothing over t octets messages

-- where nothing is emitted, the start-up frame, if there is one, has been sent, if the link has not broken, no Terminate is due, and
-- there is a reason
abbrev pub NothingShown : Story → List (StreamAct Octets) → Shown Octets → Type 0
NothingShown t before (Frame from octets) = Unit {0}
NothingShown t before (Fetched from frame stag to octets) = Unit {0}
NothingShown t before (Denied fault) = Unit {0}
NothingShown t before Nothing =
    (is_broken t.ending ≡ false → IsPrefixOf (own_frame t.start) (sent before)) × (last_word t.ending ≡ None)
    × HasNothing (ended before) t (sent before) (posted before)

abbrev pub NothingStream : List (Act Octets) → ℕ → StreamAct Octets → Type 0
NothingStream before n act = OnSome (NothingShown (story_of n before) (stream_acts n before)) (deed act).shown

abbrev pub NothingOnlyAtRest : List (Entry Octets) → Type 0
NothingOnlyAtRest = AtEach (OnStream NothingStream)

-- ---- finished messages

-- what went out begins with all frames of the RTR and of these messages, and of responses among them
pub record AreSent (t : Story) (octets : Octets) (messages : List (Request Octets)) : Type 0 where
  pub items : List Item
  pub posts : posts_in items ≡ ready_of t ++ messages
  pub first : Octets
  pub frames : AreFrames t first items
  pub begins : IsPrefixOf first octets

abbrev pub count_reads : List (Request Octets) → ℕ
count_reads [] = 0
count_reads (Posted message ∷ ms) = count_reads ms
count_reads (Read request ∷ ms) = count_reads ms + 1

-- of a Read the last frame of its response had its turn: of the RTR and the messages up to it, as many Reads were answered as there are
abbrev pub IsAnswered : Story → List (Request Octets) → Request Octets → Type 0
IsAnswered t sofar (Posted message) = Unit {0}
IsAnswered t sofar (Read request) = count_reads (ready_of t ++ sofar) ≤ t.answered

-- of what was posted, the message with k before it is of this kind, and has been sent to its last segment; a Read was answered
pub record IsSentMessage (t : Story) (octets : Octets) (messages : List (Request Octets)) (k : ℕ) (kind : Kind) : Type 0 where
  pub message : Request Octets
  pub is : slice_get messages k ≡ Some message
  pub kind_is : kind ≡ kind_of message
  pub sent : AreSent t octets (take (k + 1) messages)
  pub answered : IsAnswered t (take (k + 1) messages) message

-- the message that is to be handed back next, which is the oldest, can be finished with this kind
abbrev pub CanFinish : Story → List (StreamAct Octets) → Kind → Type 0
CanFinish t before kind = IsSentMessage t (sent before) (posted before) (length (handed_kinds before)) kind

abbrev pub FinishedStream : List (Act Octets) → ℕ → StreamAct Octets → Type 0
FinishedStream before n act = OnSome (CanFinish (story_of n before) (stream_acts n before)) (deed act).finished

-- the message that is finished is the oldest that was posted and not handed back
abbrev pub Finished : List (Entry Octets) → Type 0
Finished = AtEach (OnStream FinishedStream)

-- ---- Reads

-- at every moment at most as many Reads are outstanding as both ends agreed on, which is 16 on a stream that asks by revision 1: no Read goes out
-- while as many are
abbrev pub FewReads : List (Entry Octets) → Type 0
FewReads trace =
    (past future : List (Entry Octets)) → trace ≡ past ++ future → (x : End) (n : ℕ) → length (story_of n (acts x past)).reads ≤ most_reads_in (story_of n (acts x past)).start
