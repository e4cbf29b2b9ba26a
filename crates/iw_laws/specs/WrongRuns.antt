-- Runs that no two ends make, each of which breaks one law. A law that is false of its run is enough to refuse it.
use Rattle.std.specs.Prelude.{ℕ, zero, suc, ◌+◌, ◌*◌, Bool, true, false, List, [], ◌∷◌, ◌++◌, replicate, Some, None, Ok}
use Rattle.iw_octets.specs.declared.fault.TheConstants.Fault as faults
use Rattle.iw_octets.specs.declared.message.Message.TheVariants as messages
use Rattle.iw_octets.specs.declared.payload.ReadRequest.{ReadRequest}
use Rattle.iw_octets.specs.declared.stag.Stag.{Stag}
use Rattle.iw_octets.specs.Payload.{request_octets}
use Rattle.iw_octets.specs.Segment.{segment_octets}
use Rattle.iw_memory.specs.declared.rights.Right.TheVariants as rights
use Rattle.iw_memory.specs.declared.refusal.DomainRefusal.TheVariants.{DomainTaken}
use Rattle.iw_ranges.specs.declared.Delivery.TheVariants.{Kept, Dropped}
use Rattle.iw_queues.specs.declared.request.Kind.TheVariants as kinds
use Rattle.iw_queues.specs.declared.request.Request.TheVariants.{Message as Posted, Read}
use Rattle.iw_queues.specs.Segments.{request_segment}
use Rattle.iw_fpdu.specs.Frame.{frame_octets}
use Rattle.iw_events.specs.declared.call.Options.{Options}
use Rattle.iw_startup.specs.declared.config.Establishment.TheVariants.{Plain}
use Rattle.iw_startup.specs.Frame.{request_key, reply_key}
use Rattle.iw_stream.specs.Starting.{plain}
use Rattle.iw_stream.specs.declared.answer.RecvRefusal.TheVariants.{Full}
use Rattle.iw_stream.specs.declared.answer.Role.{Role}
use Rattle.iw_stream.specs.declared.answer.Role.TheVariants.{Preset, Initiator, Responder}
use Rattle.iw_events.specs.declared.call.End.TheVariants.{A, B}
use Rattle.iw_events.specs.declared.act.Act.{Act}
use Rattle.iw_events.specs.declared.act.Act.TheVariants.{Domain, Register, Invalidate, Open, Stream}
use Rattle.iw_events.specs.declared.act.StreamAct.{StreamAct}
use Rattle.iw_events.specs.declared.act.StreamAct.TheVariants.{Recv, Post, Emit, First, Deliver, Raw, Mulpdu, Accept, Work, Break}
use Rattle.iw_events.specs.declared.act.Shown.TheVariants.{Frame, Fetched, Fault as Denied, Nothing}
use Rattle.iw_events.specs.declared.act.Seen.{Seen}
use Rattle.iw_events.specs.declared.act.Seen.TheVariants as seen
use Rattle.iw_events.specs.declared.act.Entry.{Entry}
use Rattle.iw_laws.specs.Words.{Octets}
use Rattle.iw_laws.specs.Turns.{Turns}
use Rattle.iw_laws.specs.Rest.{IdleOnlyAtRest}
use Rattle.iw_laws.specs.Merged.{response_segment}
use Rattle.iw_laws.specs.Faithful.{Faithful, Answering}
use Rattle.iw_laws.specs.Safe.{InOrder, Covered, Within}
use Rattle.iw_laws.specs.Isolated.{Isolated}
use Rattle.iw_laws.specs.Ends.{Ends}
use Rattle.iw_laws.specs.Sends.{Emission, Sized, Speaks, NothingOnlyAtRest, Finished, FewReads}
use Rattle.iw_laws.specs.Calls.{ShowsMemory, Answered, KeepsOctets, CarriesOctets, OpensFirst}

-- ---- entries

abbrev pub Run : Type 0
Run = List (Entry Octets)

abbrev pub a : Act Octets → Entry Octets
a act = record { end = A; act = act }

abbrev pub b : Act Octets → Entry Octets
b act = record { end = B; act = act }

-- neither markers nor CRCs, by revision 1
abbrev pub no_options : Options
no_options = record { markers = false; crc = false; establishment = Plain }

-- domain 1, and stream 0 in it so
abbrev pub opens : (Act Octets → Entry Octets) → Role → Run
opens at role = at (Domain 1 None) ∷ at (Open 0 1 role no_options [] None) ∷ []

abbrev pub on : StreamAct Octets → Act Octets
on act = Stream 0 act

abbrev pub raw : ℕ → Octets → Act Octets
raw number octets = on (Raw number octets Kept)

abbrev pub works : Seen Octets → Act Octets
works step = on (Work step)

abbrev pub stag : Stag
stag = record { domain = 1; slot = 0; key = 0 }

-- a region of one octet that may be written, under this STag
abbrev pub registers : Act Octets
registers = Register 1 0 (record { write = true; read = false; sink = false; invalidate = false }) (0 ∷ []) (Ok stag)

-- the frame of a Write of one octet to it
abbrev pub write_frame : Octets
write_frame = (0 ∷ 15 ∷ 0xc1 ∷ 0x40 ∷ 1 ∷ 0 ∷ 0 ∷ 0 ∷ []) ++ replicate 8 0 ++ (0xaa ∷ 0 ∷ 0 ∷ 0 ∷ 0 ∷ 0 ∷ 0 ∷ 0 ∷ [])

abbrev pub places : Seen Octets
places = seen.Placed rights.Write stag 0 (0xaa ∷ [])

-- a Send of one octet, and its frame
abbrev pub sends_one : Act Octets
sends_one = on (Post (Posted (messages.Send (0x68 ∷ []) false None)) None)

abbrev pub send_frame : Octets
send_frame = (0 ∷ 19 ∷ 0x41 ∷ 0x43 ∷ []) ++ replicate 11 0 ++ (1 ∷ 0 ∷ 0 ∷ 0 ∷ 0 ∷ 0x68 ∷ []) ++ replicate 7 0

abbrev pub emits : Octets → Act Octets
emits octets = on (Emit (Frame 0 octets))

-- ---- streams that were not opened

-- a stream has nothing to do that was never opened
abbrev pub idles_unopened : Run
idles_unopened = a (works seen.Idle) ∷ []

-- no octets are delivered from an end that has no such stream
abbrev pub delivers_nothing : Act Octets
delivers_nothing = on (Deliver 0 0 [] Kept)

abbrev pub delivers_unopened : Run
delivers_unopened = opens a Preset ++ (a delivers_nothing ∷ [])

abbrev pub RefusesActUnopened : Type 0
RefusesActUnopened = ¬ OpensFirst idles_unopened

abbrev pub RefusesDeliveryUnopened : Type 0
RefusesDeliveryUnopened = ¬ OpensFirst delivers_unopened

-- ---- frames after a fault, and before the stream is open

abbrev pub reads_past_fault : Run
reads_past_fault =
    opens b Preset
    ++ (b (raw 0 write_frame) ∷ b (works (seen.Fault faults.TAGGED_INVALID_STAG)) ∷ b registers ∷ b (works places) ∷ [])

-- the Request is read and not answered, and a frame after it is placed
abbrev pub reads_unopened : Run
reads_unopened =
    opens b Responder
    ++ (b registers ∷ b (raw 0 (request_key ++ (0 ∷ 1 ∷ 0 ∷ 0 ∷ []) ++ write_frame)) ∷ b (works (seen.Asked None [])) ∷ b (works places) ∷ [])

abbrev pub RefusesFramesBehindFault : Type 0
RefusesFramesBehindFault = ¬ Turns reads_past_fault

abbrev pub RefusesFramesUnopened : Type 0
RefusesFramesUnopened = ¬ Turns reads_unopened

-- ---- rest with a whole Reply

abbrev pub rests_with_reply : Run
rests_with_reply =
    opens a Initiator ++ (a (raw 0 (reply_key ++ (0 ∷ 1 ∷ 0 ∷ 0 ∷ []))) ∷ a (works seen.Idle) ∷ [])

abbrev pub RefusesRestWithReply : Type 0
RefusesRestWithReply = ¬ IdleOnlyAtRest rests_with_reply

-- ---- messages that are not finished, or too early, or as another kind

abbrev pub never_finished : Run
never_finished = opens a Preset ++ (a sends_one ∷ a (emits send_frame) ∷ a (works seen.Idle) ∷ [])

abbrev pub finished_unsent : Run
finished_unsent = opens a Preset ++ (a sends_one ∷ a (works (seen.Done kinds.Send)) ∷ [])

abbrev pub finished_as_write : Run
finished_as_write = opens a Preset ++ (a sends_one ∷ a (emits send_frame) ∷ a (works (seen.Done kinds.Write)) ∷ [])

abbrev pub RefusesNeverFinished : Type 0
RefusesNeverFinished = ¬ IdleOnlyAtRest never_finished

abbrev pub RefusesFinishedUnsent : Type 0
RefusesFinishedUnsent = ¬ Finished finished_unsent

abbrev pub RefusesFinishedAsWrite : Type 0
RefusesFinishedAsWrite = ¬ Finished finished_as_write

-- ---- a Send that nobody posted, one that is held back, and an empty frame

abbrev pub sends_unposted : Run
sends_unposted = opens a Preset ++ (a (emits send_frame) ∷ [])

abbrev pub emits_nothing : Act Octets
emits_nothing = on (Emit Nothing)

abbrev pub holds_back : Run
holds_back = opens a Preset ++ (a sends_one ∷ a emits_nothing ∷ [])

-- of an end that sends no start-up frame
abbrev pub sends_empty : Run
sends_empty = opens a Preset ++ (a sends_one ∷ a (emits []) ∷ [])

abbrev pub RefusesUnpostedSend : Type 0
RefusesUnpostedSend = ¬ Emission sends_unposted

abbrev pub RefusesHeldBack : Type 0
RefusesHeldBack = ¬ NothingOnlyAtRest holds_back

abbrev pub RefusesEmptyFrame : Type 0
RefusesEmptyFrame = ¬ Sized sends_empty

-- ---- a frame that is too large, one at another place, and one after the end

-- a Send of 204 octets in one frame of 228, where a ULPDU may have 128
abbrev pub sends_too_large : Run
sends_too_large =
    opens a Preset
    ++ (a (on (Mulpdu 128 None)) ∷ a (on (Post (Posted (messages.Send (replicate 204 0x22) false None)) None))
    ∷ a (emits ((0 ∷ 222 ∷ 0x41 ∷ 0x43 ∷ []) ++ replicate 11 0 ++ (1 ∷ 0 ∷ 0 ∷ 0 ∷ 0 ∷ []) ++ replicate 204 0x22 ++ replicate 4 0)) ∷ [])

-- a Write of two octets is cut, though they fit
abbrev pub cut_frame : Octets
cut_frame = (0 ∷ 15 ∷ 0x81 ∷ 0x40 ∷ 1 ∷ 0 ∷ 0 ∷ 0 ∷ []) ++ replicate 8 0 ++ (0xaa ∷ []) ++ replicate 7 0

abbrev pub cuts_short : Run
cuts_short = opens a Preset ++ (a (on (Post (Posted (messages.Write stag 0 (0xaa ∷ 0xbb ∷ []))) None)) ∷ a (emits cut_frame) ∷ [])

abbrev pub sends_elsewhere : Run
sends_elsewhere = opens a Preset ++ (a sends_one ∷ a (on (Emit (Frame 7 send_frame))) ∷ [])

abbrev pub sends_past_end : Run
sends_past_end =
    opens a Preset
    ++ (a sends_one ∷ a (raw 0 (replicate 8 0)) ∷ a (works (seen.Fault faults.SEGMENT_SHORT)) ∷ a (emits send_frame) ∷ [])

abbrev pub RefusesTooLarge : Type 0
RefusesTooLarge = ¬ Sized sends_too_large

abbrev pub RefusesCutShort : Type 0
RefusesCutShort = ¬ Sized cuts_short

abbrev pub RefusesElsewhere : Type 0
RefusesElsewhere = ¬ Sized sends_elsewhere

abbrev pub RefusesBehindEnd : Type 0
RefusesBehindEnd = ¬ Speaks sends_past_end

-- ---- other octets, octets that are kept after the end, and wrong answers

abbrev pub delivers_others : Run
delivers_others =
    opens a Preset ++ (a sends_one ∷ a (emits send_frame) ∷ []) ++ opens b Preset ++ (b (on (Deliver 0 0 (9 ∷ []) Kept)) ∷ [])

abbrev pub keeps_past_end : Run
keeps_past_end =
    opens b Preset ++ (b (raw 0 (replicate 8 0)) ∷ b (works (seen.Fault faults.SEGMENT_SHORT)) ∷ b (raw 8 (0 ∷ [])) ∷ [])

abbrev pub accepts_unasked : Run
accepts_unasked =
    opens b Responder
    ++ (b (on (Accept [] (Ok (record { send_markers = false; expect_markers = false; crc = false; ord = 16; rtr = None })))) ∷ [])

abbrev pub refuses_first_domain : Run
refuses_first_domain = b (Domain 1 (Some DomainTaken)) ∷ []

abbrev pub answers_stag_again : Run
answers_stag_again = b (Domain 1 None) ∷ b registers ∷ b registers ∷ []

abbrev pub RefusesOtherOctets : Type 0
RefusesOtherOctets = ¬ CarriesOctets delivers_others

abbrev pub RefusesKeptBehindEnd : Type 0
RefusesKeptBehindEnd = ¬ KeepsOctets keeps_past_end

abbrev pub RefusesUnaskedAccept : Type 0
RefusesUnaskedAccept = ¬ Answered accepts_unasked

abbrev pub RefusesWrongRefusal : Type 0
RefusesWrongRefusal = ¬ ShowsMemory refuses_first_domain

abbrev pub RefusesSameStag : Type 0
RefusesSameStag = ¬ ShowsMemory answers_stag_again

-- ---- Writes of an honest stream

-- a Write of one octet
abbrev pub writes_one : Act Octets
writes_one = on (Post (Posted (messages.Write stag 0 (0xaa ∷ []))) None)

-- it is placed twice
abbrev pub writes_twice : Run
writes_twice = opens a Preset ++ opens b Preset ++ (a writes_one ∷ b (works places) ∷ b (works places) ∷ [])

-- the Send past it is received, though it was not placed
abbrev pub receives_unwritten : Run
receives_unwritten = opens a Preset ++ opens b Preset ++ (a writes_one ∷ a sends_one ∷ b (works (seen.Received (0x68 ∷ []) false None)) ∷ [])

abbrev pub RefusesWriteTwice : Type 0
RefusesWriteTwice = ¬ Covered writes_twice

abbrev pub RefusesSendBeforeWrite : Type 0
RefusesSendBeforeWrite = ¬ Covered receives_unwritten

-- ---- octets that change where they may not

-- a Write is placed in a region that may only be read
abbrev pub places_readable : Run
places_readable =
    opens b Preset
    ++ (b (Register 1 0 (record { write = false; read = true; sink = false; invalidate = false }) (0 ∷ []) (Ok stag))
    ∷ b (raw 0 write_frame) ∷ b (works places) ∷ [])

-- an octet of a Send is placed past the end of its receive buffer
abbrev pub buffers_one : Act Octets
buffers_one = works (seen.Buffered 1 0 1)

abbrev pub buffers_past : Run
buffers_past = opens b Preset ++ (b (on (Recv 0 None)) ∷ b (raw 0 send_frame) ∷ b buffers_one ∷ [])

abbrev pub RefusesPlacedUnwritable : Type 0
RefusesPlacedUnwritable = ¬ Within places_readable

abbrev pub RefusesBufferedPast : Type 0
RefusesBufferedPast = ¬ Within buffers_past

-- ---- sequence numbers that wrap

-- the peer's first octet has a number six before the wrap
abbrev pub numbers_high : Act Octets
numbers_high = on (First 4294967290 None)

-- the first octet that the other end sent is handed in with another number
abbrev pub delivers_misnumbered : Act Octets
delivers_misnumbered = on (Deliver 0 0 (0 ∷ []) Kept)

abbrev pub misnumbers : Run
misnumbers =
    opens a Preset ++ (a sends_one ∷ a (emits send_frame) ∷ []) ++ opens b Preset ++ (b numbers_high ∷ b delivers_misnumbered ∷ [])

-- octets past the wrap are dropped, as if numbers did not wrap
abbrev pub drops_wrapped : Act Octets
drops_wrapped = on (Raw 22 (0 ∷ []) Dropped)

abbrev pub drops_past_wrap : Run
drops_past_wrap = opens b Preset ++ (b numbers_high ∷ b drops_wrapped ∷ [])

-- the frame of a Write that begins before the wrap is whole, and the stream has nothing to do
abbrev pub rests_past_wrap : Run
rests_past_wrap = opens b Preset ++ (b numbers_high ∷ b (raw 4294967290 write_frame) ∷ b (works seen.Idle) ∷ [])

-- the number of the first octet is set after a delivery
abbrev pub numbers_late : Run
numbers_late = opens b Preset ++ (b (raw 0 (0 ∷ [])) ∷ b numbers_high ∷ [])

abbrev pub RefusesMisnumbered : Type 0
RefusesMisnumbered = ¬ CarriesOctets misnumbers

abbrev pub RefusesDroppedPastWrap : Type 0
RefusesDroppedPastWrap = ¬ KeepsOctets drops_past_wrap

abbrev pub RefusesRestPastWrap : Type 0
RefusesRestPastWrap = ¬ IdleOnlyAtRest rests_past_wrap

abbrev pub RefusesLateNumber : Type 0
RefusesLateNumber = ¬ Answered numbers_late

-- ---- domains that see one another

-- two domains, each with a stream
abbrev pub opens_two : Run
opens_two = opens b Preset ++ (b (Domain 2 None) ∷ b (Open 1 2 Preset no_options [] None) ∷ [])

-- a region of the second domain, in a slot that is past the one of the first domain's region
abbrev pub registers_second : Act Octets
registers_second =
    Register 2 0 (record { write = true; read = false; sink = false; invalidate = false }) (0 ∷ [])
    (Ok (record { domain = 2; slot = 1; key = 0 }))

abbrev pub numbers_over_all : Run
numbers_over_all = opens_two ++ (b registers ∷ b registers_second ∷ [])

-- the second domain's stream is full where the first one's is
abbrev pub full_for_all : Run
full_for_all = opens_two ++ replicate 256 (b (on (Recv 1 None))) ++ (b (Stream 1 (Recv 1 (Some Full))) ∷ [])

abbrev pub RefusesNumberedOverAll : Type 0
RefusesNumberedOverAll = ¬ Isolated numbers_over_all

abbrev pub RefusesFullForAll : Type 0
RefusesFullForAll = ¬ Isolated full_for_all

-- ---- Reads

abbrev pub read_one : ReadRequest
read_one = record { sink = stag; sink_to = 0; size = 4; source = stag; source_to = 0 }

-- the frame of a Read's request
abbrev pub asking_frame : ReadRequest → Octets
asking_frame request = (0 ∷ 46 ∷ 0x41 ∷ 0x41 ∷ []) ++ replicate 7 0 ++ (1 ∷ []) ++ replicate 3 0 ++ (1 ∷ []) ++ replicate 4 0 ++ request_octets request ++ replicate 4 0

abbrev pub request_frame : Octets
request_frame = asking_frame read_one

-- octets that may be read, from tagged offset 0 on
abbrev pub lends : Octets → Act Octets
lends octets = Register 1 0 (record { write = false; read = true; sink = false; invalidate = false }) octets (Ok stag)

-- octets go out in a frame that stands here: those of the response to the Read from an offset on, though they stand there in the region
abbrev pub fetches : ReadRequest → ℕ → ℕ → Bool → ℕ → Octets → Act Octets
fetches request from offset last to octets =
    on (Emit (Fetched from (frame_octets plain from (segment_octets (response_segment request offset last octets))) stag to octets))

-- a Read of 119 octets, which go out in two frames, the second though the region was invalidated after the first
abbrev pub read_two : ReadRequest
read_two = record { sink = stag; sink_to = 0; size = 119; source = stag; source_to = 0 }

abbrev pub fetches_last : Act Octets
fetches_last = fetches read_two 136 114 true 114 (replicate 5 0x44)

abbrev pub fetches_invalid : Run
fetches_invalid =
    opens b Preset
    ++ (b (on (Mulpdu 128 None)) ∷ b (lends (replicate 119 0x44)) ∷ b (raw 0 (asking_frame read_two)) ∷ b (works (seen.Requested 119 stag 0))
    ∷ b (fetches read_two 0 0 false 0 (replicate 114 0x44)) ∷ b (Invalidate stag None) ∷ b fetches_last ∷ [])

abbrev pub RefusesFetchInvalid : Type 0
RefusesFetchInvalid = ¬ Faithful fetches_invalid

-- a Read is done as soon as its request is sent
abbrev pub asks_one : Run
asks_one = a (on (Post (Read read_one) None)) ∷ a (emits request_frame) ∷ []

abbrev pub reads_unanswered : Run
reads_unanswered = opens a Preset ++ asks_one ++ (a (works (seen.Done kinds.Read)) ∷ [])

abbrev pub RefusesReadUnanswered : Type 0
RefusesReadUnanswered = ¬ Finished reads_unanswered

-- the other four of eight octets that may be read go out for it
abbrev pub first_four : Octets
first_four = 0x0a ∷ 0x0b ∷ 0x0c ∷ 0x0d ∷ []

abbrev pub other_four : Octets
other_four = 0x1a ∷ 0x1b ∷ 0x1c ∷ 0x1d ∷ []

abbrev pub fetches_others : Act Octets
fetches_others = fetches read_one 0 0 true 4 other_four

abbrev pub fetches_elsewhere : Run
fetches_elsewhere =
    opens b Preset
    ++ (b (lends (first_four ++ other_four)) ∷ b (raw 0 request_frame) ∷ b (works (seen.Requested 4 stag 0)) ∷ b fetches_others ∷ [])

abbrev pub RefusesFetchElsewhere : Type 0
RefusesFetchElsewhere = ¬ Faithful fetches_elsewhere

-- the response to it goes out in a frame that is not shown as fetched, though the region was invalidated
abbrev pub emits_response : Act Octets
emits_response = emits (frame_octets plain 0 (segment_octets (response_segment read_one 0 true first_four)))

abbrev pub leaks_region : Run
leaks_region =
    opens b Preset
    ++ (b (lends first_four) ∷ b (raw 0 request_frame) ∷ b (works (seen.Requested 4 stag 0)) ∷ b (Invalidate stag None) ∷ b emits_response ∷ [])

abbrev pub RefusesUntoldResponse : Type 0
RefusesUntoldResponse = ¬ Faithful leaks_region

-- a Read of 119 octets is denied, though the first 114, which are due, may be read
abbrev pub denies_first : Act Octets
denies_first = on (Emit (Denied faults.PROTECTION_BOUNDS))

abbrev pub denies_readable : Run
denies_readable =
    opens b Preset
    ++ (b (on (Mulpdu 128 None)) ∷ b (lends (replicate 114 0x44)) ∷ b (raw 0 (asking_frame read_two)) ∷ b (works (seen.Requested 119 stag 0))
    ∷ b denies_first ∷ [])

abbrev pub RefusesDeniedReadable : Type 0
RefusesDeniedReadable = ¬ Faithful denies_readable

-- a region of eight octets for its response
abbrev pub sinks_eight : Act Octets
sinks_eight = Register 1 0 (record { write = false; read = false; sink = true; invalidate = false }) (replicate 8 0) (Ok stag)

-- five octets are placed for the Read of four
abbrev pub five : Octets
five = 0x0a ∷ 0x0b ∷ 0x0c ∷ 0x0d ∷ 0x0e ∷ []

abbrev pub long_response : Octets
long_response = (0 ∷ 19 ∷ 0xc1 ∷ 0x42 ∷ 1 ∷ 0 ∷ 0 ∷ 0 ∷ []) ++ replicate 8 0 ++ five ++ replicate 7 0

abbrev pub places_past : Run
places_past = opens a Preset ++ (a sinks_eight ∷ asks_one) ++ (a (raw 0 long_response) ∷ a (works (seen.Placed rights.Sink stag 0 five)) ∷ [])

abbrev pub RefusesPlacesPast : Type 0
RefusesPlacesPast = ¬ Turns places_past

-- its response ends with three
abbrev pub three : Octets
three = 0x0a ∷ 0x0b ∷ 0x0c ∷ []

abbrev pub short_response : Octets
short_response = (0 ∷ 17 ∷ 0xc1 ∷ 0x42 ∷ 1 ∷ 0 ∷ 0 ∷ 0 ∷ []) ++ replicate 8 0 ++ three ++ replicate 5 0

abbrev pub ends_early : Run
ends_early =
    opens a Preset
    ++ (a sinks_eight ∷ asks_one) ++ (a (raw 0 short_response) ∷ a (works (seen.Placed rights.Sink stag 0 three)) ∷ a (works seen.Passed) ∷ [])

abbrev pub RefusesEndsEarly : Type 0
RefusesEndsEarly = ¬ Turns ends_early

-- a Read is done though the frame that had its turn was a Write's
abbrev pub done_by_write : Run
done_by_write =
    opens a Preset
    ++ (a registers ∷ asks_one) ++ (a (raw 0 write_frame) ∷ a (works places) ∷ a (works seen.Passed) ∷ a (works (seen.Done kinds.Read)) ∷ [])

abbrev pub RefusesDoneByWrite : Type 0
RefusesDoneByWrite = ¬ Finished done_by_write

-- Reads that go out, so many others having gone before, each in a frame of 52 octets
unfoldable pub reads_out : ℕ → ℕ → Run
reads_out zero before = []
reads_out (suc n) before =
    a (on (Post (Read read_one) None))
    ∷ a (on (Emit (Frame (52 * before) (frame_octets plain (52 * before) (segment_octets (request_segment (before + 1) read_one))))))
    ∷ reads_out n (before + 1)

abbrev pub seventeen_reads : Run
seventeen_reads = opens a Preset ++ reads_out 17 0

abbrev pub RefusesSeventeenReads : Type 0
RefusesSeventeenReads = ¬ FewReads seventeen_reads

-- ---- Reads of an honest stream

-- octets are placed though nothing was fetched
abbrev pub sinks_unfetched : Run
sinks_unfetched = opens a Preset ++ opens b Preset ++ (a sinks_eight ∷ a (works (seen.Placed rights.Sink stag 0 (0xaa ∷ []))) ∷ [])

abbrev pub RefusesSinksUnfetched : Type 0
RefusesSinksUnfetched = ¬ Answering sinks_unfetched

-- a Read is done though nothing of its response was placed
abbrev pub done_unplaced : Run
done_unplaced =
    opens a Preset ++ asks_one
    ++ opens b Preset
    ++ (b (lends first_four) ∷ b (on (Deliver 0 0 request_frame Kept)) ∷ b (works (seen.Requested 4 stag 0)) ∷ b (fetches read_one 0 0 true 0 first_four) ∷ [])
    ++ (a (works (seen.Done kinds.Read)) ∷ [])

abbrev pub RefusesDoneUnplaced : Type 0
RefusesDoneUnplaced = ¬ Answering done_unplaced

-- a Read is done though the other end has answered none
abbrev pub done_unanswered : Run
done_unanswered = opens b Preset ++ opens a Preset ++ asks_one ++ (a (works (seen.Done kinds.Read)) ∷ [])

abbrev pub RefusesDoneUnanswered : Type 0
RefusesDoneUnanswered = ¬ Answering done_unanswered

-- ---- streams that end

abbrev pub breaks : Act Octets
breaks = on Break

-- the first Send has a fault, and the second is received
abbrev pub sends_other : Act Octets
sends_other = on (Post (Posted (messages.Send (0x69 ∷ []) false None)) None)

abbrev pub receives_other : Act Octets
receives_other = works (seen.Received (0x69 ∷ []) false None)

abbrev pub skips_faulted : Run
skips_faulted =
    opens a Preset ++ opens b Preset
    ++ (a sends_one ∷ a sends_other ∷ b (works (seen.Fault faults.UNTAGGED_TOO_LONG)) ∷ b receives_other ∷ [])

abbrev pub RefusesSkippedSend : Type 0
RefusesSkippedSend = ¬ InOrder skips_faulted

-- the frame of the Terminate for a segment that is shorter than its header goes out twice
abbrev pub terminate_frame : Octets
terminate_frame =
    (0 ∷ 22 ∷ 0x41 ∷ 0x47 ∷ []) ++ replicate 4 0 ++ (0 ∷ 0 ∷ 0 ∷ 2 ∷ 0 ∷ 0 ∷ 0 ∷ 1 ∷ []) ++ replicate 4 0 ++ (0x10 ∷ []) ++ replicate 7 0

abbrev pub terminates_again : Act Octets
terminates_again = on (Emit (Frame 28 terminate_frame))

abbrev pub terminates_twice : Run
terminates_twice =
    opens b Preset
    ++ (b (raw 0 (replicate 8 0)) ∷ b (works (seen.Fault faults.SEGMENT_SHORT)) ∷ b (emits terminate_frame) ∷ b terminates_again ∷ [])

abbrev pub RefusesSecondTerminate : Type 0
RefusesSecondTerminate = ¬ Ends terminates_twice

-- the link breaks, and a Send that was posted is forgotten
abbrev pub forgets_posted : Run
forgets_posted = opens a Preset ++ (a sends_one ∷ a breaks ∷ a (works seen.Idle) ∷ [])

abbrev pub RefusesForgottenMessage : Type 0
RefusesForgottenMessage = ¬ Ends forgets_posted

-- or given up, though it was sent to its end
abbrev pub gives_up_sent : Run
gives_up_sent = opens a Preset ++ (a sends_one ∷ a (emits send_frame) ∷ a breaks ∷ a (works (seen.Flushed kinds.Send)) ∷ [])

abbrev pub RefusesFinishedFlushed : Type 0
RefusesFinishedFlushed = ¬ Ends gives_up_sent

-- or its receive buffer is handed back before it
abbrev pub returns_buffer_first : Run
returns_buffer_first =
    opens a Preset ++ (a (on (Recv 1 None)) ∷ a sends_one ∷ a breaks ∷ a (works (seen.FlushedRecv (0 ∷ []))) ∷ [])

abbrev pub RefusesBufferFirst : Type 0
RefusesBufferFirst = ¬ Ends returns_buffer_first

-- a Send without octets takes an STag away, and a Write to it is placed
abbrev pub invalidating_frame : Octets
invalidating_frame = (0 ∷ 18 ∷ 0x41 ∷ 0x44 ∷ 1 ∷ []) ++ replicate 10 0 ++ (1 ∷ []) ++ replicate 8 0

abbrev pub lends_away : Act Octets
lends_away = Register 1 0 (record { write = true; read = false; sink = false; invalidate = true }) (0 ∷ []) (Ok stag)

abbrev pub places_invalidated : Run
places_invalidated =
    opens b Preset
    ++ (b lends_away ∷ b (on (Recv 0 None)) ∷ b (raw 0 (invalidating_frame ++ write_frame)) ∷ b (works (seen.Buffered 1 0 0))
    ∷ b (works (seen.Received [] false (Some stag))) ∷ b (works places) ∷ [])

abbrev pub RefusesPlacedInvalidated : Type 0
RefusesPlacedInvalidated = ¬ Turns places_invalidated
