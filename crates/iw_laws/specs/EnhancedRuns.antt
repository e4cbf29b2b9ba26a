-- Runs of streams by revision 2 of MPA that no two ends make, each of which breaks one law.
use Rattle.std.specs.Prelude.{ℕ, Bool, true, false, [], ◌∷◌, ◌++◌, replicate, Some, None, Ok}
use Rattle.iw_queues.specs.declared.request.Request.TheVariants.{Read}
use Rattle.iw_startup.specs.declared.config.Agreed.{Agreed}
use Rattle.iw_startup.specs.declared.config.Establishment.TheVariants.{Enhanced, PeerToPeer}
use Rattle.iw_startup.specs.declared.enhanced.EnhancedData.{EnhancedData}
use Rattle.iw_startup.specs.declared.enhanced.Rtr.{Rtr}
use Rattle.iw_startup.specs.declared.enhanced.Rtr.TheVariants as rtrs
use Rattle.iw_startup.specs.Frame.{request_key, reply_key}
use Rattle.iw_octets.specs.Segment.{segment_octets}
use Rattle.iw_fpdu.specs.Frame.{frame_octets}
use Rattle.iw_queues.specs.declared.request.Kind.TheVariants as kinds
use Rattle.iw_queues.specs.Segments.{first_numbers, request_segment}
use Rattle.iw_stream.specs.Rtr.{rtr_stag, rtr_request, rtr_segment}
use Rattle.iw_stream.specs.Starting.{plain}
use Rattle.iw_stream.specs.declared.answer.Role.{Role}
use Rattle.iw_stream.specs.declared.answer.Role.TheVariants.{Initiator, Responder}
use Rattle.iw_stream.specs.declared.answer.TheConstants.{INSUFFICIENT_IRD}
use Rattle.iw_events.specs.declared.call.Options.{Options}
use Rattle.iw_events.specs.declared.act.Act.{Act}
use Rattle.iw_events.specs.declared.act.Act.TheVariants.{Domain, Open}
use Rattle.iw_events.specs.declared.act.StreamAct.TheVariants.{Post, Emit, Accept}
use Rattle.iw_events.specs.declared.act.Shown.TheVariants.{Frame, Fetched}
use Rattle.iw_events.specs.declared.act.Seen.TheVariants as seen
use Rattle.iw_events.specs.declared.act.Entry.{Entry}
use Rattle.iw_laws.specs.Words.{Octets}
use Rattle.iw_laws.specs.Turns.{Turns}
use Rattle.iw_laws.specs.Merged.{response_segment}
use Rattle.iw_laws.specs.Sends.{Emission, Speaks, NothingOnlyAtRest, Finished, FewReads}
use Rattle.iw_laws.specs.Calls.{ShowsMemory, Answered}
use Rattle.iw_laws.specs.WrongRuns.{Run, a, b, on, raw, works, no_options, read_one, request_frame, sends_one, send_frame, emits, emits_nothing}

-- neither markers nor CRCs, by revision 2
abbrev pub asks_enhanced : Options
asks_enhanced = record no_options { establishment = Enhanced }

abbrev pub opens_enhanced : (Act Octets → Entry Octets) → Role → Run
opens_enhanced at role = at (Domain 1 None) ∷ at (Open 0 1 role asks_enhanced [] None) ∷ []

-- a start-up frame whose word has this IRD and ORD, both below 256
abbrev pub frame_with : Octets → ℕ → ℕ → Octets
frame_with key ird ord = key ++ (0x10 ∷ 2 ∷ 0 ∷ 4 ∷ 0 ∷ ird ∷ 0 ∷ ord ∷ [])

abbrev pub word_of : ℕ → ℕ → EnhancedData
word_of ird ord = record { ird = ird; ord = ord; peer_to_peer = false; rtr_send = false; rtr_write = false; rtr_read = false }

abbrev pub agreed_on : ℕ → Agreed
agreed_on ord = record { send_markers = false; expect_markers = false; crc = false; ord = ord; rtr = None }

-- the Reply has come
abbrev pub replied : ℕ → ℕ → Run
replied ird ord = opens_enhanced a Initiator ++ (a (raw 0 (frame_with reply_key ird ord)) ∷ [])

abbrev pub sees_opened : ℕ → ℕ → Act Octets
sees_opened ird ord = works (seen.Opened (agreed_on ird) (Some (word_of ird ord)) [])

-- ---- Reads that the peer does not take

-- the Reply's IRD is 0, and a Read is posted, and goes out
abbrev pub posts_read : Act Octets
posts_read = on (Post (Read read_one) None)

abbrev pub posts_unread : Run
posts_unread = replied 0 16 ++ (a (sees_opened 0 16) ∷ a posts_read ∷ [])

abbrev pub reads_past_ord : Run
reads_past_ord = posts_unread ++ (a (on (Emit (Frame 24 request_frame))) ∷ [])

abbrev pub RefusesReadPosted : Type 0
RefusesReadPosted = ¬ Answered posts_unread

abbrev pub RefusesReadPastOrd : Type 0
RefusesReadPastOrd = ¬ FewReads reads_past_ord

-- ---- Replies that want too much, or do not

-- its ORD is 17, and the stream is open
abbrev pub opens_unfit : Run
opens_unfit = replied 16 17 ++ (a (sees_opened 16 17) ∷ [])

-- its ORD is 16, and the stream ends by a fault
abbrev pub ends_fit : Act Octets
ends_fit = works (seen.Fault INSUFFICIENT_IRD)

abbrev pub faults_fit : Run
faults_fit = replied 16 16 ++ (a ends_fit ∷ [])

abbrev pub RefusesOpenedUnfit : Type 0
RefusesOpenedUnfit = ¬ Turns opens_unfit

abbrev pub RefusesFaultFit : Type 0
RefusesFaultFit = ¬ Turns faults_fit

-- ---- words that are not shown, and private data that has no room beside them

abbrev pub asks_hidden : Act Octets
asks_hidden = works (seen.Asked None [])

abbrev pub hides_word : Run
hides_word = opens_enhanced b Responder ++ (b (raw 0 (frame_with request_key 16 16)) ∷ b asks_hidden ∷ [])

-- an answer with 509 octets, and a Request with as many
abbrev pub accepts : Act Octets
accepts = on (Accept (replicate 509 0) (Ok (agreed_on 16)))

abbrev pub accepts_long : Run
accepts_long =
    opens_enhanced b Responder ++ (b (raw 0 (frame_with request_key 16 16)) ∷ b (works (seen.Asked (Some (word_of 16 16)) [])) ∷ b accepts ∷ [])

abbrev pub opens_with : Act Octets
opens_with = Open 0 1 Initiator asks_enhanced (replicate 509 0) None

abbrev pub opens_long : Run
opens_long = a (Domain 1 None) ∷ a opens_with ∷ []

abbrev pub RefusesHiddenWord : Type 0
RefusesHiddenWord = ¬ Turns hides_word

abbrev pub RefusesLongAnswer : Type 0
RefusesLongAnswer = ¬ Answered accepts_long

abbrev pub RefusesLongRequest : Type 0
RefusesLongRequest = ¬ ShowsMemory opens_long

-- ---- the RTR

abbrev pub asks_peer : Options
asks_peer = record no_options { establishment = PeerToPeer }

-- a start-up frame that asks for the peer-to-peer model, whose word has an IRD and an ORD of 16, and these two flags
abbrev pub frame_of_peer : Octets → ℕ → Octets
frame_of_peer key flags = key ++ (0x10 ∷ 2 ∷ 0 ∷ 4 ∷ 0x80 ∷ 16 ∷ flags ∷ 16 ∷ [])

abbrev pub word_of_peer : Bool → Bool → EnhancedData
word_of_peer write read = record { ird = 16; ord = 16; peer_to_peer = true; rtr_send = false; rtr_write = write; rtr_read = read }

abbrev pub agreed_with : Rtr → Agreed
agreed_with rtr = record (agreed_on 16) { rtr = Some rtr }

-- the Request went out, and the Reply has come
abbrev pub opens_peer : ℕ → EnhancedData → Rtr → Run
opens_peer flags word rtr =
    a (Domain 1 None) ∷ a (Open 0 1 Initiator asks_peer [] None) ∷ a (emits (frame_of_peer request_key 0xc0))
    ∷ a (raw 0 (frame_of_peer reply_key flags)) ∷ a (works (seen.Opened (agreed_with rtr) (Some word) [])) ∷ []

-- an RTR that is a Write is due, or one that is a Read
abbrev pub owes_write : Run
owes_write = opens_peer 0x80 (word_of_peer true false) rtrs.Write

abbrev pub owes_read : Run
owes_read = opens_peer 0x40 (word_of_peer false true) rtrs.Read

-- a Send goes out before it
abbrev pub overtakes_rtr : Run
overtakes_rtr = owes_write ++ (a sends_one ∷ a (on (Emit (Frame 24 send_frame))) ∷ [])

-- so does a response
abbrev pub responds_first : Act Octets
responds_first = on (Emit (Fetched 24 (frame_octets plain 0 (segment_octets (response_segment rtr_request 0 true []))) rtr_stag 0 []))

abbrev pub responds_before_rtr : Run
responds_before_rtr = owes_write ++ (a responds_first ∷ [])

-- nothing goes out
abbrev pub withholds_rtr : Run
withholds_rtr = owes_write ++ (a emits_nothing ∷ [])

-- a Read that was posted is done when the RTR, which is one too, was answered
abbrev pub emits_rtr : Act Octets
emits_rtr = on (Emit (Frame 24 (frame_octets plain 0 (segment_octets (rtr_segment first_numbers rtrs.Read)))))

abbrev pub emits_request : Act Octets
emits_request = on (Emit (Frame 76 (frame_octets plain 52 (segment_octets (request_segment 2 read_one)))))

abbrev pub answers_rtr : Act Octets
answers_rtr = raw 24 (frame_octets plain 0 (segment_octets (response_segment rtr_request 0 true [])))

abbrev pub done_by_rtr : Run
done_by_rtr =
    owes_read ++ (a emits_rtr ∷ a posts_read ∷ a emits_request ∷ a answers_rtr ∷ a (works seen.Passed) ∷ a (works (seen.Done kinds.Read)) ∷ [])

abbrev pub RefusesRtrOvertaken : Type 0
RefusesRtrOvertaken = ¬ Emission overtakes_rtr

abbrev pub RefusesResponseBeforeRtr : Type 0
RefusesResponseBeforeRtr = ¬ Speaks responds_before_rtr

abbrev pub RefusesRtrWithheld : Type 0
RefusesRtrWithheld = ¬ NothingOnlyAtRest withholds_rtr

abbrev pub RefusesDoneByRtr : Type 0
RefusesDoneByRtr = ¬ Finished done_by_rtr
