-- How long frames are.
use Rattle.std.proofs.Common.{◌≡◌, ℕ, ◌+◌, ◌-◌, ◌≤◌, Bool, List, [], length, take, drop, ap, ◌∙◌, arith}
use Rattle.std.proofs.lemmas.List.{length-take, length-drop}
use Rattle.iw_octets.specs.declared.message.Message.TheVariants.{Write, Send}
use Rattle.iw_octets.specs.declared.segment.Segment.{Segment}
use Rattle.iw_octets.specs.Segment.{segment_octets}
use Rattle.iw_octets.specs.Payload.{request_octets}
use Rattle.iw_octets.proofs.Segments.{length-segment_octets_tagged, length-segment_octets_untagged}
use Rattle.iw_octets.proofs.Spelled.{length-request_octets}
use Rattle.iw_fpdu.specs.Frame.{frame_end}
use Rattle.iw_fpdu.proofs.Sequences.{length_written}
use Rattle.iw_queues.specs.declared.request.Request.{Request}
use Rattle.iw_queues.specs.declared.request.Request.TheVariants.{Message, Read}
use Rattle.iw_queues.specs.Request.{payload}
use Rattle.iw_queues.specs.Segments.{Numbers, segment_with}
use Rattle.iw_startup.specs.declared.enhanced.Rtr.{Rtr}
use Rattle.iw_startup.specs.declared.enhanced.Rtr.TheVariants as rtrs
use Rattle.iw_stream.specs.Rtr.{rtr_message, rtr_request, rtr_segment}
use Rattle.iw_stream.specs.Starting.{sending, first_place_out}
use Rattle.iw_stream.specs.Stream.{StreamState, frame_of}

pub length-frame_of : (s : StreamState) (segment : Segment (List ℕ))
    → length (frame_of s segment) ≡ frame_end (sending s.start).markers (s.sent - first_place_out s.start) (length (segment_octets segment)) - (s.sent - first_place_out s.start)
length-frame_of s segment = length_written (sending s.start) (s.sent - first_place_out s.start) (segment_octets segment)

-- the ULPDU that carries n octets of a message
abbrev pub carried : Request (List ℕ) → ℕ → ℕ
carried (Message (Write stag to octets)) n = 14 + n
carried (Message (Send octets solicited invalidate)) n = 18 + n
carried (Read request) n = 46

cut_long : (octets : List ℕ) (offset n : ℕ) → offset + n ≤ length octets → length (take n (drop offset octets)) ≡ n
cut_long octets offset n within = omega (arith, length-take n (drop offset octets), length-drop offset octets, within)

pub length-carried : (numbers : Numbers) (m : Request (List ℕ)) (offset n : ℕ) (last : Bool) → offset + n ≤ length (payload m)
    → length (segment_octets (segment_with numbers m offset last (take n (drop offset (payload m))))) ≡ carried m n
length-carried numbers (Message (Write stag to octets)) offset n last within =
    length-segment_octets_tagged _ (take n (drop offset octets)) ∙ ap (λ k. 14 + k) (cut_long octets offset n within)
length-carried numbers (Message (Send octets solicited invalidate)) offset n last within =
    length-segment_octets_untagged _ (take n (drop offset octets)) ∙ ap (λ k. 18 + k) (cut_long octets offset n within)
length-carried numbers (Read request) offset n last within = length-segment_octets_untagged _ (request_octets request) ∙ ap (λ k. 18 + k) (length-request_octets request)

pub length-rtr : (numbers : Numbers) (rtr : Rtr) → length (segment_octets (rtr_segment numbers rtr)) ≡ carried (rtr_message rtr) 0
length-rtr numbers rtrs.Write = length-segment_octets_tagged _ []
length-rtr numbers rtrs.Read = length-segment_octets_untagged _ (request_octets rtr_request) ∙ ap (λ k. 18 + k) (length-request_octets rtr_request)
