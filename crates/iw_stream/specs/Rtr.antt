-- The RTR: the first message of an initiator in the peer-to-peer model, a Write or a Read of no octets (RFC 6581 9.2).
use Rattle.std.specs.Prelude.{true, List, [], ℕ}
use Rattle.iw_octets.specs.declared.message.Message.TheVariants as messages
use Rattle.iw_octets.specs.declared.payload.ReadRequest.{ReadRequest}
use Rattle.iw_octets.specs.declared.segment.Segment.{Segment}
use Rattle.iw_octets.specs.declared.stag.Stag.{Stag}
use Rattle.iw_queues.specs.declared.request.Request.{Request}
use Rattle.iw_queues.specs.declared.request.Request.TheVariants as requests
use Rattle.iw_queues.specs.Segments.{Numbers, segment_with}
use Rattle.iw_startup.specs.declared.enhanced.Rtr.{Rtr}
use Rattle.iw_startup.specs.declared.enhanced.Rtr.TheVariants.{Write, Read}

-- STag 1: no octets are placed or fetched, so that it need not be valid
abbrev pub rtr_stag : Stag
rtr_stag = record { domain = 0; slot = 0; key = 1 }

abbrev pub rtr_request : ReadRequest
rtr_request = record { sink = rtr_stag; sink_to = 0; size = 0; source = rtr_stag; source_to = 0 }

abbrev pub rtr_message : Rtr → Request (List ℕ)
rtr_message Write = requests.Message (messages.Write rtr_stag 0 [])
rtr_message Read = requests.Read rtr_request

-- its segment, if the next messages have these numbers
abbrev pub rtr_segment : Numbers → Rtr → Segment (List ℕ)
rtr_segment numbers rtr = segment_with numbers (rtr_message rtr) 0 true []
