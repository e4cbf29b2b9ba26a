-- The parts of the response to a Read: what segment carries each, and where its octets are fetched from.
use Rattle.std.specs.Prelude.{ℕ, ◌+◌, ◌-◌, ◌%◌, ◌^◌, Bool, List, map, Option}
use Rattle.iw_octets.specs.declared.constants.TheConstants.{DDP_VERSION, TAGGED_HEADER}
use Rattle.iw_octets.specs.declared.fault.Fault.{Fault}
use Rattle.iw_octets.specs.declared.head.TaggedHead.{TaggedHead}
use Rattle.iw_octets.specs.declared.operation.TaggedOperation.TheVariants.{ReadResponse}
use Rattle.iw_octets.specs.declared.part.Part.{Part}
use Rattle.iw_octets.specs.declared.payload.ReadRequest.{ReadRequest}
use Rattle.iw_octets.specs.Operation.{control_of, tagged_opcode}
use Rattle.iw_octets.specs.Parts.{parts}
use Rattle.iw_memory.specs.declared.peer.Peer.{Peer}
use Rattle.iw_memory.specs.Table.{Table, octets_at}
use Rattle.iw_reads.specs.declared.response.ResponsePart.{ResponsePart}
use Rattle.iw_reads.specs.Source.{reading_fault}

-- the header of a segment of the response whose octets begin `offset` octets into what was asked for: it names the sink
-- (RFC 5040 4.5, 5.2.2)
abbrev pub response_head : ReadRequest → ℕ → Bool → TaggedHead
response_head request offset last = record {
  last = last;
  ddp_version = DDP_VERSION;
  control = control_of (tagged_opcode ReadResponse);
  stag = request.sink;
  to = (request.sink_to + offset) % 2 ^ 64;
}

-- a part of what was asked for, with its header and its place in the source
abbrev pub part_of_response : ReadRequest → Part → ResponsePart
part_of_response request part = record {
  head = response_head request part.offset part.last;
  stag = request.source;
  to = request.source_to + part.offset;
  n = part.n;
}

-- all parts of a response, if a ULPDU may have `max` octets: it is cut as any message is
abbrev pub response_parts : ReadRequest → ℕ → List ResponsePart
response_parts request max = map (part_of_response request) (parts request.size (max - TAGGED_HEADER))

-- the first check that the part's octets fail, if this peer reads them; none if the part has no octets
abbrev pub fetch_fault : Table → Peer → ResponsePart → Option Fault
fetch_fault table peer part = reading_fault table peer part.stag part.to part.n

-- its octets, as they stand in the source
abbrev pub fetched_octets : Table → ResponsePart → List ℕ
fetched_octets table part = octets_at table part.stag part.to part.n
