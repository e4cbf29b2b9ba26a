-- The payload of the Terminate that a fault makes due: what comes of the segment that is found to have it (RFC 5040 4.8).
use Rattle.std.specs.Prelude.{ℕ, Bool, true, false, List, [], length, take, Result, Ok, Err}
use Rattle.iw_octets.specs.declared.fault.Fault.{Fault}
use Rattle.iw_rdmap.specs.declared.head.Head.{Head}
use Rattle.iw_rdmap.specs.Head.{is_request}
use Rattle.iw_rdmap.specs.Judging.{judged}
use Rattle.iw_rdmap.specs.Terminate.{terminate_octets}
use Rattle.iw_reads.specs.Requests.{Requested, oldest_headers}
use Rattle.iw_stream.specs.declared.landing.PlacedFrame.{PlacedFrame}
use Rattle.iw_stream.specs.Frames.{Frame}

-- the header passed its checks, and is a Read Request's
abbrev pub asks : Result Head Fault → Bool
asks (Err fault) = false
asks (Ok head) = is_request head

abbrev pub is_request_of : Requested → List ℕ → Bool
is_request_of asked ulpdu = asks (judged ulpdu (length ulpdu) asked.next (length asked.unanswered))

-- of a frame that was judged: its ULPDU's first octets, as they came
abbrev pub terminate_judged : Requested → Frame → Fault → List ℕ
terminate_judged asked frame fault = terminate_octets fault (take 46 frame.ulpdu) (length frame.ulpdu) (is_request_of asked frame.ulpdu)

-- of no frame
abbrev pub terminate_alone : Fault → List ℕ
terminate_alone fault = terminate_octets fault [] 0 false

-- of a frame that had its turn: what is kept of it
abbrev pub terminate_turned : PlacedFrame → Fault → List ℕ
terminate_turned frame fault = terminate_octets fault frame.header.items frame.len false

-- of the oldest Read Request, to which a part of the response was to be fetched
abbrev pub terminate_fetched : Requested → Fault → List ℕ
terminate_fetched asked fault = terminate_octets fault (oldest_headers asked) 46 true
