-- The event of a server's entry.
use Rattle.std.specs.Prelude.{ℕ, List, Option, Some, None}
use Rattle.std.specs.Option.{option_map}
use Rattle.iw_events.specs.Events.{call_of, stream_call_of}
use Rattle.iw_events.specs.declared.server.ServerCall.{ServerCall}
use Rattle.iw_events.specs.declared.server.ServerCall.TheVariants as calls
use Rattle.iw_events.specs.declared.server.ServerEvent.{ServerEvent}
use Rattle.iw_events.specs.declared.server.ServerAct.{ServerAct}
use Rattle.iw_events.specs.declared.server.ServerAct.TheVariants.{Plain, Stream, OpenNext, OpenSharedNext, Read, ReadRaw, RegisterFor, Close}
use Rattle.iw_events.specs.declared.server.ServerEntry.{ServerEntry}

-- the call of an act; a read has none
abbrev pub server_call_of : ServerAct (List ℕ) → Option (ServerCall (List ℕ))
server_call_of (Plain act) = Some (calls.Plain (call_of act))
server_call_of (Stream stream act) = Some (calls.Stream stream (stream_call_of act))
server_call_of (OpenNext pd role options private answer) = Some (calls.OpenNext pd role options private)
server_call_of (OpenSharedNext pd role options private answer) = Some (calls.OpenSharedNext pd role options private)
server_call_of (Read stream from number octets delivery) = None
server_call_of (ReadRaw stream number octets delivery) = None
server_call_of (RegisterFor stream base rights octets answer) = Some (calls.RegisterFor stream base rights octets)
server_call_of (Close stream refused) = Some (calls.Close stream)

abbrev pub server_event_of : ServerEntry (List ℕ) → Option (ServerEvent (List ℕ))
server_event_of e = option_map (λ call. record { end = e.end; call = call }) (server_call_of e.act)
