-- The event of an entry.
use Rattle.std.specs.Prelude.{List, length}
use Rattle.iw_events.specs.declared.call.Call.{Call}
use Rattle.iw_events.specs.declared.call.Call.TheVariants as calls
use Rattle.iw_events.specs.declared.call.StreamCall.{StreamCall}
use Rattle.iw_events.specs.declared.call.StreamCall.TheVariants as stream_calls
use Rattle.iw_events.specs.declared.call.Event.{Event}
use Rattle.iw_events.specs.declared.act.Act.{Act}
use Rattle.iw_events.specs.declared.act.Act.TheVariants.{Domain, Register, Deregister, Invalidate, Store, Open, Share, Pool, Unpool, OpenShared, Stream}
use Rattle.iw_events.specs.declared.act.StreamAct.{StreamAct}
use Rattle.iw_events.specs.declared.act.StreamAct.TheVariants.{Recv, Post, Emit, First, Deliver, Raw, Mulpdu, Accept, Reject, Work, Break}
use Rattle.iw_events.specs.declared.act.Entry.{Entry}
use Rattle.std.specs.Prelude.{ℕ}

abbrev pub stream_call_of : StreamAct (List ℕ) → StreamCall (List ℕ)
stream_call_of (Recv len refused) = stream_calls.Recv len
stream_call_of (Post message refused) = stream_calls.Post message
stream_call_of (Emit shown) = stream_calls.Emit
stream_call_of (First number refused) = stream_calls.First number
stream_call_of (Deliver from number octets delivery) = stream_calls.Deliver from (length octets)
stream_call_of (Raw number octets delivery) = stream_calls.Raw number octets
stream_call_of (Mulpdu size refused) = stream_calls.Mulpdu size
stream_call_of (Accept private answer) = stream_calls.Accept private
stream_call_of (Reject private refused) = stream_calls.Reject private
stream_call_of (Work seen) = stream_calls.Work
stream_call_of Break = stream_calls.Break

-- the call of an act
abbrev pub call_of : Act (List ℕ) → Call (List ℕ)
call_of (Domain pd refused) = calls.Domain pd
call_of (Register pd base rights octets answer) = calls.Register pd base rights octets
call_of (Deregister stag answer) = calls.Deregister stag
call_of (Invalidate stag refused) = calls.Invalidate stag
call_of (Store stag to octets refused) = calls.Store stag to octets
call_of (Open stream pd role options private refused) = calls.Open stream pd role options private
call_of (Share pd refused) = calls.Share pd
call_of (Pool pd len refused) = calls.Pool pd len
call_of (Unpool pd answer) = calls.Unpool pd
call_of (OpenShared stream pd role options private refused) = calls.OpenShared stream pd role options private
call_of (Stream stream act) = calls.Stream stream (stream_call_of act)

abbrev pub event_of : Entry (List ℕ) → Event (List ℕ)
event_of e = record { end = e.end; call = call_of e.act }
