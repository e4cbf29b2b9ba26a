-- A trace as text: a line for each entry.
use Rattle.std.specs.Prelude.{ℕ, ◌==◌, ◌&&◌, Bool, true, false, is_ok, List, [], ◌∷◌, ◌++◌, Option, Some, None, Result, Ok, Err, codes}
use Rattle.std.specs.Option.{option_map}
use Rattle.std.specs.List.{flat_map, list_any}
use Rattle.std.specs.Fmt.{decimal}
use Rattle.iw_octets.specs.declared.stag.Stag.{Stag}
use Rattle.iw_octets.specs.declared.message.Message.TheVariants as messages
use Rattle.iw_queues.specs.declared.request.Request.{Request}
use Rattle.iw_queues.specs.declared.request.Request.TheVariants as requests
use Rattle.iw_memory.specs.declared.refusal.RegisterRefusal.{RegisterRefusal}
use Rattle.iw_memory.specs.declared.refusal.NoRegion.{NoRegion}
use Rattle.iw_endpoint.specs.declared.refusal.TakeRefusal.{TakeRefusal}
use Rattle.iw_events.specs.declared.call.End.{End}
use Rattle.iw_events.specs.declared.call.End.TheVariants.{A, B}
use Rattle.iw_events.specs.declared.act.Seen.TheVariants as seen
use Rattle.iw_events.specs.declared.act.Act.{Act}
use Rattle.iw_events.specs.declared.act.Act.TheVariants.{Domain, Register, Deregister, Invalidate, Store, Open, Share, Pool, Unpool, OpenShared, Stream}
use Rattle.iw_events.specs.declared.act.StreamAct.{StreamAct}
use Rattle.iw_events.specs.declared.act.StreamAct.TheVariants.{Recv, Post, Emit, First, Deliver, Raw, Mulpdu, Accept, Reject, Work, Break}
use Rattle.iw_events.specs.declared.act.Entry.{Entry}
use Rattle.iw_schedules.specs.declared.words.CallWord.{CallWord}
use Rattle.iw_schedules.specs.declared.words.CallWord.TheVariants as named
use Rattle.iw_schedules.specs.Options.{is_enhanced}
use Rattle.iw_schedules.specs.Words.{end_text, call_text}
use Rattle.iw_schedules.specs.Answers.{Words, octets_text, stag_text, domain_refusal, register_refusal, no_region, store_refusal, open_refusal, share_refusal, pool_refusal, take_refusal, open_shared_refusal, recv_refusal, post_refusal, size_refusal, answer_refusal, refused, ok_or_refused, delivery_text, accepted_words, shown_words, seen_words, first_refusal}

abbrev pub registered : Result Stag RegisterRefusal → Words
registered (Ok stag) = stag_text stag ∷ []
registered (Err refusal) = refused (register_refusal refusal)

abbrev pub deregistered : Result (List ℕ) NoRegion → Words
deregistered (Ok octets) = codes "ok" ∷ octets_text octets ∷ []
deregistered (Err refusal) = refused no_region

-- the buffer that was taken out of a pool
abbrev pub unpooled : Result (Option (List ℕ)) TakeRefusal → Words
unpooled (Ok (Some octets)) = codes "ok" ∷ octets_text octets ∷ []
unpooled (Ok None) = codes "empty" ∷ []
unpooled (Err refusal) = refused (take_refusal refusal)

-- the word that posts a message or a Read
abbrev pub post_word : Request (List ℕ) → CallWord
post_word (requests.Message (messages.Write stag to octets)) = named.Write
post_word (requests.Message (messages.Send octets solicited invalidate)) = named.Send
post_word (requests.Read request) = named.Read

-- a call, and the stream or the domain that it names
abbrev pub call_on : CallWord → ℕ → Words
call_on call n = call_text call ∷ decimal n ∷ []

-- a call, and the STag that it names
abbrev pub call_of_stag : CallWord → Stag → Words
call_of_stag call stag = call_text call ∷ stag_text stag ∷ []

-- the word of a call on a stream
abbrev pub stream_word : StreamAct (List ℕ) → CallWord
stream_word (Recv len refusal) = named.Recv
stream_word (Post message refusal) = post_word message
stream_word (Emit shown) = named.Emit
stream_word (First number refusal) = named.First
stream_word (Deliver from number octets delivery) = named.Deliver
stream_word (Raw number octets delivery) = named.Raw
stream_word (Mulpdu size refusal) = named.Mulpdu
stream_word (Accept private answer) = named.Accept
stream_word (Reject private refusal) = named.Reject
stream_word (Work seen) = named.Work
stream_word Break = named.Break

-- on a stream that is opened for revision 2 of MPA (`true`) IRD and ORD are told
abbrev pub stream_answer : Bool → StreamAct (List ℕ) → Words
stream_answer enhanced (Recv len refusal) = ok_or_refused (option_map recv_refusal refusal)
stream_answer enhanced (Post message refusal) = ok_or_refused (option_map post_refusal refusal)
stream_answer enhanced (Emit shown) = shown_words shown
stream_answer enhanced (First number refusal) = ok_or_refused (option_map first_refusal refusal)
stream_answer enhanced (Deliver from number octets delivery) = delivery_text delivery ∷ []
stream_answer enhanced (Raw number octets delivery) = delivery_text delivery ∷ []
stream_answer enhanced (Mulpdu size refusal) = ok_or_refused (option_map size_refusal refusal)
stream_answer enhanced (Accept private answer) = accepted_words enhanced answer
stream_answer enhanced (Reject private refusal) = ok_or_refused (option_map answer_refusal refusal)
stream_answer enhanced (Work seen) = seen_words enhanced seen
stream_answer enhanced Break = codes "ok" ∷ []

abbrev pub stream_words : Bool → ℕ → StreamAct (List ℕ) → Words
stream_words enhanced stream act = call_text (stream_word act) ∷ decimal stream ∷ stream_answer enhanced act

-- a call with its answer, after the end
abbrev pub act_words : Bool → Act (List ℕ) → Words
act_words enhanced (Domain pd refusal) = call_text named.Domain ∷ decimal pd ∷ ok_or_refused (option_map domain_refusal refusal)
act_words enhanced (Register pd base rights octets answer) = call_text named.Register ∷ registered answer
act_words enhanced (Deregister stag answer) = call_text named.Deregister ∷ stag_text stag ∷ deregistered answer
act_words enhanced (Invalidate stag refusal) = call_text named.Invalidate ∷ stag_text stag ∷ ok_or_refused (option_map (λ missing. no_region) refusal)
act_words enhanced (Store stag to octets refusal) = call_text named.Store ∷ stag_text stag ∷ ok_or_refused (option_map store_refusal refusal)
act_words enhanced (Open stream pd role options private refusal) = call_text named.Open ∷ decimal stream ∷ ok_or_refused (option_map open_refusal refusal)
act_words enhanced (Share pd refusal) = call_text named.Share ∷ decimal pd ∷ ok_or_refused (option_map share_refusal refusal)
act_words enhanced (Pool pd len refusal) = call_text named.Pool ∷ decimal pd ∷ ok_or_refused (option_map pool_refusal refusal)
act_words enhanced (Unpool pd answer) = call_text named.Unpool ∷ decimal pd ∷ unpooled answer
act_words enhanced (OpenShared stream pd role options private refusal) = call_text named.OpenShared ∷ decimal stream ∷ ok_or_refused (option_map open_shared_refusal refusal)
act_words enhanced (Stream stream act) = stream_words enhanced stream act

-- words, with a space before each
abbrev pub spaced : Words → List ℕ
spaced words = flat_map (λ word. 32 ∷ word) words

-- ---- which streams are opened for revision 2

abbrev pub same_end : End → End → Bool
same_end A A = true
same_end B B = true
same_end A B = false
same_end B A = false

-- an act that opens the stream of this number so
abbrev pub opens_enhanced : ℕ → Act (List ℕ) → Bool
opens_enhanced n (Open stream pd role options private None) = (stream == n) && is_enhanced options.establishment
opens_enhanced n (OpenShared stream pd role options private None) = (stream == n) && is_enhanced options.establishment
opens_enhanced n (Open stream pd role options private (Some refusal)) = false
opens_enhanced n (OpenShared stream pd role options private (Some refusal)) = false
opens_enhanced n (Domain pd refusal) = false
opens_enhanced n (Register pd base rights octets answer) = false
opens_enhanced n (Deregister stag answer) = false
opens_enhanced n (Invalidate stag refusal) = false
opens_enhanced n (Store stag to octets refusal) = false
opens_enhanced n (Share pd refusal) = false
opens_enhanced n (Pool pd len refusal) = false
opens_enhanced n (Unpool pd answer) = false
opens_enhanced n (Stream stream act) = false

-- the stream of this number at this end was opened so by one of these entries
unfoldable pub was_opened_enhanced : End → ℕ → List (Entry (List ℕ)) → Bool
was_opened_enhanced end n before = list_any (λ entry. same_end entry.end end && opens_enhanced n entry.act) before

-- an answer to which that makes a difference: what the peer's start-up frame has told, or what was agreed
abbrev pub tells_depths : StreamAct (List ℕ) → Bool
tells_depths (Accept private answer) = is_ok answer
tells_depths (Work (seen.Asked told private)) = true
tells_depths (Work (seen.Opened agreed told private)) = true
tells_depths (Work (seen.Done kind)) = false
tells_depths (Work (seen.Flushed kind)) = false
tells_depths (Work (seen.FlushedRecv octets)) = false
tells_depths (Work (seen.Closed fault)) = false
tells_depths (Work (seen.Placed right stag to octets)) = false
tells_depths (Work (seen.Buffered msn mo len)) = false
tells_depths (Work (seen.Requested size stag to)) = false
tells_depths (Work (seen.Tried place)) = false
tells_depths (Work seen.Passed) = false
tells_depths (Work (seen.Received octets solicited invalidate)) = false
tells_depths (Work (seen.Terminated fault)) = false
tells_depths (Work (seen.Fault fault)) = false
tells_depths (Work seen.Idle) = false
tells_depths (Recv len refusal) = false
tells_depths (Post message refusal) = false
tells_depths (Emit shown) = false
tells_depths (First number refusal) = false
tells_depths (Deliver from number octets delivery) = false
tells_depths (Raw number octets delivery) = false
tells_depths (Mulpdu size refusal) = false
tells_depths (Reject private refusal) = false
tells_depths Break = false

-- so an entry behind these shows IRD and ORD
abbrev pub shows_depths : List (Entry (List ℕ)) → End → Act (List ℕ) → Bool
shows_depths before end (Stream stream act) = tells_depths act && was_opened_enhanced end stream before
shows_depths before end (Domain pd refusal) = false
shows_depths before end (Register pd base rights octets answer) = false
shows_depths before end (Deregister stag answer) = false
shows_depths before end (Invalidate stag refusal) = false
shows_depths before end (Store stag to octets refusal) = false
shows_depths before end (Open stream pd role options private refusal) = false
shows_depths before end (Share pd refusal) = false
shows_depths before end (Pool pd len refusal) = false
shows_depths before end (Unpool pd answer) = false
shows_depths before end (OpenShared stream pd role options private refusal) = false

-- ---- lines

unfoldable pub entry_text : List (Entry (List ℕ)) → Entry (List ℕ) → List ℕ
entry_text before entry = end_text entry.end ++ (spaced (act_words (shows_depths before entry.end entry.act) entry.act) ++ 10 ∷ [])

-- of entries that come behind others
unfoldable pub texts_behind : List (Entry (List ℕ)) → List (Entry (List ℕ)) → List ℕ
texts_behind before [] = []
texts_behind before (entry ∷ entries) = entry_text before entry ++ texts_behind (before ++ entry ∷ []) entries

abbrev pub trace_text : List (Entry (List ℕ)) → List ℕ
trace_text trace = texts_behind [] trace
