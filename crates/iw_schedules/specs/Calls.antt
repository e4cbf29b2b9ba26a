-- The words of a line, taken one after the other: which events the line stands for.
use Rattle.std.specs.Prelude.{ℕ, ◌-◌, ◌^◌, List, [], ◌∷◌, replicate, Result, Ok, Err}
use Rattle.iw_octets.specs.declared.stag.Stag.{Stag}
use Rattle.iw_octets.specs.declared.payload.ReadRequest.{ReadRequest}
use Rattle.iw_octets.specs.declared.message.Message.TheVariants as messages
use Rattle.iw_queues.specs.declared.request.Request.{Request}
use Rattle.iw_queues.specs.declared.request.Request.TheVariants as requests
use Rattle.iw_events.specs.declared.call.Call.{Call}
use Rattle.iw_events.specs.declared.call.Call.TheVariants.{Domain, Register, Deregister, Invalidate, Store, Open, Share, Pool, Unpool, OpenShared, Stream}
use Rattle.iw_events.specs.declared.call.StreamCall.{StreamCall}
use Rattle.iw_events.specs.declared.call.StreamCall.TheVariants.{Recv, Post, Emit, First, Deliver, Raw, Mulpdu, Accept, Reject, Work, Break}
use Rattle.iw_schedules.specs.declared.fault.FaultName.{FaultName}
use Rattle.iw_schedules.specs.declared.fault.FaultName.TheVariants.{BadWord}
use Rattle.iw_schedules.specs.declared.kinds.TheConstants.{MAX_WORD_OCTETS}
use Rattle.iw_schedules.specs.declared.words.CallWord.{CallWord}
use Rattle.iw_schedules.specs.declared.words.CallWord.TheVariants as named
use Rattle.iw_schedules.specs.declared.calls.Calls.{Calls}
use Rattle.iw_schedules.specs.declared.calls.Calls.TheVariants.{One, Many}
use Rattle.iw_schedules.specs.declared.calls.Step.{Step}
use Rattle.iw_schedules.specs.declared.calls.Step.TheVariants as steps
use Rattle.iw_schedules.specs.Reading.{◌>>=◌}
use Rattle.iw_schedules.specs.Kinds.{number_word, times_word, stag_word, octets_word, private_word}
use Rattle.iw_schedules.specs.SendKind.{kind_word, is_solicited, invalidated_word}
use Rattle.iw_schedules.specs.Rights.{rights_word}
use Rattle.iw_schedules.specs.Options.{options_for}
use Rattle.iw_schedules.specs.Words.{role_word, call_word}

-- a value, and the words after it
abbrev pub Taken : Type 0 → Type 0
Taken X = Result (X × List (List ℕ)) FaultName

-- a missing word is a BadWord
abbrev pub next_word : List (List ℕ) → Taken (List ℕ)
next_word [] = Err BadWord
next_word (word ∷ words) = Ok (word, words)

-- the next word, which is of this kind
abbrev pub field : {X : Type 0} → (List ℕ → Result X FaultName) → List (List ℕ) → Taken X
field kind words = next_word words >>= λ next. kind next.0 >>= λ x. Ok (x, next.1)

abbrev pub octet_number : List ℕ → Result ℕ FaultName
octet_number word = number_word 255 word

abbrev pub long_number : List ℕ → Result ℕ FaultName
long_number word = number_word (2 ^ 64 - 1) word

abbrev pub short_number : List ℕ → Result ℕ FaultName
short_number word = number_word (2 ^ 32 - 1) word

-- how often; once if the word is missing
abbrev pub times_at : List (List ℕ) → Taken ℕ
times_at [] = Ok (1, [])
times_at (word ∷ words) = times_word word >>= λ n. Ok (n, words)

abbrev pub one : Call (List ℕ) → List (Call (List ℕ))
one call = call ∷ []

-- what is posted on a stream
abbrev pub posted : ℕ → Request (List ℕ) → List (Call (List ℕ))
posted stream request = one (Stream stream (Post request))

-- a Read of `size` octets, from the source to the sink
abbrev pub read_of : Stag → ℕ → ℕ → Stag → ℕ → ReadRequest
read_of sink sink_to size source source_to =
    record { sink = sink; sink_to = sink_to; size = size; source = source; source_to = source_to }

unfoldable pub domain_at : List (List ℕ) → Taken (List (Call (List ℕ)))
domain_at words = do
  pd ← field octet_number words
  Ok (one (Domain pd.0), pd.1)

unfoldable pub register_at : List (List ℕ) → Taken (List (Call (List ℕ)))
register_at words = do
  pd ← field octet_number words
  base ← field long_number pd.1
  rights ← field rights_word base.1
  octets ← field octets_word rights.1
  Ok (one (Register pd.0 base.0 rights.0 octets.0), octets.1)

unfoldable pub deregister_at : List (List ℕ) → Taken (List (Call (List ℕ)))
deregister_at words = do
  stag ← field stag_word words
  Ok (one (Deregister stag.0), stag.1)

unfoldable pub invalidate_at : List (List ℕ) → Taken (List (Call (List ℕ)))
invalidate_at words = do
  stag ← field stag_word words
  Ok (one (Invalidate stag.0), stag.1)

unfoldable pub store_at : List (List ℕ) → Taken (List (Call (List ℕ)))
store_at words = do
  stag ← field stag_word words
  to ← field long_number stag.1
  octets ← field octets_word to.1
  Ok (one (Store stag.0 to.0 octets.0), octets.1)

unfoldable pub open_at : List (List ℕ) → Taken (List (Call (List ℕ)))
open_at words = do
  stream ← field octet_number words
  pd ← field octet_number stream.1
  role ← field role_word pd.1
  options ← field (options_for role.0) role.1
  private ← field private_word options.1
  Ok (one (Open stream.0 pd.0 role.0 options.0 private.0), private.1)

unfoldable pub share_at : List (List ℕ) → Taken (List (Call (List ℕ)))
share_at words = do
  pd ← field octet_number words
  Ok (one (Share pd.0), pd.1)

unfoldable pub pool_at : List (List ℕ) → Taken (List (Call (List ℕ)))
pool_at words = do
  pd ← field octet_number words
  len ← field (number_word MAX_WORD_OCTETS) pd.1
  Ok (one (Pool pd.0 len.0), len.1)

unfoldable pub unpool_at : List (List ℕ) → Taken (List (Call (List ℕ)))
unpool_at words = do
  pd ← field octet_number words
  Ok (one (Unpool pd.0), pd.1)

unfoldable pub open_shared_at : List (List ℕ) → Taken (List (Call (List ℕ)))
open_shared_at words = do
  stream ← field octet_number words
  pd ← field octet_number stream.1
  role ← field role_word pd.1
  options ← field (options_for role.0) role.1
  private ← field private_word options.1
  Ok (one (OpenShared stream.0 pd.0 role.0 options.0 private.0), private.1)

unfoldable pub accept_at : List (List ℕ) → Taken (List (Call (List ℕ)))
accept_at words = do
  stream ← field octet_number words
  private ← field private_word stream.1
  Ok (one (Stream stream.0 (Accept private.0)), private.1)

unfoldable pub reject_at : List (List ℕ) → Taken (List (Call (List ℕ)))
reject_at words = do
  stream ← field octet_number words
  private ← field private_word stream.1
  Ok (one (Stream stream.0 (Reject private.0)), private.1)

unfoldable pub recv_at : List (List ℕ) → Taken (List (Call (List ℕ)))
recv_at words = do
  stream ← field octet_number words
  len ← field (number_word MAX_WORD_OCTETS) stream.1
  Ok (one (Stream stream.0 (Recv len.0)), len.1)

unfoldable pub send_at : List (List ℕ) → Taken (List (Call (List ℕ)))
send_at words = do
  stream ← field octet_number words
  kind ← field kind_word stream.1
  stag ← field (invalidated_word kind.0) kind.1
  octets ← field octets_word stag.1
  Ok (posted stream.0 (requests.Message (messages.Send octets.0 (is_solicited kind.0) stag.0)), octets.1)

unfoldable pub write_at : List (List ℕ) → Taken (List (Call (List ℕ)))
write_at words = do
  stream ← field octet_number words
  stag ← field stag_word stream.1
  to ← field long_number stag.1
  octets ← field octets_word to.1
  Ok (posted stream.0 (requests.Message (messages.Write stag.0 to.0 octets.0)), octets.1)

-- where the octets of a Read go, how many they are, and where they are taken from
unfoldable pub read_at : List (List ℕ) → Taken (List (Call (List ℕ)))
read_at words = do
  stream ← field octet_number words
  sink ← field stag_word stream.1
  sink_to ← field long_number sink.1
  size ← field short_number sink_to.1
  source ← field stag_word size.1
  source_to ← field long_number source.1
  Ok (posted stream.0 (requests.Read (read_of sink.0 sink_to.0 size.0 source.0 source_to.0)), source_to.1)

abbrev pub step_call : Step → StreamCall (List ℕ)
step_call steps.Emit = Emit
step_call steps.Work = Work

-- equal calls, as often as the line says
unfoldable pub steps_at : Step → List (List ℕ) → Taken (List (Call (List ℕ)))
steps_at step words = do
  stream ← field octet_number words
  times ← times_at stream.1
  Ok (replicate times.0 (Stream stream.0 (step_call step)), times.1)

unfoldable pub deliver_at : List (List ℕ) → Taken (List (Call (List ℕ)))
deliver_at words = do
  stream ← field octet_number words
  from ← field long_number stream.1
  len ← field long_number from.1
  Ok (one (Stream stream.0 (Deliver from.0 len.0)), len.1)

unfoldable pub raw_at : List (List ℕ) → Taken (List (Call (List ℕ)))
raw_at words = do
  stream ← field octet_number words
  number ← field short_number stream.1
  octets ← field octets_word number.1
  Ok (one (Stream stream.0 (Raw number.0 octets.0)), octets.1)

unfoldable pub first_at : List (List ℕ) → Taken (List (Call (List ℕ)))
first_at words = do
  stream ← field octet_number words
  number ← field short_number stream.1
  Ok (one (Stream stream.0 (First number.0)), number.1)

unfoldable pub mulpdu_at : List (List ℕ) → Taken (List (Call (List ℕ)))
mulpdu_at words = do
  stream ← field octet_number words
  size ← field short_number stream.1
  Ok (one (Stream stream.0 (Mulpdu size.0)), size.1)

unfoldable pub break_at : List (List ℕ) → Taken (List (Call (List ℕ)))
break_at words = do
  stream ← field octet_number words
  Ok (one (Stream stream.0 Break), stream.1)

-- what follows each word that names a call
abbrev pub beyond : CallWord → List (List ℕ) → Taken (List (Call (List ℕ)))
beyond named.Domain words = domain_at words
beyond named.Register words = register_at words
beyond named.Deregister words = deregister_at words
beyond named.Invalidate words = invalidate_at words
beyond named.Store words = store_at words
beyond named.Open words = open_at words
beyond named.Share words = share_at words
beyond named.Pool words = pool_at words
beyond named.Unpool words = unpool_at words
beyond named.OpenShared words = open_shared_at words
beyond named.Accept words = accept_at words
beyond named.Reject words = reject_at words
beyond named.Recv words = recv_at words
beyond named.Send words = send_at words
beyond named.Write words = write_at words
beyond named.Read words = read_at words
beyond named.Emit words = steps_at steps.Emit words
beyond named.Work words = steps_at steps.Work words
beyond named.Deliver words = deliver_at words
beyond named.Raw words = raw_at words
beyond named.First words = first_at words
beyond named.Mulpdu words = mulpdu_at words
beyond named.Break words = break_at words

unfoldable pub calls_at : List (List ℕ) → Taken (List (Call (List ℕ)))
calls_at words = do
  name ← field call_word words
  beyond name.0 name.1

abbrev pub calls_of : Calls (List ℕ) → List (Call (List ℕ))
calls_of (One call) = one call
calls_of (Many stream step times) = replicate times (Stream stream (step_call step))
