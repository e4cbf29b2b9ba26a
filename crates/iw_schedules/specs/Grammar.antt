-- The grammar of schedules, apart from how they are read: which texts stand for which events.
use Rattle.std.specs.Prelude.{◌≡◌, ℕ, ◌+◌, ◌*◌, ◌-◌, ◌^◌, ◌<◌, ◌≤◌, Bool, true, false, List, [], ◌∷◌, ◌++◌, length, map, replicate, Option, Some, None, Ok, Err, codes}
use Rattle.std.specs.List.{repeat}
use Rattle.std.specs.Str.Parse.{digits_value}
use Rattle.hex.specs.Hex.{decode_of}
use Rattle.iw_octets.specs.declared.constants.TheConstants.{MAX_PRIVATE}
use Rattle.iw_octets.specs.declared.stag.Stag.{Stag}
use Rattle.iw_octets.specs.Stag.{stag_at}
use Rattle.iw_octets.specs.declared.message.Message.TheVariants as messages
use Rattle.iw_queues.specs.declared.request.Request.TheVariants as requests
use Rattle.iw_memory.specs.declared.rights.Rights.{Rights}
use Rattle.iw_events.specs.declared.call.End.{End}
use Rattle.iw_stream.specs.declared.answer.Role.{Role}
use Rattle.iw_events.specs.declared.call.Options.{Options}
use Rattle.iw_events.specs.declared.call.Call.{Call}
use Rattle.iw_events.specs.declared.call.Call.TheVariants.{Domain, Register, Deregister, Invalidate, Store, Open, Share, Pool, Unpool, OpenShared, Stream}
use Rattle.iw_events.specs.declared.call.StreamCall.TheVariants.{Recv, Emit, First, Deliver, Raw, Mulpdu, Accept, Reject, Work, Break}
use Rattle.iw_schedules.specs.declared.fault.FaultName.{FaultName}
use Rattle.iw_schedules.specs.declared.fault.ScheduleFault.{ScheduleFault}
use Rattle.iw_schedules.specs.declared.fault.ScheduleFault.TheVariants.{Line, NoMemory}
use Rattle.iw_schedules.specs.declared.kinds.TheConstants.{MAX_WORD_OCTETS, MAX_TIMES}
use Rattle.iw_schedules.specs.declared.schedule.TheConstants.{MAX_EVENTS}
use Rattle.iw_schedules.specs.Pieces.{lines, words}
use Rattle.iw_schedules.specs.Kinds.{is_decimal}
use Rattle.iw_schedules.specs.Rights.{IsRights}
use Rattle.iw_schedules.specs.Options.{IsOptionsOf}
use Rattle.iw_schedules.specs.Words.{end_text, role_text}
use Rattle.iw_schedules.specs.Calls.{one, posted, read_of}
use Rattle.iw_schedules.specs.Schedule.{Events, is_skipped, event_at, with_line}

abbrev pub Word : Type 0
Word = List ℕ

-- ---- kinds of words

-- decimal digits that write a number of at most `most`; leading zeros are allowed
pub record IsNumber (most : ℕ) (word : Word) (n : ℕ) : Type 0 where
  pub digits : is_decimal word ≡ true
  pub value : digits_value 10 word ≡ n
  pub bound : n ≤ most

-- the number of a domain or a stream
abbrev pub IsOctetNumber : Word → ℕ → Type 0
IsOctetNumber word n = IsNumber 255 word n

abbrev pub IsLongNumber : Word → ℕ → Type 0
IsLongNumber word n = IsNumber (2 ^ 64 - 1) word n

-- the size of a Read or of a ULPDU, or a sequence number
abbrev pub IsShortNumber : Word → ℕ → Type 0
IsShortNumber word n = IsNumber (2 ^ 32 - 1) word n

-- how often an event happens
pub record IsTimes (word : Word) (n : ℕ) : Type 0 where
  pub number : IsNumber MAX_TIMES word n
  pub some : 0 < n

-- hexadecimal digits, two for each of these octets, of either case
pub record IsHex (word : Word) (octets : List ℕ) : Type 0 where
  pub digits : decode_of word ≡ Ok octets
  pub some : 0 < length octets

pub record IsStag (word : Word) (stag : Stag) : Type 0 where
  pub octets : List ℕ
  pub digits : IsHex word octets
  pub four : length octets ≡ 4
  pub value : stag_at octets 0 ≡ stag

pub data IsOctets : Word → List ℕ → Type 0 where
  none : IsOctets (codes "-") []
  once : {word : Word} {octets : List ℕ} → IsHex word octets → length octets ≤ MAX_WORD_OCTETS → IsOctets word octets
  repeated : {word count : Word} {octets : List ℕ} {n : ℕ} → IsHex word octets → IsNumber MAX_WORD_OCTETS count n → n * length octets ≤ MAX_WORD_OCTETS → IsOctets (word ++ 42 ∷ count) (repeat n octets)

pub record IsPrivate (word : Word) (octets : List ℕ) : Type 0 where
  pub digits : IsOctets word octets
  pub few : length octets ≤ MAX_PRIVATE

-- the kind of a Send and the word after it: whether the Send is solicited, and the STag that it invalidates
pub data IsKind : Word → Word → Bool → Option Stag → Type 0 where
  plain : IsKind (codes "plain") (codes "-") false None
  solicited : IsKind (codes "solicited") (codes "-") true None
  invalidating : {word : Word} {stag : Stag} → IsStag word stag → IsKind (codes "invalidate") word false (Some stag)
  both : {word : Word} {stag : Stag} → IsStag word stag → IsKind (codes "both") word true (Some stag)

-- ---- lines

-- which calls these words stand for
pub data IsCall : List Word → List (Call (List ℕ)) → Type 0 where
  domain : {a : Word} {pd : ℕ} → IsOctetNumber a pd → IsCall (codes "domain" ∷ a ∷ []) (one (Domain pd))
  register : {a b c d : Word} {pd base : ℕ} {rights : Rights} {octets : List ℕ} → IsOctetNumber a pd → IsLongNumber b base → IsRights c rights → IsOctets d octets
      → IsCall (codes "register" ∷ a ∷ b ∷ c ∷ d ∷ []) (one (Register pd base rights octets))
  deregister : {a : Word} {stag : Stag} → IsStag a stag → IsCall (codes "deregister" ∷ a ∷ []) (one (Deregister stag))
  invalidate : {a : Word} {stag : Stag} → IsStag a stag → IsCall (codes "invalidate" ∷ a ∷ []) (one (Invalidate stag))
  store : {a b c : Word} {stag : Stag} {to : ℕ} {octets : List ℕ} → IsStag a stag → IsLongNumber b to → IsOctets c octets
      → IsCall (codes "store" ∷ a ∷ b ∷ c ∷ []) (one (Store stag to octets))
  opening : {a b d e : Word} {stream pd : ℕ} {role : Role} {options : Options} {private : List ℕ} → IsOctetNumber a stream → IsOctetNumber b pd → IsOptionsOf role d options → IsPrivate e private
      → IsCall (codes "open" ∷ a ∷ b ∷ role_text role ∷ d ∷ e ∷ []) (one (Open stream pd role options private))
  share : {a : Word} {pd : ℕ} → IsOctetNumber a pd → IsCall (codes "share" ∷ a ∷ []) (one (Share pd))
  pool : {a b : Word} {pd len : ℕ} → IsOctetNumber a pd → IsNumber MAX_WORD_OCTETS b len → IsCall (codes "pool" ∷ a ∷ b ∷ []) (one (Pool pd len))
  unpool : {a : Word} {pd : ℕ} → IsOctetNumber a pd → IsCall (codes "unpool" ∷ a ∷ []) (one (Unpool pd))
  opening_shared : {a b d e : Word} {stream pd : ℕ} {role : Role} {options : Options} {private : List ℕ} → IsOctetNumber a stream → IsOctetNumber b pd → IsOptionsOf role d options → IsPrivate e private
      → IsCall (codes "openshared" ∷ a ∷ b ∷ role_text role ∷ d ∷ e ∷ []) (one (OpenShared stream pd role options private))
  accept : {a b : Word} {stream : ℕ} {private : List ℕ} → IsOctetNumber a stream → IsPrivate b private → IsCall (codes "accept" ∷ a ∷ b ∷ []) (one (Stream stream (Accept private)))
  reject : {a b : Word} {stream : ℕ} {private : List ℕ} → IsOctetNumber a stream → IsPrivate b private → IsCall (codes "reject" ∷ a ∷ b ∷ []) (one (Stream stream (Reject private)))
  recv : {a b : Word} {stream len : ℕ} → IsOctetNumber a stream → IsNumber MAX_WORD_OCTETS b len → IsCall (codes "recv" ∷ a ∷ b ∷ []) (one (Stream stream (Recv len)))
  send : {a b c d : Word} {stream : ℕ} {solicited : Bool} {invalidate : Option Stag} {octets : List ℕ} → IsOctetNumber a stream → IsKind b c solicited invalidate → IsOctets d octets
      → IsCall (codes "send" ∷ a ∷ b ∷ c ∷ d ∷ []) (posted stream (requests.Message (messages.Send octets solicited invalidate)))
  write : {a b c d : Word} {stream to : ℕ} {stag : Stag} {octets : List ℕ} → IsOctetNumber a stream → IsStag b stag → IsLongNumber c to → IsOctets d octets
      → IsCall (codes "write" ∷ a ∷ b ∷ c ∷ d ∷ []) (posted stream (requests.Message (messages.Write stag to octets)))
  read : {a b c d e f : Word} {stream sink_to size source_to : ℕ} {sink source : Stag}
      → IsOctetNumber a stream → IsStag b sink → IsLongNumber c sink_to → IsShortNumber d size → IsStag e source
      → IsLongNumber f source_to
      → IsCall (codes "read" ∷ a ∷ b ∷ c ∷ d ∷ e ∷ f ∷ []) (posted stream (requests.Read (read_of sink sink_to size source source_to)))
  emit : {a : Word} {stream : ℕ} → IsOctetNumber a stream → IsCall (codes "emit" ∷ a ∷ []) (one (Stream stream Emit))
  emit_times : {a b : Word} {stream n : ℕ} → IsOctetNumber a stream → IsTimes b n → IsCall (codes "emit" ∷ a ∷ b ∷ []) (replicate n (Stream stream Emit))
  work : {a : Word} {stream : ℕ} → IsOctetNumber a stream → IsCall (codes "work" ∷ a ∷ []) (one (Stream stream Work))
  work_times : {a b : Word} {stream n : ℕ} → IsOctetNumber a stream → IsTimes b n → IsCall (codes "work" ∷ a ∷ b ∷ []) (replicate n (Stream stream Work))
  deliver : {a b c : Word} {stream from len : ℕ} → IsOctetNumber a stream → IsLongNumber b from → IsLongNumber c len
      → IsCall (codes "deliver" ∷ a ∷ b ∷ c ∷ []) (one (Stream stream (Deliver from len)))
  raw : {a b c : Word} {stream number : ℕ} {octets : List ℕ} → IsOctetNumber a stream → IsShortNumber b number → IsOctets c octets
      → IsCall (codes "raw" ∷ a ∷ b ∷ c ∷ []) (one (Stream stream (Raw number octets)))
  first : {a b : Word} {stream number : ℕ} → IsOctetNumber a stream → IsShortNumber b number → IsCall (codes "first" ∷ a ∷ b ∷ []) (one (Stream stream (First number)))
  mulpdu : {a b : Word} {stream size : ℕ} → IsOctetNumber a stream → IsShortNumber b size → IsCall (codes "mulpdu" ∷ a ∷ b ∷ []) (one (Stream stream (Mulpdu size)))
  breaking : {a : Word} {stream : ℕ} → IsOctetNumber a stream → IsCall (codes "break" ∷ a ∷ []) (one (Stream stream Break))

-- an end, and calls at it
pub record IsLine (line : List ℕ) (events : Events) : Type 0 where
  pub end : End
  pub others : List Word
  pub calls : List (Call (List ℕ))
  pub words_are : words line ≡ end_text end ∷ others
  pub call : IsCall others calls
  pub events_are : map (event_at end) calls ≡ events

-- lines and their events, in order; skipped lines have none
pub data AreLines : List (List ℕ) → Events → Type 0 where
  no_lines : AreLines [] []
  skipped : {line : List ℕ} {others : List (List ℕ)} {events : Events} → is_skipped line ≡ true → AreLines others events → AreLines (line ∷ others) events
  spoken : {line : List ℕ} {others : List (List ℕ)} {events more : Events} → IsLine line events → AreLines others more → AreLines (line ∷ others) (events ++ more)

pub record IsSchedule (text : List ℕ) (events : Events) : Type 0 where
  pub each : AreLines (lines text) events
  pub few : length events ≤ MAX_EVENTS

-- ---- faults

-- the first line with a fault: the lines before it stand for events, and with it they do not
pub record IsFirstFault (text : List ℕ) (number : ℕ) (name : FaultName) : Type 0 where
  pub good : List (List ℕ)
  pub bad : List ℕ
  pub beyond : List (List ℕ)
  pub events : Events
  pub lines_are : lines text ≡ good ++ bad ∷ beyond
  pub number_is : length good + 1 ≡ number
  pub each : AreLines good events
  pub few : length events ≤ MAX_EVENTS
  pub fault : with_line events bad ≡ Err name

abbrev pub FirstFault : List ℕ → ScheduleFault → Type 0
FirstFault text (Line number name) = IsFirstFault text number name
FirstFault text NoMemory = Unit {0}
