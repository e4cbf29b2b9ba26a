-- The fixed words of schedules and traces.
use Rattle.std.specs.Prelude.{ℕ, List, [], ◌∷◌, codes, Result, Ok, Err, if◌then◌else◌}
use Rattle.std.specs.Str.{bytes_eq}
use Rattle.iw_events.specs.declared.call.End.{End}
use Rattle.iw_events.specs.declared.call.End.TheVariants.{A, B}
use Rattle.iw_stream.specs.declared.answer.Role.{Role}
use Rattle.iw_stream.specs.declared.answer.Role.TheVariants.{Preset, Initiator, Responder}
use Rattle.iw_schedules.specs.declared.fault.FaultName.{FaultName}
use Rattle.iw_schedules.specs.declared.fault.FaultName.TheVariants.{BadWord}
use Rattle.iw_schedules.specs.declared.words.CallWord.{CallWord}
use Rattle.iw_schedules.specs.declared.words.CallWord.TheVariants.{Domain, Register, Deregister, Invalidate, Store, Open, Share, Pool, Unpool, OpenShared, Accept, Reject, Recv, Send, Write, Read, Emit, Work, Deliver, Raw, First, Mulpdu, Break}

-- the one of these that has this text
abbrev pub one_of : {X : Type 0} → (X → List ℕ) → List X → List ℕ → Result X FaultName
one_of text [] word = Err BadWord
one_of text (x ∷ xs) word = if bytes_eq word (text x) then Ok x else one_of text xs word

abbrev pub end_text : End → List ℕ
end_text A = codes "a"
end_text B = codes "b"

abbrev pub ends : List End
ends = A ∷ B ∷ []

abbrev pub end_word : List ℕ → Result End FaultName
end_word word = one_of end_text ends word

abbrev pub role_text : Role → List ℕ
role_text Preset = codes "preset"
role_text Initiator = codes "initiator"
role_text Responder = codes "responder"

abbrev pub roles : List Role
roles = Preset ∷ Initiator ∷ Responder ∷ []

abbrev pub role_word : List ℕ → Result Role FaultName
role_word word = one_of role_text roles word

-- the word that names a call
abbrev pub call_text : CallWord → List ℕ
call_text Domain = codes "domain"
call_text Register = codes "register"
call_text Deregister = codes "deregister"
call_text Invalidate = codes "invalidate"
call_text Store = codes "store"
call_text Open = codes "open"
call_text Share = codes "share"
call_text Pool = codes "pool"
call_text Unpool = codes "unpool"
call_text OpenShared = codes "openshared"
call_text Accept = codes "accept"
call_text Reject = codes "reject"
call_text Recv = codes "recv"
call_text Send = codes "send"
call_text Write = codes "write"
call_text Read = codes "read"
call_text Emit = codes "emit"
call_text Work = codes "work"
call_text Deliver = codes "deliver"
call_text Raw = codes "raw"
call_text First = codes "first"
call_text Mulpdu = codes "mulpdu"
call_text Break = codes "break"

abbrev pub call_words : List CallWord
call_words = Domain ∷ Register ∷ Deregister ∷ Invalidate ∷ Store ∷ Open ∷ Share ∷ Pool ∷ Unpool ∷ OpenShared ∷ Accept ∷ Reject ∷ Recv ∷ Send ∷ Write ∷ Read ∷ Emit ∷ Work ∷ Deliver ∷ Raw ∷ First ∷ Mulpdu ∷ Break ∷ []

unfoldable pub call_word : List ℕ → Result CallWord FaultName
call_word word = one_of call_text call_words word
