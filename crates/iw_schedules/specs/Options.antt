-- The options of a stream as a word: letters of `mcep` in this order, or `-` for none.
use Rattle.std.specs.Prelude.{◌≡◌, ℕ, ◌<◌, ◌==◌, Bool, true, false, not, List, ◌++◌, length, codes, Result, Ok, Err, if◌then◌else◌}
use Rattle.std.specs.Str.{bytes_eq}
use Rattle.iw_startup.specs.declared.config.Establishment.{Establishment}
use Rattle.iw_startup.specs.declared.config.Establishment.TheVariants.{Plain, Enhanced, PeerToPeer}
use Rattle.iw_startup.specs.Enhanced.{is_peer_to_peer}
use Rattle.iw_stream.specs.declared.answer.Role.{Role}
use Rattle.iw_stream.specs.declared.answer.Role.TheVariants.{Preset, Initiator, Responder}
use Rattle.iw_events.specs.declared.call.Options.{Options}
use Rattle.iw_schedules.specs.declared.fault.FaultName.{FaultName}
use Rattle.iw_schedules.specs.declared.fault.FaultName.TheVariants.{BadOctets}
use Rattle.iw_schedules.specs.Letters.{letter_if, letter_at}
use Rattle.iw_schedules.specs.Reading.{◌>>=◌}

abbrev pub no_options : Options
no_options = record { markers = false; crc = false; establishment = Plain }

-- by revision 2 of MPA
abbrev pub is_enhanced : Establishment → Bool
is_enhanced Plain = false
is_enhanced Enhanced = true
is_enhanced PeerToPeer = true

-- the peer-to-peer model is an initiator's to ask for
abbrev pub suits : Role → Establishment → Bool
suits role Plain = true
suits role Enhanced = true
suits Preset PeerToPeer = false
suits Initiator PeerToPeer = true
suits Responder PeerToPeer = false

-- ---- what they stand for in the grammar

abbrev pub option_letters : Options → List ℕ
option_letters options =
    letter_if options.markers 109 ++ letter_if options.crc 99 ++ letter_if (is_enhanced options.establishment) 101 ++ letter_if (is_peer_to_peer options.establishment) 112

pub data IsOptions : List ℕ → Options → Type 0 where
  none_asked : IsOptions (codes "-") no_options
  asked : {options : Options} → 0 < length (option_letters options) → IsOptions (option_letters options) options

-- those of a stream with this role
abbrev pub IsOptionsOf : Role → List ℕ → Options → Type 0
IsOptionsOf role word options = IsOptions word options × (suits role options.establishment ≡ true)

-- ---- how they are read

-- `p` stands behind `e` alone
abbrev pub established : Bool → Bool → Result Establishment FaultName
established false false = Ok Plain
established true false = Ok Enhanced
established true true = Ok PeerToPeer
established false true = Err BadOctets

unfoldable pub optional : List ℕ → Result Options FaultName
optional word =
    let m : Bool × List ℕ = letter_at 109 word in
    let c : Bool × List ℕ = letter_at 99 m.1 in
    let e : Bool × List ℕ = letter_at 101 c.1 in
    let p : Bool × List ℕ = letter_at 112 e.1 in
    if not (length p.1 == 0) then Err BadOctets
    else established e.0 p.0 >>= λ establishment. Ok (record { markers = m.0; crc = c.0; establishment = establishment })

abbrev pub options_word : List ℕ → Result Options FaultName
options_word word =
    if bytes_eq word (codes "-") then Ok no_options
    else if length word == 0 then Err BadOctets
    else optional word

unfoldable pub options_for : Role → List ℕ → Result Options FaultName
options_for role word = options_word word >>= λ options. if suits role options.establishment then Ok options else Err BadOctets
