-- Worked lines, computed.
use Rattle.std.proofs.Common.{refl}
use Rattle.std.specs.Fmt.{digits}
use Rattle.hex.specs.Hex.{decode_pairs, encode_with}
use Rattle.iw_schedules.specs.Pieces.{pieces}
use Rattle.iw_schedules.specs.Kinds.{number_word, stag_word, hex_word, octets_word, private_word}
use Rattle.iw_schedules.specs.Words.{call_word}
use Rattle.iw_schedules.specs.Options.{optional, options_for}
use Rattle.iw_schedules.specs.Calls.{open_at, send_at, break_at, calls_at}
use Rattle.iw_schedules.specs.Schedule.{events_of, with_line, with_lines, schedule_of}
use Rattle.iw_schedules.specs.Trace.{was_opened_enhanced, entry_text}
use Rattle.iw_schedules.specs.Known.{KnownLines}

pub known : KnownLines
unfolding schedule_of with_lines with_line events_of calls_at open_at send_at break_at optional options_for call_word number_word stag_word hex_word octets_word private_word pieces was_opened_enhanced entry_text decode_pairs encode_with digits
known = record {
  link_break = refl;
  plain = refl;
  solicited = refl;
  invalidating = refl;
  both = refl;
  no_kind = refl;
  needless_stag = refl;
  missing_stag = refl;
  enhanced = refl;
  peer_to_peer = refl;
  p_alone = refl;
  p_of_responder = refl;
  broken = refl;
  flushed = refl;
  flushed_recv = refl;
  terminated = refl;
  received = refl;
  received_plain = refl;
  asked = refl;
  asked_by_word = refl;
  asked_without = refl;
  accepted = refl;
  opened = refl;
}
