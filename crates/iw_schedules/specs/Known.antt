-- Lines written by hand: what a line of a schedule stands for, and how an entry of a trace is printed.
use Rattle.std.specs.Prelude.{◌≡◌, ℕ, Bool, true, false, List, [], ◌∷◌, ◌++◌, Option, Some, None, Result, Ok, Err, codes}
use Rattle.iw_octets.specs.declared.stag.Stag.{Stag}
use Rattle.iw_octets.specs.declared.message.Message.TheVariants as messages
use Rattle.iw_octets.specs.declared.fault.TheConstants.Fault as faults
use Rattle.iw_queues.specs.declared.request.Kind.TheVariants as kinds
use Rattle.iw_queues.specs.declared.request.Request.TheVariants as requests
use Rattle.iw_events.specs.declared.call.End.TheVariants.{A, B}
use Rattle.iw_events.specs.declared.call.Call.TheVariants as calls
use Rattle.iw_events.specs.declared.call.StreamCall.{StreamCall}
use Rattle.iw_events.specs.declared.call.StreamCall.TheVariants as stream_calls
use Rattle.iw_events.specs.declared.act.Act.TheVariants as acts
use Rattle.iw_events.specs.declared.act.StreamAct.{StreamAct}
use Rattle.iw_events.specs.declared.act.StreamAct.TheVariants as stream_acts
use Rattle.iw_events.specs.declared.act.Seen.{Seen}
use Rattle.iw_events.specs.declared.act.Seen.TheVariants as seen
use Rattle.iw_startup.specs.declared.config.Agreed.{Agreed}
use Rattle.iw_startup.specs.declared.config.Establishment.{Establishment}
use Rattle.iw_startup.specs.declared.config.Establishment.TheVariants.{Enhanced, PeerToPeer}
use Rattle.iw_startup.specs.declared.enhanced.EnhancedData.{EnhancedData}
use Rattle.iw_stream.specs.declared.answer.Role.TheVariants.{Initiator, Responder}
use Rattle.iw_events.specs.declared.call.Options.{Options}
use Rattle.iw_schedules.specs.declared.fault.FaultName.TheVariants.{BadWord, BadNumber, BadOctets}
use Rattle.iw_schedules.specs.declared.fault.ScheduleFault.{ScheduleFault}
use Rattle.iw_schedules.specs.declared.fault.ScheduleFault.TheVariants.{Line}
use Rattle.iw_schedules.specs.Schedule.{Events, schedule_of}
use Rattle.iw_schedules.specs.Trace.{entry_text}

-- a single call on stream 3 at `a`
abbrev pub alone : StreamCall (List ℕ) → Result Events ScheduleFault
alone call = Ok (record { end = A; call = calls.Stream 3 call } ∷ [])

-- a Send of `hi`
abbrev pub send_hi : Bool → Option Stag → StreamCall (List ℕ)
send_hi solicited invalidate = stream_calls.Post (requests.Message (messages.Send (codes "hi") solicited invalidate))

abbrev pub the_stag : Stag
the_stag = record { domain = 1; slot = 2; key = 255 }

abbrev pub by_revision_2 : Establishment → Options
by_revision_2 establishment = record { markers = false; crc = false; establishment = establishment }

-- `a` opens stream 3
abbrev pub opened_alone : Establishment → Result Events ScheduleFault
opened_alone establishment = Ok (record { end = A; call = calls.Open 3 1 Initiator (by_revision_2 establishment) [] } ∷ [])

-- IRD 4, ORD not negotiated
abbrev pub the_word : EnhancedData
the_word = record { ird = 4; ord = 16383; peer_to_peer = false; rtr_send = false; rtr_write = false; rtr_read = false }

abbrev pub the_agreement : Agreed
the_agreement = record { send_markers = false; expect_markers = false; crc = true; ord = 4; rtr = None }

-- the line of an act of stream 3 at `b`
abbrev pub line_of : StreamAct (List ℕ) → List ℕ
line_of act = entry_text [] (record { end = B; act = acts.Stream 3 act })

abbrev pub line_of_step : Seen (List ℕ) → List ℕ
line_of_step step = line_of (stream_acts.Work step)

-- behind the entry at which `b` opens it for revision 2 of MPA
abbrev pub enhanced_line_of : StreamAct (List ℕ) → List ℕ
enhanced_line_of act = entry_text (record { end = B; act = acts.Open 3 1 Responder (by_revision_2 Enhanced) [] None } ∷ []) (record { end = B; act = acts.Stream 3 act })

pub record KnownLines : Type 0 where
  pub link_break : schedule_of (codes "a break 3") ≡ alone stream_calls.Break
  pub plain : schedule_of (codes "a send 3 plain - 6869") ≡ alone (send_hi false None)
  pub solicited : schedule_of (codes "a send 3 solicited - 6869") ≡ alone (send_hi true None)
  pub invalidating : schedule_of (codes "a send 3 invalidate 010002fF 6869") ≡ alone (send_hi false (Some the_stag))
  pub both : schedule_of (codes "a send 3 both 010002ff 6869") ≡ alone (send_hi true (Some the_stag))
  pub no_kind : schedule_of (codes "a send 3 urgent - 6869") ≡ Err (Line 1 BadWord)
  pub needless_stag : schedule_of (codes "a send 3 solicited 010002ff 6869") ≡ Err (Line 1 BadNumber)
  pub missing_stag : schedule_of (codes "a send 3 both - 6869") ≡ Err (Line 1 BadNumber)
  pub enhanced : schedule_of (codes "a open 3 1 initiator e -") ≡ opened_alone Enhanced
  pub peer_to_peer : schedule_of (codes "a open 3 1 initiator ep -") ≡ opened_alone PeerToPeer
  pub p_alone : schedule_of (codes "a open 3 1 initiator p -") ≡ Err (Line 1 BadOctets)
  pub p_of_responder : schedule_of (codes "a open 3 1 responder ep -") ≡ Err (Line 1 BadOctets)
  pub broken : line_of stream_acts.Break ≡ codes "b break 3 ok" ++ 10 ∷ []
  pub flushed : line_of_step (seen.Flushed kinds.Read) ≡ codes "b work 3 flushed read" ++ 10 ∷ []
  pub flushed_recv : line_of_step (seen.FlushedRecv (0x68 ∷ 0 ∷ [])) ≡ codes "b work 3 flushed recv 6800" ++ 10 ∷ []
  pub terminated : line_of_step (seen.Terminated faults.CRC_MISMATCH) ≡ codes "b work 3 terminated 2 0 2" ++ 10 ∷ []
  pub received : line_of_step (seen.Received (codes "hi") true (Some the_stag)) ≡ codes "b work 3 received 6869 both 010002ff" ++ 10 ∷ []
  pub received_plain : line_of_step (seen.Received [] false None) ≡ codes "b work 3 received - plain -" ++ 10 ∷ []
  pub asked : line_of_step (seen.Asked (Some the_word) (codes "hi")) ≡ codes "b work 3 asked 6869" ++ 10 ∷ []
  pub asked_by_word : enhanced_line_of (stream_acts.Work (seen.Asked (Some the_word) (codes "hi"))) ≡ codes "b work 3 asked 4 16383 6869" ++ 10 ∷ []
  pub asked_without : enhanced_line_of (stream_acts.Work (seen.Asked None [])) ≡ codes "b work 3 asked - - -" ++ 10 ∷ []
  pub accepted : enhanced_line_of (stream_acts.Accept [] (Ok the_agreement)) ≡ codes "b accept 3 ok c 4" ++ 10 ∷ []
  pub opened : enhanced_line_of (stream_acts.Work (seen.Opened the_agreement (Some the_word) [])) ≡ codes "b work 3 opened c 4 4 16383 -" ++ 10 ∷ []
