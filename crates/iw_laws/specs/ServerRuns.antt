-- Runs that no two ends make which serve any number of connections, each of which breaks one law.
use Rattle.std.specs.Prelude.{List, [], ◌∷◌, Some, None, Ok, Err, true, false}
use Rattle.iw_octets.specs.declared.message.Message.TheVariants as messages
use Rattle.iw_queues.specs.declared.request.Request.TheVariants.{Message as Posted}
use Rattle.iw_events.specs.declared.call.End.TheVariants.{A, B}
use Rattle.iw_events.specs.declared.act.Act.TheVariants.{Domain, Open}
use Rattle.iw_events.specs.declared.act.StreamAct.TheVariants.{Recv, Post, Work, Break}
use Rattle.iw_events.specs.declared.act.Seen.TheVariants as seen
use Rattle.iw_events.specs.declared.server.ServerAct.{ServerAct}
use Rattle.iw_events.specs.declared.server.ServerAct.TheVariants.{Plain, Stream, OpenNext, RegisterFor, Close}
use Rattle.iw_events.specs.declared.server.ServerEntry.{ServerEntry}
use Rattle.iw_memory.specs.declared.rights.Right.TheVariants as rights
use Rattle.iw_stream.specs.declared.answer.OpenRefusal.TheVariants.{NumberTaken}
use Rattle.iw_stream.specs.declared.answer.Role.TheVariants.{Preset}
use Rattle.iw_endpoint.specs.declared.refusal.OpenNextRefusal.TheVariants as next_refusals
use Rattle.iw_laws.specs.Words.{Octets}
use Rattle.iw_laws.specs.Servers.{told}
use Rattle.iw_laws.specs.ServerLaws.{by_number, GivesOnce, ClosedIsOver}
use Rattle.iw_laws.specs.Safe.{InOrder}
use Rattle.iw_laws.specs.ServerRegions.{ServerAtEach, WithinAs}
use Rattle.iw_laws.specs.ServerMemory.{ServerShowsMemory}
use Rattle.iw_laws.specs.ServerIsolated.{ServerIsolated}
use Rattle.iw_laws.specs.ServerHolds.{ServerHoldsWritten}
use Rattle.iw_laws.specs.WrongRuns.{no_options, stag, places, registers, registers_second}

abbrev pub ServerRun : Type 0
ServerRun = List (ServerEntry Octets)

abbrev pub at_a : ServerAct Octets → ServerEntry Octets
at_a act = record { end = A; act = act }

abbrev pub at_b : ServerAct Octets → ServerEntry Octets
at_b act = record { end = B; act = act }

-- domain 1, and a stream in it that is open at once, under the number 64
abbrev pub gives : ServerAct Octets
gives = OpenNext 1 Preset no_options [] (Ok 64)

abbrev pub rests : ServerAct Octets
rests = Stream 64 (Work seen.Idle)

abbrev pub closes : ServerAct Octets
closes = Close 64 None

-- a stream is closed, and then rests
abbrev pub rests_closed : ServerRun
rests_closed = at_a (Plain (Domain 1 None)) ∷ at_a gives ∷ at_a closes ∷ at_a rests ∷ []

abbrev pub RefusesRestClosed : Type 0
RefusesRestClosed = ¬ ClosedIsOver rests_closed

-- a stream is closed twice
abbrev pub closes_twice : ServerRun
closes_twice = at_a (Plain (Domain 1 None)) ∷ at_a gives ∷ at_a closes ∷ at_a closes ∷ []

abbrev pub RefusesClosedTwice : Type 0
RefusesClosedTwice = ¬ ClosedIsOver closes_twice

-- a number is given twice
abbrev pub gives_twice : ServerRun
gives_twice = at_a (Plain (Domain 1 None)) ∷ at_a gives ∷ at_a closes ∷ at_a gives ∷ []

abbrev pub RefusesGivenTwice : Type 0
RefusesGivenTwice = ¬ GivesOnce gives_twice

-- the application picks the number of a stream that was closed
abbrev pub picks : ServerAct Octets
picks = Plain (Open 7 1 Preset no_options [] None)

abbrev pub picks_closed : ServerRun
picks_closed = at_a (Plain (Domain 1 None)) ∷ at_a picks ∷ at_a (Close 7 None) ∷ at_a picks ∷ []

abbrev pub RefusesPickedClosed : Type 0
RefusesPickedClosed = ¬ GivesOnce picks_closed

-- of two Sends on a stream that was given its number the second is received, and the first is not
abbrev pub sends : Octets → ServerAct Octets
sends octets = Stream 64 (Post (Posted (messages.Send octets false None)) None)

abbrev pub skips_first : ServerRun
skips_first =
    at_a (Plain (Domain 1 None)) ∷ at_a gives ∷ at_b (Plain (Domain 1 None)) ∷ at_b gives
    ∷ at_a (sends (0x68 ∷ [])) ∷ at_a (sends (0x69 ∷ [])) ∷ at_b (Stream 64 (Work (seen.Received (0x69 ∷ []) false None))) ∷ []

abbrev pub RefusesSkippedGiven : Type 0
RefusesSkippedGiven = ¬ InOrder (told by_number skips_first)

-- a region that peers may write, for that stream alone
abbrev pub limits : ServerAct Octets
limits = RegisterFor 64 0 (record { write = true; read = false; sink = false; invalidate = false }) (0 ∷ []) (Ok stag)

-- it is registered once the stream was closed
abbrev pub limits_closed : ServerRun
limits_closed = at_a (Plain (Domain 1 None)) ∷ at_a gives ∷ at_a closes ∷ at_a limits ∷ []

abbrev pub RefusesLimitedClosed : Type 0
RefusesLimitedClosed = ¬ ClosedIsOver limits_closed

-- with such a region, too, of two Sends the second is received, and the first is not
abbrev pub skips_limited : ServerRun
skips_limited =
    at_a (Plain (Domain 1 None)) ∷ at_a gives ∷ at_b (Plain (Domain 1 None)) ∷ at_b gives ∷ at_b limits
    ∷ at_a (sends (0x68 ∷ [])) ∷ at_a (sends (0x69 ∷ [])) ∷ at_b (Stream 64 (Work (seen.Received (0x69 ∷ []) false None))) ∷ []

abbrev pub RefusesSkippedLimited : Type 0
RefusesSkippedLimited = ¬ InOrder (told by_number skips_limited)

-- a Write on another stream is placed in that region
abbrev pub writes_elsewhere : ServerRun
writes_elsewhere =
    at_b (Plain (Domain 1 None)) ∷ at_b gives ∷ at_b (OpenNext 1 Preset no_options [] (Ok 65)) ∷ at_b limits ∷ at_b (Stream 65 (Work places)) ∷ []

abbrev pub RefusesWrittenElsewhere : Type 0
RefusesWrittenElsewhere = ¬ ServerAtEach WithinAs by_number writes_elsewhere

-- ---- calls that are answered wrongly

-- a stream is closed whose link broke, before its Send and its receive buffer are handed back
abbrev pub closes_holding : ServerRun
closes_holding = at_a (Plain (Domain 1 None)) ∷ at_a gives ∷ at_a (sends (0x68 ∷ [])) ∷ at_a (Stream 64 (Recv 1 None)) ∷ at_a (Stream 64 Break) ∷ at_a closes ∷ []

abbrev pub RefusesClosedHolding : Type 0
RefusesClosedHolding = ¬ ServerShowsMemory by_number closes_holding

-- one is not closed whose link broke, and that holds nothing
abbrev pub denies_close : ServerAct Octets
denies_close = Close 64 (Some (record {}))

abbrev pub never_closes : ServerRun
never_closes = at_a (Plain (Domain 1 None)) ∷ at_a gives ∷ at_a (Stream 64 Break) ∷ at_a rests ∷ at_a denies_close ∷ []

abbrev pub RefusesNeverClosed : Type 0
RefusesNeverClosed = ¬ ServerShowsMemory by_number never_closes

-- a region for one stream has the STag of a region that is there
abbrev pub limits_taken : ServerRun
limits_taken = at_b (Plain (Domain 1 None)) ∷ at_b gives ∷ at_b (Plain registers) ∷ at_b limits ∷ []

abbrev pub RefusesLimitedTaken : Type 0
RefusesLimitedTaken = ¬ ServerShowsMemory by_number limits_taken

-- a domain is there, and no stream is opened in it since it is not
abbrev pub denies_domain : ServerAct Octets
denies_domain = OpenNext 1 Preset no_options [] (Err next_refusals.NoDomain)

abbrev pub domain_denied : ServerRun
domain_denied = at_a (Plain (Domain 1 None)) ∷ at_a denies_domain ∷ []

abbrev pub RefusesDomainDenied : Type 0
RefusesDomainDenied = ¬ ServerShowsMemory by_number domain_denied

-- no stream has a number, and none is opened under it since one has
abbrev pub denies_number : ServerAct Octets
denies_number = Plain (Open 7 1 Preset no_options [] (Some NumberTaken))

abbrev pub number_denied : ServerRun
number_denied = at_a (Plain (Domain 1 None)) ∷ at_a gives ∷ at_a denies_number ∷ []

abbrev pub RefusesNumberDenied : Type 0
RefusesNumberDenied = ¬ ServerShowsMemory by_number number_denied

-- a region of the second domain has the slot past that of the first domain's region
abbrev pub numbers_domains : ServerRun
numbers_domains =
    at_b (Plain (Domain 1 None)) ∷ at_b gives ∷ at_b (Plain (Domain 2 None)) ∷ at_b (OpenNext 2 Preset no_options [] (Ok 65)) ∷ at_b (Plain registers) ∷ at_b (Plain registers_second) ∷ []

abbrev pub RefusesDomainsNumbered : Type 0
RefusesDomainsNumbered = ¬ ServerIsolated numbers_domains

-- ---- other octets stand in a region than were sent for it

-- a Write of 0xaa is placed as 0xbb in a region that is limited to its stream, and the Send behind it is received
abbrev pub writes_limited : ServerRun
writes_limited =
    at_a (Plain (Domain 1 None)) ∷ at_a gives ∷ at_b (Plain (Domain 1 None)) ∷ at_b gives ∷ at_b limits ∷ at_a (Stream 64 (Post (Posted (messages.Write stag 0 (0xaa ∷ []))) None))
    ∷ at_a (sends (0x68 ∷ [])) ∷ at_b (Stream 64 (Work (seen.Placed rights.Write stag 0 (0xbb ∷ [])))) ∷ at_b (Stream 64 (Work (seen.Received (0x68 ∷ []) false None))) ∷ []

abbrev pub RefusesWrittenLimited : Type 0
RefusesWrittenLimited = ¬ ServerHoldsWritten by_number writes_limited
