-- No domain of an end that serves any number of connections sees another, nor changes what is another's.
use Rattle.std.specs.Prelude.{◌≡◌, ℕ, ◌==◌, List, [], ◌∷◌, ◌++◌, filter, Option, Some, None, Result, Ok, Err}
use Rattle.iw_endpoint.specs.declared.refusal.OpenNextRefusal.{OpenNextRefusal}
use Rattle.iw_endpoint.specs.declared.refusal.OpenNextRefusal.TheVariants as next_refusals
use Rattle.iw_endpoint.specs.Endpoint.{fresh}
use Rattle.iw_endpoint.specs.Isolation.{Call, Part, Opens, part_of, alone, own_after, concerned}
use Rattle.iw_events.specs.declared.call.End.{End}
use Rattle.iw_events.specs.declared.server.ServerAct.{ServerAct}
use Rattle.iw_events.specs.declared.server.ServerAct.TheVariants.{Plain, Stream, OpenNext, OpenSharedNext, Read, ReadRaw, RegisterFor, Close}
use Rattle.iw_events.specs.declared.server.ServerEntry.{ServerEntry}
use Rattle.iw_laws.specs.Words.{Octets}
use Rattle.iw_laws.specs.Rules.{call_made}
use Rattle.iw_laws.specs.Servers.{AnsweredWith, call_with}
use Rattle.iw_laws.specs.ServerLaws.{server_acts}

-- the number that was the next, as far as the answer shows it: it was given, or none was left; any other refusal comes whatever it was
abbrev pub next_shown : Result ℕ OpenNextRefusal → Option ℕ
next_shown (Ok n) = Some n
next_shown (Err next_refusals.NumbersSpent) = None
next_shown (Err next_refusals.NoDomain) = Some 0
next_shown (Err next_refusals.NotShared) = Some 0
next_shown (Err next_refusals.PrivateTooLong) = Some 0
next_shown (Err next_refusals.NoMemory) = Some 0

abbrev pub next_of : ServerAct Octets → Option ℕ
next_of (OpenNext pd role options private answer) = next_shown answer
next_of (OpenSharedNext pd role options private answer) = next_shown answer
next_of (Plain act) = None
next_of (Stream n act) = None
next_of (Read n from number octets delivery) = None
next_of (ReadRaw n number octets delivery) = None
next_of (RegisterFor n base rights octets answer) = None
next_of (Close n refused) = None

-- the call that an act made
abbrev pub call_of : ServerAct Octets → Call
call_of act = call_with (next_of act) act

-- the act asks for this number, or is given it, in this domain
abbrev pub Asks : ℕ → ℕ → ServerAct Octets → Type 0
Asks n d (Plain act) = Opens n d (call_made act)
Asks n d (OpenNext pd role options private (Ok m)) = (m ≡ n) × (pd ≡ d)
Asks n d (OpenNext pd role options private (Err refusal)) = ⊥
Asks n d (OpenSharedNext pd role options private (Ok m)) = (m ≡ n) × (pd ≡ d)
Asks n d (OpenSharedNext pd role options private (Err refusal)) = ⊥
Asks n d (Stream m act) = ⊥
Asks n d (Read m from number octets delivery) = ⊥
Asks n d (ReadRaw m number octets delivery) = ⊥
Asks n d (RegisterFor m base rights octets answer) = ⊥
Asks n d (Close m refused) = ⊥

-- each number that is picked is asked for, and each other is given, in one domain only
abbrev pub ServerAsksOwn : (ℕ → ℕ) → List (ServerAct Octets) → Type 0
ServerAsksOwn whose [] = Unit {0}
ServerAsksOwn whose (act ∷ done) = ((n d : ℕ) → Asks n d act → whose n ≡ d) × ServerAsksOwn whose done

-- the acts that concern a domain
abbrev pub only_server_acts : (ℕ → ℕ) → ℕ → List (ServerAct Octets) → List (ServerAct Octets)
only_server_acts whose d done = filter (λ act. concerned whose (call_of act) == d) done

-- each act is answered as the rules say where the domain has this part, and no other domain has anything; and what it leaves of the
-- part is there for the next
abbrev pub AreOwnServer : ℕ → Part → List (ServerAct Octets) → Type 0
AreOwnServer d part [] = Unit {0}
AreOwnServer d part (act ∷ done) = AnsweredWith (next_of act) (alone d part) act × AreOwnServer d (own_after d part (call_of act)) done

-- at every moment, at each end: if so far each number that was picked was asked for in one domain alone, the acts that concern a domain were
-- answered so, one after the other, with none of the others
abbrev pub ServerIsolated : List (ServerEntry Octets) → Type 0
ServerIsolated trace =
    (past future : List (ServerEntry Octets)) → trace ≡ past ++ future → (x : End) (whose : ℕ → ℕ) → ServerAsksOwn whose (server_acts x past)
    → (d : ℕ) → AreOwnServer d (part_of d fresh) (only_server_acts whose d (server_acts x past))
