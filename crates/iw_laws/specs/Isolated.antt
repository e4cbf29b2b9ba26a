-- No domain of an end sees another, nor changes what is another's.
use Rattle.std.specs.Prelude.{◌≡◌, ℕ, ◌==◌, List, [], ◌∷◌, ◌++◌, map, filter}
use Rattle.iw_endpoint.specs.Endpoint.{fresh}
use Rattle.iw_endpoint.specs.Isolation.{Call, Part, part_of, alone, own_after, concerned, Opens}
use Rattle.iw_events.specs.declared.call.End.{End}
use Rattle.iw_events.specs.declared.act.Act.{Act}
use Rattle.iw_events.specs.declared.act.Entry.{Entry}
use Rattle.iw_laws.specs.Words.{Octets, acts}
use Rattle.iw_laws.specs.Rules.{EndRule, call_made}

-- the calls that these acts made, and the acts whose call concerns the domain, where whose tells the domain of each stream number
abbrev pub calls_made : List (Act Octets) → List Call
calls_made done = map call_made done

abbrev pub only_acts : (ℕ → ℕ) → ℕ → List (Act Octets) → List (Act Octets)
only_acts whose d done = filter (λ act. concerned whose (call_made act) == d) done

-- each act is answered as the rules say where the domain has this part, and no other domain has anything; and what it leaves of the part
-- is there for the next
abbrev pub AreOwn : ℕ → Part → List (Act Octets) → Type 0
AreOwn d part [] = Unit {0}
AreOwn d part (act ∷ done) = EndRule (alone d part) act × AreOwn d (own_after d part (call_made act)) done

-- each stream number is opened, or asked for, in one domain only
abbrev pub AsksOwn : (ℕ → ℕ) → List Call → Type 0
AsksOwn whose [] = Unit {0}
AsksOwn whose (call ∷ calls) = ((n d : ℕ) → Opens n d call → whose n ≡ d) × AsksOwn whose calls

-- at every moment, at each end: if so far each stream number that was opened, or asked to be, was asked for in one domain alone, the acts
-- that concern a domain were answered so, one after the other, with none of the others
abbrev pub Isolated : List (Entry Octets) → Type 0
Isolated trace =
    (past future : List (Entry Octets)) → trace ≡ past ++ future → (x : End) (whose : ℕ → ℕ) → AsksOwn whose (calls_made (acts x past))
    → (d : ℕ) → AreOwn d (part_of d fresh) (only_acts whose d (acts x past))
