-- What holds of the definitions.
use Rattle.std.specs.Prelude.{ℕ, None, ◌↔◌, ◌≡◌, ◌<◌, ◌≤◌, ◌-◌, true, false, List, [], ◌∷◌, ◌++◌, length, take, drop, map, replicate, All}
use Rattle.std.specs.List.{flat_map}
use Rattle.iw_octets.specs.declared.head.TaggedHead.{TaggedHead}
use Rattle.iw_memory.specs.declared.peer.Peer.{Peer}
use Rattle.iw_memory.specs.declared.rights.Right.{Right}
use Rattle.iw_memory.specs.Table.{Table}
use Rattle.iw_memory.specs.Laws.{AllowsFor}
use Rattle.iw_octets.specs.declared.part.Part.{Part}
use Rattle.iw_octets.specs.Parts.{parts, full_count}
use Rattle.iw_tagged.specs.Placing.{placing_fault}

-- the octets of a part of a message
abbrev pub octets_of : List ℕ → Part → List ℕ
octets_of message part = take part.n (drop part.offset message)

-- the parts of a message of this length, one after the other, are the message; only the last is marked; none has more
-- than `size` octets, and none is empty, except that of an empty message
pub record Covers (len size : ℕ) : Type 0 where
  pub joined : (message : List ℕ) → length message ≡ len → flat_map (octets_of message) (parts len size) ≡ message
  pub marked : map (λ part. part.last) (parts len size) ≡ replicate (full_count len size) false ++ true ∷ []
  pub fits : All (λ part. part.n ≤ size) (parts len size)
  pub filled : 0 < len → All (λ part. 0 < part.n) (parts len size)

abbrev pub PartsCover : Type 0
PartsCover = (len size : ℕ) → 0 < size → Covers len size

-- the parts that the definition gives, for what some ULPDU sizes leave after a header of 14 octets
pub record KnownParts : Type 0 where
  pub empty : parts 0 (128 - 14) ≡ record { offset = 0; n = 0; last = true } ∷ []
  pub one : parts 114 (128 - 14) ≡ record { offset = 0; n = 114; last = true } ∷ []
  pub one_more : parts 115 (128 - 14) ≡ record { offset = 0; n = 114; last = false } ∷ record { offset = 114; n = 1; last = true } ∷ []
  pub two_full : parts 228 (128 - 14) ≡ record { offset = 0; n = 114; last = false } ∷ record { offset = 114; n = 114; last = true } ∷ []
  pub two : parts 492 (502 - 14) ≡ record { offset = 0; n = 488; last = false } ∷ record { offset = 488; n = 4; last = true } ∷ []

-- a segment passes exactly if the peer that sent it may use the region so
abbrev pub PassesWhereAllowed : Type 0
PassesWhereAllowed = (table : Table) (peer : Peer) (head : TaggedHead) (n : ℕ) (right : Right) →
    (placing_fault table peer head n right ≡ None) ↔ AllowsFor table peer head.stag head.to n right
