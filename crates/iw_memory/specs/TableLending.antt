use Rattle.std.specs.Prelude.{ℕ, List, ◌==◌, if◌then◌else◌}
use Rattle.std.specs.Borrow.{Lends, MutBor, Fml, RattleType, Array, u8}
use Rattle.std.specs.declared.alloc.Allocator.{Ghosts}
use Rattle.iw_octets.specs.declared.stag.Stag.{Stag}
use Rattle.iw_memory.specs.Table.{Table, put, with_region}
use Rattle.iw_memory.specs.Region.{overlay}
use Rattle.iw_memory.specs.contracts.memory.Memory.{the_row}

-- the table once the part of n octets from `to` on was left as these octets
abbrev pub written : Table → Stag → ℕ → ℕ → List ℕ → Table
written table stag to n octets = if n == 0 then table else put table stag to octets

-- the table once all octets of the region were left so
abbrev pub overwritten : Table → Stag → List ℕ → Table
overwritten table stag octets = with_region table stag (λ r. record r { octets = overlay r.octets 0 octets })

module _ (A : RattleType) (alloc : Ghosts A.Denot) where
  -- the memory ends with what was last written through r put at its place
  abbrev pub LendsPart : MutBor Table → Stag → ℕ → ℕ → MutBor (List ℕ) → Fml
  LendsPart memory stag to n r = Lends (the_row A alloc) (Array u8 0) memory r (written memory.now stag to n)

  abbrev pub LendsOctetsAt : MutBor Table → Stag → ℕ → MutBor (List ℕ) → Fml
  LendsOctetsAt memory stag to r = Lends (the_row A alloc) (Array u8 0) memory r (put memory.now stag to)

  -- the memory stays, whatever is written through r, which has no octets
  abbrev pub LendsNothing : MutBor Table → MutBor (List ℕ) → Fml
  LendsNothing memory r = Lends (the_row A alloc) (Array u8 0) memory r (λ _. memory.now)

  -- the memory ends with what was last written through r as the region's octets
  abbrev pub LendsLocal : MutBor Table → Stag → MutBor (List ℕ) → Fml
  LendsLocal memory stag r = Lends (the_row A alloc) (Array u8 0) memory r (overwritten memory.now stag)
