use Rattle.std.specs.Prelude.{ℕ, List}
use Rattle.std.specs.Borrow.{Lends, MutBor, Fml, RattleType, Array, u8}
use Rattle.std.specs.declared.alloc.Allocator.{Ghosts}
use Rattle.iw_memory.specs.Held.{Held, with_octets}
use Rattle.iw_memory.specs.contracts.region.Stored.{the_row}

-- s ends with what was last written through r at place `at`
abbrev pub LendsOctets : (A : RattleType) → Ghosts A.Denot → MutBor Held → ℕ → MutBor (List ℕ) → Fml
LendsOctets A alloc s at r = Lends (the_row A alloc) (Array u8 0) s r (with_octets s.now at)
