-- What a buffer that is lent to be written leaves.
use Rattle.std.specs.Prelude.{ℕ, List}
use Rattle.std.specs.Borrow.{Lends, MutBor, Fml, RattleType, Array, u8}
use Rattle.std.specs.declared.alloc.Allocator.{Ghosts}
use Rattle.iw_ranges.specs.Arrived.{Held, with_ahead}
use Rattle.iw_ranges.specs.contracts.Islands.{the_row}

-- what was last written through r stands ahead, and what came is as it was
abbrev pub LendsAhead : (A : RattleType) → Ghosts A.Denot → MutBor Held → MutBor (List ℕ) → Fml
LendsAhead A alloc s r = Lends (the_row A alloc) (Array u8 0) s r (with_ahead s.now)
