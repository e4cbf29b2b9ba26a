-- What is written through a part that is lent.
use Rattle.std.specs.Prelude.{ℕ, List}
use Rattle.std.specs.Borrow.{Lends, MutBor, Fml, RattleType, Array, u8}
use Rattle.std.specs.declared.alloc.Allocator.{Ghosts}
use Rattle.iw_kept.specs.declared.octets.RegionOctets.{RegionOctets}
use Rattle.iw_kept.specs.Octets.{written, overwritten}
use Rattle.iw_kept.specs.contracts.octets.RegionOctets.{the_row}

module _ (A : RattleType) (alloc : Ghosts A.Denot) where
  abbrev pub LendsPart : MutBor (RegionOctets A.Denot) → ℕ → MutBor (List ℕ) → Fml
  LendsPart s at r = Lends (the_row A alloc) (Array u8 0) s r (written s.now at)

  abbrev pub LendsAll : MutBor (RegionOctets A.Denot) → MutBor (List ℕ) → Fml
  LendsAll s r = Lends (the_row A alloc) (Array u8 0) s r (overwritten s.now)
