use Rattle.std.proofs.Common.{◌≡◌, drop}
use Rattle.iw_memory.specs.Retiring.{retired_all}
use Rattle.iw_memory.proofs.retiring.retire_all.Given as goal

abbrev pub invariant-loop-slot : goal.invariant-loop-slot
invariant-loop-slot g l = retired_all l.stream (drop l.slot-index l.slots) l.regions ≡ retired_all l.stream l.slots l.initial.regions
