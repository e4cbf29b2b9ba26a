-- What was read, without where the rest lies in memory.
use Rattle.std.specs.Prelude.{ℕ, List, Option, Some, None, Result, Ok, Err}
use Rattle.std.specs.Borrow.{Bor}
use Rattle.iw_octets.specs.declared.head.Short.{Short}

abbrev pub shown : {A : Type 0} → Result (A × Bor (List ℕ)) Short → Option (A × List ℕ)
shown (Ok read) = Some (read.0, read.1.now)
shown (Err short) = None
