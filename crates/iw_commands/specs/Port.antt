-- The line by which a listening process names its port.
use Rattle.std.specs.Prelude.{ℕ, List, ◌++◌, codes}
use Rattle.std.specs.Fmt.{decimal}

abbrev pub port_line : ℕ → List ℕ
port_line port = codes "port " ++ decimal port ++ codes "\n"
