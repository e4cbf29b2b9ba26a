use Rattle.std.proofs.Common.{refl}
use Rattle.iw_memory.proofs.laws.known_draws.Goals as goal

pub returns : goal.returns
returns c region = record { behind = refl; next_key = refl; key_before_last = refl; keys_again = refl; not_made = refl }
