use Rattle.std.proofs.Common.{true, refl, arith}
use Rattle.iw_locate.proofs.Open.{start_high}
use Rattle.iw_locate.proofs.searching.first_start.Goals as goal

pub returns-then-aligned-eq0 : goal.returns-then-aligned-eq0
returns-then-aligned-eq0 c = λ s start low. let high = start_high true s refl start in omega (arith, high, start.aligned, low, c.div_ceil-aligned.ensures, c.if-aligned-eq0.true)
