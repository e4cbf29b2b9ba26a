use Rattle.std.proofs.Common.{arith}
use Rattle.iw_fpdu.proofs.Counted.{place_unmarked, place_within}
use Rattle.iw_fpdu.proofs.layout.place_past.Goals as goal

pub returns-then-not-markers : goal.returns-then-not-markers
returns-then-not-markers c = place_unmarked c.args.markers c.args.place c.args.n c.if-not-markers.true

pub returns-then-place-n-lt-SPACING : goal.returns-then-place-n-lt-SPACING
returns-then-place-n-lt-SPACING c = place_within c.args.markers c.args.place c.args.n c.requires.data (omega (arith, c.if-place-n-lt-SPACING.true))
