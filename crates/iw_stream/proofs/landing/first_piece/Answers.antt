use Rattle.std.proofs.Common.{arith}
use Rattle.iw_stream.proofs.Landings.{length_ulpdu}
use Rattle.iw_stream.proofs.landing.first_piece.Goals as goal

pub returns : goal.returns
returns g c =
    record {
      beyond = c.in_ok-first.ensures.0;
      whole = c.in_ok-first.ensures.1;
      enough = omega (arith, length_ulpdu c.args.fpdu.now, c.min.ensures, c.len.ensures.len, c.if-first-min.false);
    }
