use Rattle.std.proofs.Common.{◌≡◌, ◌+◌, ap, arith}
use Rattle.iw_fpdu.specs.Found.{octet_in}
use Rattle.iw_fpdu.specs.Frame.{frame_end}
use Rattle.iw_fpdu.specs.Reading.{length_at}
use Rattle.iw_fpdu.proofs.Came.{octet_is}
use Rattle.iw_fpdu.proofs.Octets.{span_low, length_within}
use Rattle.iw_fpdu.proofs.fpdu.Fpdu.read.Goals as goal

pub returns-then-not-all_came : goal.returns-then-not-all_came
returns-then-not-all_came g c =
    let w = c.if-not-all_came.ensures.came in
    let m = c.args.layout.markers in
    (w.0, omega (arith, w.1, span_low m c.args.start), omega (arith, w.2, length_within m c.args.start (length_at (octet_in c.args.islands.now.arrived c.args.base) c.args.start) c.requires.start), w.3)

pub all_came-requires-2 : goal.all_came-requires-2
all_came-requires-2 g c =
    let m = c.args.layout.markers in
    omega (arith, c.span_of-from.ensures.bound, c.end_of-to.ensures.value, length_within m c.args.start c.from_be_bytes-len.result c.requires.start)

pub returns-then-not-all_came-2 : goal.returns-then-not-all_came-2
returns-then-not-all_came-2 g c =
    let w = c.if-not-all_came-2.ensures.came in
    let m = c.args.layout.markers in
    let arrived = c.args.islands.now.arrived in
    let base = c.args.base in
    let start = c.args.start in
    let first = octet_is arrived base start (base + start) c.octet.result (omega arith) c.octet.ensures in
    let second = octet_is arrived base (start + 1) (base + start + 1) c.octet-2.result (omega arith) c.octet-2.ensures in
    let len : c.from_be_bytes-len.result ≡ length_at (octet_in arrived base) start = omega (arith, c.from_be_bytes-len.ensures, first, second) in
    (w.0, omega (arith, w.1, c.span_of-from.ensures.value), omega (arith, w.2, c.end_of-to.ensures.value, ap (frame_end m start) len), w.3)
