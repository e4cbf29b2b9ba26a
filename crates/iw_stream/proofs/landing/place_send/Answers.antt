use Rattle.std.proofs.Common.{◌≡◌, ◌-◌, length, refl, ap, ◌∙◌, arith, length-drop}
use Rattle.iw_octets.proofs.Runs.{gives-add_up, gives-join_to}
use Rattle.iw_untagged.specs.Receiving.{written}
use Rattle.iw_fpdu.specs.Found.{ulpdu}
use Rattle.iw_stream.proofs.Landings.{length_ulpdu}
use Rattle.iw_stream.proofs.landing.place_send.Goals as goal

pub place-requires : goal.place-requires
place-requires g c = λ κs.
    let long : c.len-len.result - 18 ≡ length c.pieces.result = omega (arith, c.len-len.ensures.len, length_ulpdu c.args.fpdu.now, ap length c.pieces.ensures, length-drop 18 (ulpdu c.args.fpdu.now)) in
    ((refl, tt), (tt, (tt, gives-add_up c.pieces.result (c.len-len.result - 18) long)))

pub returns-clause-receiving : goal.returns-clause-receiving
returns-clause-receiving g c =
    let placed = c.in_ok-place.ensures.ok in
    placed.2 ∙ ap (written c.args.receiving.now c.args.head.msn c.args.head.mo) (gives-join_to c.pieces.result placed.0 placed.1 ∙ c.pieces.ensures)
