use Rattle.std.proofs.Common.{◌≡◌, ◌⊎◌, ◌≢◌, ◌%◌, ap, sym, ◌∙◌, inl, inr, false}
use Rattle.iw_crc.specs.Crc.{after_octets, all_ones}
use Rattle.iw_fpdu.proofs.Laid.{none_beyond}
use Rattle.iw_fpdu.proofs.write.crc_before.Goals as goal
use Rattle.iw_fpdu.proofs.write.crc_before.Goals.{else-markers-via-then-markers+else-at-eq-MARKER, else-markers-via-else-markers}

pub returns-else-markers : goal.returns-else-markers
unfolding after_octets
returns-else-markers c =
    let none : (c.args.markers ≡ false) ⊎ (c.args.at % 512 ≢ 4) =
    elim c.else-markers.branch [ else-markers-via-then-markers+else-at-eq-MARKER w ↦ inr w.if-at-eq-MARKER.false | else-markers-via-else-markers w ↦ inl w.if-markers.false ] in
    c.new-crc.ensures ∙ sym (ap (after_octets all_ones) (none_beyond c.args.markers c.args.at none))
