use Rattle.std.proofs.Common.{◌≡◌, ◌+◌, ◌-◌, length, ap, ◌∙◌, sym, refl}
use Rattle.std.proofs.lemmas.List.{length-drop}
use Rattle.iw_octets.proofs.Runs.{gives-add_up, gives-join_to}
use Rattle.iw_fpdu.specs.Found.{octet_in, ulpdu, ulpdu_len}
use Rattle.iw_fpdu.specs.Places.{data_index}
use Rattle.iw_fpdu.proofs.Octets.{length_data}
use Rattle.iw_fpdu.proofs.fpdu.Fpdu.copy_from.Goals as goal

pub gather-requires : goal.gather-requires
gather-requires g c = λ k.
    let f = c.args.self.now in
    let long : length c.args.out.now ≡ length c.pieces.result =
    c.requires.room ∙ sym (ap length c.pieces.ensures ∙ length-drop c.args.k (ulpdu f) ∙ ap (λ n. n - c.args.k) (length_data (octet_in f.arrived f.base) f.layout.markers (data_index f.layout.markers f.start + 2) (ulpdu_len f))) in
    ((refl, tt), (tt, (tt, gives-add_up c.pieces.result (length c.args.out.now) long)))

pub returns : goal.returns
returns g c = gives-join_to c.pieces.result c.gather.new.out c.gather.ensures ∙ c.pieces.ensures
