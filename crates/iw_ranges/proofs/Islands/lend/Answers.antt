use Rattle.std.proofs.Common.{◌≡◌, ◌-◌, length, take, drop, refl, ap, ◌∙◌, arith}
use Rattle.std.proofs.lemmas.List.{length-take-le}
use Rattle.std.specs.Prelude.{vec_capacity}
use Rattle.std.specs.VecDeque.{deque_len, deque_capacity}
use Rattle.iw_ranges.specs.Arrived.{Held, with_ahead}
use Rattle.iw_ranges.specs.Fields.{Fields, fields_of, arrived_in}
use Rattle.iw_ranges.proofs.Cells.{top_reaches}
use Rattle.iw_ranges.proofs.InPlace.{same_kept, has_written, written, written_to, written_ahead, shown, same_shown}
use Rattle.iw_ranges.proofs.Moves.{shorter}
use Rattle.iw_ranges.proofs.Islands.lend.Goals as goal

pub overflow_sub-at : goal.overflow_sub-at
overflow_sub-at g c =
    let f : Fields = fields_of c.self.inside in
    omega (arith, c.self.invariant.sound.base, c.self.invariant.sound.reached, top_reaches f c.self.invariant.sound)

pub returns : goal.returns
returns g c =
    let f : Fields = fields_of c.self.inside in
    let ok = c.self.invariant.sound in
    let at = f.end - f.base in
    let room = deque_capacity c.self.inside.gone - deque_len c.self.inside.gone in
    let memory = vec_capacity c.self.inside.octets in
    let value : c.slice_mut.result.now ≡ take c.args.n c.args.self.now.ahead = c.slice_mut.ensures.value ∙ ap (λ k. take k (drop at f.octets)) (omega arith) ∙ ap (λ (h : Held). take c.args.n h.ahead) c.self.view_is in (
      (
        refl,
        λ w. ap (λ n. shown (arrived_in (shorter f (written_to n f.octets at w) f.base)) room memory (drop at (written_to n f.octets at w))) c.self.inside.octets.ok.0
            ∙ same_shown _ _ room memory _ _ (same_kept f ok (written f.octets at w) f.base (has_written f ok w) ok.base) (written_ahead f.octets w at (omega (arith, ok.stand))) ∙ ap (λ h. with_ahead h w) c.self.view_is,
      ),
      record {
        lends = tt;
        len = ap length value ∙ length-take-le c.args.n c.args.self.now.ahead c.requires;
        value = value;
      },
    )
