use Rattle.std.proofs.Common.{◌≡◌, ◌+◌, ◌≤◌, ◌++◌, Ok, Err, length, take, min, sym, ap, ◌∙◌, arith}
use Rattle.std.specs.Prelude.{Result, OnOk}
use Rattle.std.specs.Result.{IsOk}
use Rattle.iw_stream.proofs.Heads.{fills}
use Rattle.iw_stream.proofs.landing.fill.Goals as goal

from_ok : {A E : Type 0} (r : Result A E) (P : Type 0) → IsOk r → OnOk r P → P
from_ok (Ok x) P is h = h
from_ok (Err e) P is h = cc

pub returns : goal.returns
returns c =
    let xs = c.args.first.now.items in
    let ys = c.args.octets.now in
    let front : c.split_at.result.0.now ≡ take (min c.remaining_capacity-room.result (length ys)) ys = c.split_at.ensures.front ∙ ap (λ n. take n ys) c.min.ensures in
    let fits : length xs + length c.split_at.result.0.now ≤ 46 = omega (arith, c.split_at.ensures.front_len, c.min.ensures, c.remaining_capacity-room.ensures) in
    from_ok c.try_extend_from_slice.result _ (c.try_extend_from_slice.ensures.variant.1 fits) c.try_extend_from_slice.ensures.ok
    ∙ ap (λ zs. xs ++ zs) front
    ∙ sym (fills c.remaining_capacity-room.result xs ys c.remaining_capacity-room.ensures)
