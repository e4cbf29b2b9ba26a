use Rattle.std.proofs.Common.{◌≡◌, ◌++◌, take, ap, ◌∙◌, arith}
use Rattle.std.proofs.lemmas.Grind.{common_steps}
use Rattle.std.proofs.lemmas.List.{take_min}
use Rattle.iw_events.proofs.copies.private_data.Goals as goal

pub returns : goal.returns
returns c =
    let appended : c.try_extend_from_slice.new.self.items ≡ c.new-private.result.items ++ take c.min.result c.args.octets.now = grind (arith, common_steps) in
    let first : take c.min.result c.args.octets.now ≡ take 512 c.args.octets.now = ap (λ n. take n c.args.octets.now) c.min.ensures ∙ take_min 512 c.args.octets.now in
    ap (λ z. record { items = z }) (appended ∙ (λ i. c.new-private.ensures i ++ first i))
