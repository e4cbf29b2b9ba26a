use Rattle.std.proofs.Common.{sym, ap, ◌∙◌}
use Rattle.iw_stream.specs.Starting.{first_place_in}
use Rattle.iw_stream.proofs.Opening.{keeps_fresh, none_read}
use Rattle.iw_stream.proofs.stream.Stream.with_queue.Goals as goal

pub invariant_of-result : goal.invariant_of-result
invariant_of-result g c = record {
  keeps = keeps_fresh c.args.role c.args.config c.args.domain _ _ _ _ _ _ _ _ c.new-start.ensures c.new-2.ensures c.new-3.ensures c.in_ok-arrived.ensures.arrived c.in_ok-arrived.ensures.early;
  layout = c.in_ok-arrived.ensures.layout_is ∙ c.expecting.ensures;
  base = c.in_ok-arrived.ensures.base ∙ sym (none_read c.args.role c.args.config) ∙ ap first_place_in (sym c.new-start.ensures);
}
