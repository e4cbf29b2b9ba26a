use Rattle.std.proofs.Common.{◌≡◌, ◌+◌, ◌++◌, ◌∷◌, [], ap, ◌∙◌, sym, take, get_or, arith}
use Rattle.std.proofs.lemmas.List.{take_more}
use Rattle.iw_schedules.specs.Trace.{entry_text, texts_behind, trace_text}
use Rattle.iw_schedules.proofs.TraceText.{texts_more}
use Rattle.iw_schedules.proofs.trace.print_trace.Goals as goal

pub loop-i-init : goal.loop-i-init
unfolding texts_behind
loop-i-init g c = c.new-text.ensures.bytes

pub loop-i-preserved : goal.loop-i-preserved
loop-i-preserved g c =
    let is = c.index-trace-i.is in
    let at : get_or c.args.trace.now c.loop-i.i c.index-trace-i.result ≡ c.index-trace-i.result = cc in
    let taken : take (c.loop-i.i + 1) c.args.trace.now ≡ take c.loop-i.i c.args.trace.now ++ c.index-trace-i.result ∷ [] =
    take_more c.args.trace.now c.loop-i.i c.index-trace-i.result (omega (arith, c.loop-i-test.true)) ∙ ap (λ z. take c.loop-i.i c.args.trace.now ++ z ∷ []) at in
    c.in_ok-add_entry.ensures
    ∙ ap (λ z. z ++ entry_text (take c.loop-i.i c.args.trace.now) c.index-trace-i.result) c.loop-i.invariant
    ∙ sym (texts_more [] (take c.loop-i.i c.args.trace.now) c.index-trace-i.result)
    ∙ ap trace_text (sym taken)
