use Rattle.std.proofs.Common.{◌≡◌, ◌<◌, ◌≤◌, length, arith, ◌∙◌, subst}
use Rattle.std.specs.Prelude.{insert}
use Rattle.std.proofs.lemmas.Grind.{common_steps}
use Rattle.iw_ranges.specs.declared.spans.Span.{Span}
use Rattle.iw_ranges.proofs.Joins.{add_touched, add_before, add_past}
use Rattle.iw_ranges.proofs.spans.join.Goals as goal
use Rattle.iw_ranges.proofs.spans.join.Goals.{else-low-len-via-then-low-len+else-index-to, else-low-len-via-else-low-len}

pub returns-then-index-to-clause-items : goal.returns-then-index-to-clause-items
returns-then-index-to-clause-items g c =
    let ss = c.args.spans.now.items in
    let inside : c.args.low < length ss = omega (arith, c.args.spans.now.ok.0) in
    let d = c.index.result.now in
    c.widen.ensures.items ∙ add_touched ss c.args.from c.args.to c.args.low d c.requires.place.before inside (c.requires.place.reaches d inside)

pub returns-clause-items : goal.returns-clause-items
returns-clause-items g c =
    let ss = c.args.spans.now.items in
    let put : c.insert.new.self.items ≡ insert ss c.args.low (record { from = c.args.from; to = c.args.to }) = grind (arith, common_steps, c.insert.ensures.items, c.insert.ensures.full) in
    put ∙ elim c.else-low-len.branch [
      | else-low-len-via-then-low-len+else-index-to w ↦
          let inside : c.args.low < length ss = omega (arith, c.args.spans.now.ok.0) in
          let d = w.index.result.now in
          let apart : c.args.to < d.from = w.if-index-to.false in
          add_before ss c.args.from c.args.to c.args.low d c.requires.place.before inside (c.requires.place.reaches d inside) (subst (λ (s : Span). c.args.to < s.from) w.index.ensures apart)
      | else-low-len-via-else-low-len w ↦
          let past : length ss ≤ c.args.low = omega (arith, c.args.spans.now.ok.0) in
          add_past ss c.args.from c.args.to c.args.low c.requires.place.before past
    ]
