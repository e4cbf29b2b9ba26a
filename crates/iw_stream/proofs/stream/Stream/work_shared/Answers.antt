use Rattle.std.proofs.Common.{◌≡◌, IfOk, OnOk, refl, ap, subst, ◌∙◌}
use Rattle.iw_untagged.specs.Receiving.{exchanged}
use Rattle.iw_stream.proofs.Calm.{leaves_alone, leaves_pool}
use Rattle.iw_stream.proofs.Sharing.{left_alone}
use Rattle.iw_stream.proofs.stream.Stream.work_shared.Goals as goal

pub returns-then-judges_none-clause-step : goal.returns-then-judges_none-clause-step
returns-then-judges_none-clause-step g c =
    let alike = leaves_pool c.args.memory.now c.args.self.now c.args.pool.now (c.if-judges_none.ensures refl) in
    subst (λ x. IfOk c.work.result (λ step. step ≡ x)) alike.step c.work.ensures.step

pub returns-then-judges_none-clause-after : goal.returns-then-judges_none-clause-after
returns-then-judges_none-clause-after g c =
    let alike = leaves_pool c.args.memory.now c.args.self.now c.args.pool.now (c.if-judges_none.ensures refl) in
    subst (λ x. OnOk c.work.result (c.work.new.self ≡ x)) alike.after c.work.ensures.after

pub returns-then-judges_none-clause-pool : goal.returns-then-judges_none-clause-pool
returns-then-judges_none-clause-pool g c =
    let alike = leaves_pool c.args.memory.now c.args.self.now c.args.pool.now (c.if-judges_none.ensures refl) in
    leaves_alone _ _ c.work.result alike.left

pub returns-then-judges_none-clause-memory : goal.returns-then-judges_none-clause-memory
returns-then-judges_none-clause-memory g c =
    let alike = leaves_pool c.args.memory.now c.args.self.now c.args.pool.now (c.if-judges_none.ensures refl) in
    subst (λ x. OnOk c.work.result (c.work.new.memory ≡ x)) alike.regions c.work.ensures.memory

pub returns-clause-own : goal.returns-clause-own
returns-clause-own g c = λ none.
    c.lend-2.ensures.pool ∙ ap (exchanged c.work-step.new.self.receiving.source) c.lend.ensures.pool
    ∙ left_alone c.args.memory.now _ c.args.self.now c.lend.new.self c.work-step.new.self c.args.pool.now c.work-step.result c.lend.ensures.after c.work-step.ensures.after c.work-step.ensures.err none
