use Rattle.std.proofs.Common.{◌≡◌, ◌<◌, ℕ, List, length, drop, sym, ap, ◌∙◌, subst, arith, length-drop}
use Rattle.iw_queues.specs.declared.request.Request.{Request}
use Rattle.iw_queues.specs.Completions.{Outstanding}
use Rattle.iw_queues.specs.Inside.{queue_of}
use Rattle.iw_queues.specs.Queue.{Queue, IsNext, IsWithinLimits}
use Rattle.iw_queues.proofs.Limits.{limits_ended, next_small, some_first}
use Rattle.iw_queues.proofs.send_queue.SendQueue.part_sent.Goals as goal

pub overflow_add-self : goal.overflow_add-self
overflow_add-self g c =
    let q : Queue = queue_of c.self.inside.sent c.self.inside.unsent.items c.self.inside.offset in
    let next : IsNext q c.args.n c.args.last = subst (λ s. IsNext s c.args.n c.args.last) (sym c.self.view_is) c.requires in
    omega (arith, next_small q c.args.n c.args.last next c.self.invariant.limits)

pub invariant_of-self-2 : goal.invariant_of-self-2
invariant_of-self-2 g c =
    let q : Queue = queue_of c.self.inside.sent c.self.inside.unsent.items c.self.inside.offset in
    let some : 0 < length c.self.inside.unsent.items = some_first c.self.inside.unsent.items c.in-Some.kind (sym c.in-Some.is ∙ c.take_first.ensures.kind) in
    let others : drop 1 c.self.inside.unsent.items ≡ c.take_first.new.messages.items = sym c.take_first.ensures.rest in
    record {
      limits =
          subst (λ (messages : List (Request (List ℕ))). IsWithinLimits (record { sent = c.add.new.self.outstanding; unsent = messages; offset = 0 })) others
          (subst (λ (o : Outstanding). IsWithinLimits (record { sent = o; unsent = drop 1 c.self.inside.unsent.items; offset = 0 })) (sym c.add.ensures.added)
          (limits_ended q c.in-Some.kind some c.self.invariant.limits));
      room = omega (arith, c.self.invariant.room, c.add.ensures.room, ap length c.take_first.ensures.rest, length-drop 1 c.self.inside.unsent.items, some);
    }
