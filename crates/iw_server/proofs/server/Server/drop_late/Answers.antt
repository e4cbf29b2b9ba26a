use Rattle.std.proofs.Common.{◌∙◌, refl, sym, ap, subst, arith, length}
use Rattle.std.proofs.lemmas.Bool.{true≢false}
use Rattle.std.proofs.lemmas.List.{length-set}
use Rattle.slab.specs.Slab.{get}
use Rattle.iw_server.specs.Lateness.{IsLate}
use Rattle.iw_server.proofs.Swept.{sweep_keeps, sweep_drops, spared}
use Rattle.iw_server.proofs.server.Server.drop_late.Goals as goal
use Rattle.iw_server.proofs.server.Server.drop_late.Goals.{then-is_late, else-is_late}

pub keys-preserved : goal.keys-preserved
keys-preserved g c =
    let inv = c.keys.invariant in
    let now = c.args.now in
    let places = c.keys.self.places in
    elim c.if-is_late.branch [
      | then-is_late w ↦
          let gone = w.end.ensures.gone in
          let silent = subst (λ t. IsLate t now (get places c.keys.key)) inv.terms (w.if-is_late.ensures.0 refl) in
          rw w.self-is (record {
            begun = w.end.ensures.begun ∙ inv.begun;
            terms = w.end.ensures.terms ∙ inv.terms;
            kept = sweep_keeps _ now _ _ _ _ gone silent inv.kept;
            dropped = sweep_drops _ now _ _ _ gone inv.dropped;
            slots = omega (arith, inv.slots, simp length-set at (ap length gone));
          })
      | else-is_late w ↦
          let alive = subst (λ t. ¬ IsLate t now (get places c.keys.key)) inv.terms (λ silent. true≢false (sym (w.if-is_late.ensures.1 silent))) in
          rw w.self-is (record {
            begun = inv.begun;
            terms = inv.terms;
            kept = inv.kept;
            dropped = spared _ now _ _ alive inv.dropped;
            slots = inv.slots;
          })
    ]
