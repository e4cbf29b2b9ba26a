use Rattle.std.proofs.Common.{◌≡◌, ◌+◌, ◌-◌, ◌++◌, true, length, Option, refl, sym, ap, subst, ◌∙◌, arith, inl, inr}
use Rattle.std.proofs.lemmas.List.{length-append}
use Rattle.std.specs.Prelude.{vec_len, vec_capacity}
use Rattle.iw_connection.specs.declared.filling.Filled.{Filled}
use Rattle.iw_connection.specs.Filling.{is_frame, Stopped}
use Rattle.iw_endpoint.specs.Endpoint.{has_stream, sent_at, emission_at, emitted_at}
use Rattle.iw_connection.proofs.Emissions.{none_emitted, one_emitted, one_longer, fills_stopped}
use Rattle.iw_connection.proofs.There.{still_there}
use Rattle.iw_connection.proofs.Sent.{sent_after}
use Rattle.iw_connection.proofs.filling.fill_frames.Goals as goal

pub returns-in-Ok-Some-clause-ok : goal.returns-in-Ok-Some-clause-ok
returns-in-Ok-Some-clause-ok g c =
    let inv = c.frames.invariant in
    let at = c.frames.endpoint in
    let number = c.args.number in
    let s = c.in-Ok-Some.ensures in
    fills_stopped c.args.endpoint.now at c.emit.new.endpoint number c.args.most c.frames.n (vec_capacity c.emit.new.out) c.args.out.now.items c.frames.out.items c.emit.new.out.items c.in-Ok-Some.stopped inv.emits
    (omega (arith, c.len.ensures, c.len-begun.ensures, c.if-filled-most.false, inv.grows)) (subst (λ (o : Option Filled). Stopped (emission_at at number) o) c.in-Ok-Some.field-0-is s.stopped)
    (s.out ∙ ap (λ xs. xs ++ emitted_at at number) c.is_held.ensures.items) s.after

pub frames-init : goal.frames-init
frames-init g c =
    let had = c.in_ok-sent.ensures in
    record {
      emits = none_emitted c.args.endpoint.now c.args.number c.args.out.now.items;
      first = inr (refl, refl, refl);
      there = had.there;
      place = omega (arith, had.sent, c.len-begun.ensures);
      begun = omega (arith, c.len-begun.ensures);
      grows = omega (arith, c.len-begun.ensures);
      long = omega (arith, c.len-begun.ensures);
      few = inl (omega (arith, c.len-begun.ensures));
    }

pub frames-preserved : goal.frames-preserved
frames-preserved g c =
    let inv = c.frames.invariant in
    let at = c.frames.endpoint in
    let number = c.args.number in
    let out = c.frames.out.items in
    let after = c.emit.new.out.items in
    let rest = c.args.most - (c.len.result - c.len-begun.result) in
    let s = c.in-Ok-None.ensures in
    let frame : is_frame (emission_at at number) ≡ true = subst (λ (o : Option Filled). Stopped (emission_at at number) o) c.in-Ok-None.field-0-is s.stopped in
    let kept : vec_len c.is_held.new.out ≡ length out = c.is_held.new.out.ok.0 ∙ ap length c.is_held.ensures.items in
    let put : after ≡ out ++ emitted_at at number = s.out ∙ ap (λ xs. xs ++ emitted_at at number) c.is_held.ensures.items in
    let grown : length after ≡ length out + length (emitted_at at number) = ap length put ∙ length-append out (emitted_at at number) in
    let longer = one_longer at number c.frames.n c.len-begun.result c.args.most rest (vec_len c.is_held.new.out) (length after) (vec_capacity c.is_held.new.out) frame (c.is_held.ensures.fits c.if-is_held.false)
    (omega (arith, grown, kept)) (omega (arith, kept, inv.grows)) (omega (arith, kept, inv.long)) (omega (arith, kept, c.len.ensures, c.if-filled-most.false, inv.grows)) in
    record {
      emits = one_emitted c.args.endpoint.now at c.emit.new.endpoint number c.frames.n c.args.out.now.items out after inv.emits frame put s.after;
      first = inl (omega arith);
      there = subst (λ e. has_stream e number ≡ true) (sym s.after) (still_there at number inv.there);
      place = (let gone : sent_at c.emit.new.endpoint number ≡ sent_at at number + length (emitted_at at number) = ap (λ e. sent_at e number) s.after ∙ sent_after at number inv.there in
          omega (arith, gone, grown, inv.place));
      begun = inv.begun;
      grows = omega (arith, grown, inv.grows);
      long = longer.0;
      few = longer.1;
    }
