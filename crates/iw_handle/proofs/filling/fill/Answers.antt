use Rattle.std.proofs.Common.{sym, ap, ◌∙◌}
use Rattle.std.specs.Prelude.{vec_len, vec_capacity}
use Rattle.std.specs.Result.{result_err}
use Rattle.std.proofs.lemmas.Option.{same_Some}
use Rattle.iw_handle.specs.Filling.{TakesMemoryForReads}
use Rattle.iw_handle.proofs.Stopped.{out_of_memory}
use Rattle.iw_handle.proofs.filling.fill.Goals as goal

pub returns-in-Err-clause-room : goal.returns-in-Err-clause-room
returns-in-Err-clause-room c = λ wanting.
    out_of_memory _ c.args.endpoint.now c.args.number c.in-Err.stop (TakesMemoryForReads c.args.endpoint.now c.args.number (vec_len c.args.out.now) (vec_capacity c.args.out.now)) c.in-Err.ensures.refused c.in-Err.ensures.room
    (sym c.stop_reason.ensures ∙ same_Some _ _ (ap result_err wanting))
