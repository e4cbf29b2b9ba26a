use Rattle.std.proofs.Common.{◌≡◌, ℤ, pos, w32, to_z, of_z, rules}
use Rattle.std.specs.Result.{result_err}
use Rattle.iw_handle.specs.Refusals.{code_of}
use Rattle.iw_c.proofs.Coded.{coded_refusal}
use Rattle.iw_c.proofs.registering.iwarp_register_as.Goals as goal

pub returns-clause-bad : goal.returns-clause-bad
returns-clause-bad c =
    let n : ℤ = to_z w32 (of_z w32 c.code.result) in
    let is : n ≡ pos (code_of (result_err c.register_as-done.result)) = search rules in
    coded_refusal _ c.register_as-done.result n c.register_as-done.ensures.bad is
