use Rattle.std.proofs.Common.{◌≡◌, ℤ, pos, Some, w32, to_z, of_z, rules}
use Rattle.std.specs.Result.{result_err}
use Rattle.iw_handle.specs.Limits.{limits_refusal}
use Rattle.iw_handle.specs.Refusals.{code_of}
use Rattle.iw_handle.specs.State.{called_on}
use Rattle.iw_c.proofs.Coded.{coded_beside}
use Rattle.iw_c.proofs.sharing.iwarp_work_marked.Goals as goal

pub returns-clause-bad : goal.returns-clause-bad
returns-clause-bad c =
    let n : ℤ = to_z w32 (of_z w32 c.code.result) in
    let is : n ≡ pos (code_of (result_err c.work_marked.result)) = search rules in
    coded_beside (called_on c.args.handle.now.state c.args.number) (limits_refusal c.args.limits.now) c.work_marked.result n
    (λ held. c.work_marked.new.self.state ≡ Some held) c.work_marked.ensures.bad is
