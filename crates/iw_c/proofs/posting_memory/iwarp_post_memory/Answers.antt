use Rattle.std.proofs.Common.{◌≡◌, ℤ, pos, w32, to_z, of_z, rules}
use Rattle.std.specs.Result.{result_err}
use Rattle.iw_handle.specs.Refusals.{code_of}
use Rattle.iw_c.proofs.Coded.{coded_memory}
use Rattle.iw_c.proofs.posting_memory.iwarp_post_memory.Goals as goal

pub returns-clause-memory : goal.returns-clause-memory
returns-clause-memory c =
    let n : ℤ = to_z w32 (of_z w32 c.code.result) in
    let is : n ≡ pos (code_of (result_err c.post_memory.result)) = search rules in
    coded_memory _ c.post_memory.result n c.post_memory.ensures.memory is
