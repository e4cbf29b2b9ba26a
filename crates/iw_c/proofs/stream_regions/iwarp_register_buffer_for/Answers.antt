use Rattle.std.proofs.Common.{◌≡◌, ℤ, pos, w32, to_z, of_z, rules}
use Rattle.std.specs.Result.{result_err}
use Rattle.iw_handle.specs.Refusals.{code_of}
use Rattle.iw_c.proofs.Coded.{coded_refusal, coded_memory}
use Rattle.iw_c.proofs.stream_regions.iwarp_register_buffer_for.Goals as goal

pub returns-clause-refused : goal.returns-clause-refused
returns-clause-refused c =
    let n : ℤ = to_z w32 (of_z w32 c.code.result) in
    let is : n ≡ pos (code_of (result_err c.register_buffer_for-done.result)) = search rules in
    coded_refusal _ c.register_buffer_for-done.result n c.register_buffer_for-done.ensures.refused is

pub returns-clause-memory : goal.returns-clause-memory
returns-clause-memory c =
    let n : ℤ = to_z w32 (of_z w32 c.code.result) in
    let is : n ≡ pos (code_of (result_err c.register_buffer_for-done.result)) = search rules in
    coded_memory _ c.register_buffer_for-done.result n c.register_buffer_for-done.ensures.memory is
