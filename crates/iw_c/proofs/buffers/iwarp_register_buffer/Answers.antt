use Rattle.std.proofs.Common.{◌≡◌, ℤ, pos, w32, to_z, of_z, rules}
use Rattle.std.specs.Result.{result_err}
use Rattle.std.specs.Prelude.{length}
use Rattle.iw_handle.specs.Refusals.{code_of}
use Rattle.iw_handle.specs.Regions.{refusal_to_register}
use Rattle.iw_handle.specs.State.{refusal_with}
use Rattle.iw_handle.specs.Words.{domain_number}
use Rattle.iw_c.proofs.Coded.{coded_refusal_as, coded_memory_as}
use Rattle.iw_c.proofs.buffers.iwarp_register_buffer.Goals as goal

pub returns-clause-refused : goal.returns-clause-refused
returns-clause-refused c =
    let n : ℤ = to_z w32 (of_z w32 c.code.result) in
    let is : n ≡ pos (code_of (result_err c.register_buffer-done.result)) = search rules in
    let d : c.domain_number.result ≡ domain_number c.args.pd = c.domain_number.ensures in
    coded_refusal_as _ _ c.register_buffer-done.result n (λ i. refusal_with c.args.handle.now.state c.args.buffer.now.state (λ e octets. refusal_to_register e (d i) c.args.base (length octets) c.args.rights)) c.register_buffer-done.ensures.refused is

pub returns-clause-memory : goal.returns-clause-memory
returns-clause-memory c =
    let n : ℤ = to_z w32 (of_z w32 c.code.result) in
    let is : n ≡ pos (code_of (result_err c.register_buffer-done.result)) = search rules in
    let d : c.domain_number.result ≡ domain_number c.args.pd = c.domain_number.ensures in
    coded_memory_as _ _ c.register_buffer-done.result n (λ i. refusal_with c.args.handle.now.state c.args.buffer.now.state (λ e octets. refusal_to_register e (d i) c.args.base (length octets) c.args.rights)) c.register_buffer-done.ensures.memory is
