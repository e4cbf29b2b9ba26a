use Rattle.std.proofs.Common.{◌≡◌, ℤ, pos, w32, to_z, of_z, rules}
use Rattle.iw_handle.specs.Openings.{refusal_to_open_shared_next}
use Rattle.std.specs.Result.{result_err}
use Rattle.iw_handle.specs.Refusals.{code_of}
use Rattle.iw_handle.specs.State.{refusal_in}
use Rattle.iw_handle.specs.Words.{domain_number}
use Rattle.iw_c.proofs.Coded.{coded_refusal_as, coded_memory_as}
use Rattle.iw_c.proofs.stream_opening.iwarp_open_shared_next.Goals as goal

pub returns-clause-refused : goal.returns-clause-refused
returns-clause-refused c =
    let n : ℤ = to_z w32 (of_z w32 c.code.result) in
    let is : n ≡ pos (code_of (result_err c.open_shared_next-done.result)) = search rules in
    let d : c.domain_number.result ≡ domain_number c.args.pd = c.domain_number.ensures in
    coded_refusal_as _ _ c.open_shared_next-done.result n (λ i. refusal_in c.args.handle.now.state (λ e. refusal_to_open_shared_next e (d i) c.args.role c.args.options c.args.private.now)) c.open_shared_next-done.ensures.refused is

pub returns-clause-memory : goal.returns-clause-memory
returns-clause-memory c =
    let n : ℤ = to_z w32 (of_z w32 c.code.result) in
    let is : n ≡ pos (code_of (result_err c.open_shared_next-done.result)) = search rules in
    let d : c.domain_number.result ≡ domain_number c.args.pd = c.domain_number.ensures in
    coded_memory_as _ _ c.open_shared_next-done.result n (λ i. refusal_in c.args.handle.now.state (λ e. refusal_to_open_shared_next e (d i) c.args.role c.args.options c.args.private.now)) c.open_shared_next-done.ensures.memory is
