use Rattle.std.proofs.Common.{◌≡◌, ℤ, pos, w32, to_z, of_z, rules}
use Rattle.std.specs.Result.{result_err}
use Rattle.iw_handle.specs.Refusals.{code_of}
use Rattle.iw_handle.specs.State.{refusal_in}
use Rattle.iw_handle.specs.Streams.{refusal_to_post, read_of}
use Rattle.iw_handle.specs.Words.{read_request}
use Rattle.iw_c.proofs.Coded.{coded_refusal_as, coded_memory_as}
use Rattle.iw_c.proofs.posting.iwarp_post_read.Goals as goal

pub returns-clause-refused : goal.returns-clause-refused
returns-clause-refused c =
    let n : ℤ = to_z w32 (of_z w32 c.code.result) in
    let is : n ≡ pos (code_of (result_err c.post_read.result)) = search rules in
    let r : c.read_request-request.result ≡ read_request c.args.sink c.args.sink_to c.args.size c.args.source c.args.source_to = c.read_request-request.ensures in
    coded_refusal_as _ _ c.post_read.result n (λ i. refusal_in c.args.handle.now.state (λ e. refusal_to_post e c.args.number (read_of (r i)))) c.post_read.ensures.refused is

pub returns-clause-memory : goal.returns-clause-memory
returns-clause-memory c =
    let n : ℤ = to_z w32 (of_z w32 c.code.result) in
    let is : n ≡ pos (code_of (result_err c.post_read.result)) = search rules in
    let r : c.read_request-request.result ≡ read_request c.args.sink c.args.sink_to c.args.size c.args.source c.args.source_to = c.read_request-request.ensures in
    coded_memory_as _ _ c.post_read.result n (λ i. refusal_in c.args.handle.now.state (λ e. refusal_to_post e c.args.number (read_of (r i)))) c.post_read.ensures.memory is
