use Rattle.std.proofs.Common.{◌≡◌, ℤ, pos, w32, to_z, of_z, rules}
use Rattle.std.specs.Result.{result_err}
use Rattle.iw_handle.specs.Refusals.{code_of}
use Rattle.iw_c.proofs.Coded.{coded_kept}
use Rattle.iw_c.proofs.struct_posting.iwarp_post_buffer.Goals as goal

pub returns-clause-err : goal.returns-clause-err
returns-clause-err c =
    let n : ℤ = to_z w32 (of_z w32 c.code.result) in
    let is : n ≡ pos (code_of (result_err c.post_buffer.result)) = search rules in
    coded_kept c.args.handle.now.state c.args.number c.args.buffer.now.state c.post_buffer.new.self.state c.post_buffer.new.buffer.state c.post_buffer.result n c.post_buffer.ensures.err is
