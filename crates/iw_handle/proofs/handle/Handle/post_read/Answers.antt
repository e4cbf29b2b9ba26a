use Rattle.std.proofs.Common.{◌≡◌, Some, Err, rules}
use Rattle.iw_handle.specs.Streams.{refusal_to_post, read_of}
use Rattle.iw_handle.proofs.Chains.{refused_in}
use Rattle.iw_handle.proofs.handle.Handle.post_read.Goals as goal

pub returns-clause-refused : goal.returns-clause-refused
returns-clause-refused c =
    let s : Some c.deref_mut.result.now ≡ c.args.self.now.state = search rules in
    refused_in (λ r. c.post-done.result ≡ Err r) (λ e. refusal_to_post e c.args.number (read_of c.args.request))
    c.deref_mut.result.now c.args.self.now.state s c.post-done.ensures.refused
