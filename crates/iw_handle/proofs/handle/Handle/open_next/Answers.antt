use Rattle.std.proofs.Common.{◌≡◌, Some, Err, rules}
use Rattle.iw_handle.specs.Openings.{refusal_to_open_next}
use Rattle.iw_handle.proofs.Chains.{refused_in}
use Rattle.iw_handle.proofs.handle.Handle.open_next.Goals as goal

pub returns-clause-refused : goal.returns-clause-refused
returns-clause-refused c =
    let s : Some c.deref_mut.result.now ≡ c.args.self.now.state = search rules in
    refused_in (λ r. c.open_next-done.result ≡ Err r) (λ e. refusal_to_open_next e c.args.pd c.args.role c.args.options c.args.private.now)
    c.deref_mut.result.now c.args.self.now.state s c.open_next-done.ensures.refused
