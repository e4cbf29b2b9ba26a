use Rattle.std.proofs.Common.{◌≡◌, Some, Err, rules}
use Rattle.std.specs.Prelude.{length}
use Rattle.iw_handle.specs.StreamRegions.{refusal_to_limit}
use Rattle.iw_handle.proofs.Lent.{refused_with}
use Rattle.iw_handle.proofs.handle.Handle.register_buffer_for.Goals as goal

pub returns-clause-refused : goal.returns-clause-refused
returns-clause-refused c =
    let s : Some c.deref_mut.result.now ≡ c.args.self.now.state = search rules in
    let b : Some c.in-Some-take_vec.lent.octets.items ≡ c.args.buffer.now.state = search rules in
    refused_with (λ r. c.register_these-done.result ≡ Err r) (λ e octets. refusal_to_limit e c.args.number c.args.base (length octets) c.args.rights)
    c.deref_mut.result.now c.in-Some-take_vec.lent.octets.items c.args.self.now.state c.args.buffer.now.state s b c.register_these-done.ensures.refused
