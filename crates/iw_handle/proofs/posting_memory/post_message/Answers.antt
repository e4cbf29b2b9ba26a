use Rattle.std.proofs.Common.{◌≡◌, true}
use Rattle.iw_queues.specs.Outgoing.{request_of as request_in}
use Rattle.iw_stream.specs.declared.answer.PostRefusal.TheVariants as post
use Rattle.iw_endpoint.specs.declared.refusal.CallRefusal.TheVariants as call
use Rattle.iw_endpoint.specs.Endpoint.{post_refusal}
use Rattle.iw_handle.specs.Refusals.{post_reason}
use Rattle.iw_handle.proofs.Chains.{paired_refused_in, paired_memory}
use Rattle.iw_handle.proofs.posting_memory.post_message.Goals as goal

pub returns-in-Err-clause-refused : goal.returns-in-Err-clause-refused
returns-in-Err-clause-refused c =
    paired_refused_in post_reason (true ≡ true) (post_refusal c.args.held.now.endpoint c.args.number (request_in c.args.message))
    c.in-Err.refusal c.post_reason.result c.post_reason.ensures c.in-Err.ensures.refused

pub returns-in-Err-clause-memory : goal.returns-in-Err-clause-memory
returns-in-Err-clause-memory c =
    paired_memory post_reason (post_refusal c.args.held.now.endpoint c.args.number (request_in c.args.message))
    c.in-Err.refusal (call.Refused post.NoMemory) c.post_reason.result c.post_reason.ensures c.in-Err.ensures.memory
