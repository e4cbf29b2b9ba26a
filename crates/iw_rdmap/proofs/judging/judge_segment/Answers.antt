use Rattle.iw_rdmap.proofs.Fronts.{payload_front}
use Rattle.iw_rdmap.proofs.judging.judge_segment.Goals as goal

pub overflow_sub-n : goal.overflow_sub-n
overflow_sub-n c =
    let read = rw c.in-Ok-Untagged.field-0-is at c.in-Ok-Untagged.ensures in
    (payload_front c.args.first.now c.in-Ok-Untagged.head c.in-Ok-Untagged.payload.now c.args.len c.from-n.result read c.requires c.from-n.ensures).0

pub judge_request-requires : goal.judge_request-requires
judge_request-requires c =
    let read = rw c.in-Ok-Untagged.field-0-is at c.in-Ok-Untagged.ensures in
    (payload_front c.args.first.now c.in-Ok-Untagged.head c.in-Ok-Untagged.payload.now c.args.len c.from-n.result read c.requires c.from-n.ensures).1

pub judge_terminate-requires : goal.judge_terminate-requires
judge_terminate-requires c =
    let read = rw c.in-Ok-Untagged.field-0-is at c.in-Ok-Untagged.ensures in
    (payload_front c.args.first.now c.in-Ok-Untagged.head c.in-Ok-Untagged.payload.now c.args.len c.from-n.result read c.requires c.from-n.ensures).1
