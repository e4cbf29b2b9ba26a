use Rattle.std.proofs.Common.{sym}
use Rattle.std.proofs.lemmas.Bool.{false≢true}
use Rattle.iw_endpoint.specs.Endpoint.{emission_at}
use Rattle.iw_handle.proofs.Frames.{is_frame}
use Rattle.iw_handle.proofs.buffers.emit_onto.Goals as goal

pub returns-in-Err-Refused-clause-want : goal.returns-in-Err-Refused-clause-want
returns-in-Err-Refused-clause-want c = λ wanting.
    let there = sym c.in-Ok.ensures.stream in
    is_frame (emission_at c.args.endpoint.now c.args.number)
    (λ is. false≢true (c.in-Err-Refused.ensures.memory there is))
    (λ fault is. false≢true (c.in-Err-Refused.ensures.denied there fault is))

pub returns-in-Err-Refused-clause-room : goal.returns-in-Err-Refused-clause-room
returns-in-Err-Refused-clause-room c = λ wanting fits. c.in-Err-Refused.ensures.room (sym c.in-Ok.ensures.stream) fits
