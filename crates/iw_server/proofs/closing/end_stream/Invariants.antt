use Rattle.iw_endpoint.specs.Endpoint.{broken}
use Rattle.iw_server.specs.Closing.{HandsBack}
use Rattle.iw_server.proofs.closing.end_stream.Given as goal

abbrev pub invariant-steps : goal.invariant-steps
invariant-steps l = HandsBack l.stream (broken l.fn.endpoint l.stream) l.endpoint
