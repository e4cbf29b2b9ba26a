use Rattle.iw_endpoint.specs.Endpoint.{new_stream, next_number}
use Rattle.iw_endpoint.proofs.Opened.{stands_next}
use Rattle.iw_endpoint.proofs.endpoint.Endpoint.open_next.Goals as goal

pub returns-in-Ok-clause-ok : goal.returns-in-Ok-clause-ok
returns-in-Ok-clause-ok g c =
    stands_next c.args.self.now c.put.new.self (next_number c.args.self.now) c.in_ok-number.number (λ n. new_stream n c.args.pd c.args.role c.args.config) c.in_ok-number.ensures.number (c.in-Ok.ensures.ok _ c.new-stream.ensures)
