use Rattle.iw_stream.proofs.InPlace.{brings}
use Rattle.iw_stream.proofs.incoming.reading.read_in_place.Goals as goal

pub returns-clause-came : goal.returns-clause-came
returns-clause-came g c = λ some.
    let h = c.read_ahead.new.islands in
    let ready = c.read_ahead.ensures.ready in
    let place = c.end-place.result in
    let got = c.in_ok-got.got in
    brings h c.args.islands.now.arrived c.came_in_place.new.self.arrived c.args.n got place (g.R.Read.remaining c.args.from.now) (g.R.Read.remaining c.read_ahead.new.from) c.came_in_place.result
    c.read_ahead.ensures.arrived ready c.in_ok-got.ensures.few some c.end-place.ensures.end
    c.in_ok-got.ensures.octets c.came_in_place.ensures.can c.came_in_place.ensures.counted c.came_in_place.ensures.kept c.came_in_place.ensures.octets
