-- What was shown of the emission has the octets that went out behind the others.
use Rattle.std.proofs.Common.{◌≡◌, length, true, sym, subst, ap, ◌∙◌}
use Rattle.iw_endpoint.specs.Endpoint.{has_stream}
use Rattle.iw_laws.specs.Rules.{EndState, end_after}
use Rattle.iw_events.specs.declared.act.Act.TheVariants.{Stream}
use Rattle.iw_events.specs.declared.act.StreamAct.TheVariants.{Emit}
use Rattle.iw_world.proofs.Steps.{emission_left}
use Rattle.iw_world.proofs.host.Host.emit.Goals as goal

pub returns-clause-state : goal.returns-clause-state
returns-clause-state g c =
    let s : EndState = record { endpoint = c.self.inside.endpoint; wires = c.self.inside.wires.items } in
    let there : has_stream s.endpoint c.args.number ≡ true = ap (λ (z : EndState). has_stream z.endpoint c.args.number) c.self.view_is ∙ c.requires.there in
    let laid : length s.wires ≡ length s.endpoint.streams = subst (λ (z : EndState). length z.wires ≡ length z.endpoint.streams) (sym c.self.view_is) c.requires.laid in
    emission_left s c.args.number c.in_ok-shown.shown c.emit.new.endpoint c.index_mut-wire.result.now c.emit.new.self there laid c.in_ok-shown.ensures.shown c.in_ok-shown.ensures.after c.index_mut-wire.ensures.value c.in_ok-shown.ensures.wire
    ∙ ap (λ (z : EndState). end_after z (Stream c.args.number (Emit c.in_ok-shown.shown))) c.self.view_is
