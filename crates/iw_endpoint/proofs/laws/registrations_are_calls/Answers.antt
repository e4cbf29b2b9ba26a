use Rattle.iw_endpoint.proofs.Registrations.{registrations_called}
use Rattle.iw_endpoint.proofs.laws.registrations_are_calls.Goals as goal

pub returns : goal.returns
returns c = registrations_called
