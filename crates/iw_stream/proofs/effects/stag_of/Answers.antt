use Rattle.iw_stream.proofs.Stags.{stag_of-number}
use Rattle.iw_stream.proofs.effects.stag_of.Goals as goal

pub returns : goal.returns
returns c = stag_of-number c.from-stag.result c.args.number c.known.ensures c.from-stag.ensures
