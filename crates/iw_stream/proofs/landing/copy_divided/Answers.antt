use Rattle.std.proofs.Common.{length, refl}
use Rattle.iw_octets.proofs.Runs.{gives-add_up, gives-join_to}
use Rattle.iw_stream.proofs.landing.copy_divided.Goals as goal

pub gather-requires : goal.gather-requires
gather-requires c κs = ((refl, tt), (tt, (tt, gives-add_up c.args.payload (length c.args.out.now) c.requires)))

pub returns : goal.returns
returns c = gives-join_to c.args.payload c.gather.new.out c.gather.ensures
