use Rattle.iw_fpdu.proofs.Came.{first_kept}
use Rattle.test_frames.proofs.fpdu.came.Goals as goal

pub returns : goal.returns
returns c = first_kept c.in_ok-islands.islands.arrived c.add.new.self.arrived c.args.place c.args.octets.now c.in_ok-add.field-0 c.in_ok-islands.ensures c.in-Kept.is c.in_ok-add.ensures.answer c.in_ok-add.ensures.ok
