use Rattle.std.proofs.Common.{◌∙◌, arith}
use Rattle.iw_fpdu.proofs.Written.{cut_pad}
use Rattle.iw_fpdu.proofs.writer.append_pad.Goals as goal

pub returns-clause-items : goal.returns-clause-items
returns-clause-items g c =
    c.truncate.ensures.items ∙ cut_pad c.args.out.now.items c.append.new.out.items _ c.args.pad c.append.ensures.items (omega (arith, c.len.ensures, c.args.out.now.ok.0)) c.requires.few
