use Rattle.iw_crc.proofs.TableRules.{turn_entry_is}
use Rattle.iw_crc.proofs.crc.turn_entry.Goals as goal

pub returns : goal.returns
returns c = turn_entry_is c.args.place c.args.octet c.requires c.ranges.octet.fits
