use Rattle.iw_crc.proofs.TableRules.{word_entry_is}
use Rattle.iw_crc.proofs.crc.word_entry.Goals as goal

pub returns : goal.returns
returns c = word_entry_is c.args.place c.args.octet c.requires c.ranges.octet.fits
