use Rattle.std.proofs.Common.{◌≡◌, take}
use Rattle.iw_crc.specs.Crc.{after_octets}
use Rattle.iw_crc.proofs.crc.octets_added.Given as goal

abbrev pub invariant-loop-octet : goal.invariant-loop-octet
invariant-loop-octet l = l.remainder ≡ after_octets l.fn.remainder (take l.octet-index l.octets)
