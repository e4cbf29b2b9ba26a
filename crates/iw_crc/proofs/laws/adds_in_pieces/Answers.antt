use Rattle.iw_crc.proofs.Linear.{after_octets-append}
use Rattle.iw_crc.proofs.laws.adds_in_pieces.Goals as goal

pub returns : goal.returns
returns c = record { pieces = after_octets-append }
