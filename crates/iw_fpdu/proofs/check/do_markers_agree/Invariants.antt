use Rattle.std.proofs.Common.{◌≡◌, ◌<◌, ◌≤◌, ◌+◌, ◌-◌, ◌%◌, ◌^◌, ℕ, true}
use Rattle.iw_fpdu.specs.PiecesOctet.{octet_from}
use Rattle.iw_fpdu.specs.Reading.{marker_agrees}
use Rattle.iw_fpdu.proofs.check.do_markers_agree.Given as goal

abbrev pub invariant-loop-place : goal.invariant-loop-place
invariant-loop-place l =
    (l.place % 512 ≡ 0) × (l.from ≤ l.place) × (l.place < 2 ^ 63 + 2 ^ 62 + 2 ^ 10)
    × ((q : ℕ) → l.from ≤ q → q < l.place → marker_agrees (octet_from l.from l.octets) l.start q ≡ true)

abbrev pub decreases-loop-place : goal.decreases-loop-place
decreases-loop-place l = l.end - l.place
