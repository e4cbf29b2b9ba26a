use Rattle.std.proofs.Common.{◌≤◌, ◌-◌, vec_len, vec_capacity}
use Rattle.iw_endpoint.proofs.scrap.fill.Given as goal

abbrev pub invariant-zeros : goal.invariant-zeros
invariant-zeros g l = record {
  len : vec_len l.octets ≤ 4096;
  room : 4096 ≤ vec_capacity l.octets;
  memory : vec_capacity l.octets ≤ 4096;
}

abbrev pub decreases-zeros : goal.decreases-zeros
decreases-zeros g l = 4096 - vec_len l.octets
