use Rattle.std.proofs.Common.{◌≡◌, ◌≤◌, length}
use Rattle.iw_endpoint.specs.Endpoint.{domain_numbers}
use Rattle.iw_endpoint.specs.Numbers.{filled}
use Rattle.iw_endpoint.proofs.pools.reach.Given as goal

abbrev pub invariant-loop-i : goal.invariant-loop-i
invariant-loop-i g l = record {
  same : filled domain_numbers l.places.items ≡ filled domain_numbers l.fn.places.items;
  most : length l.places.items ≤ domain_numbers;
  count : length l.places.items ≡ l._i;
}
