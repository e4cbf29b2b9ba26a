use Rattle.std.proofs.Common.{◌≡◌, ◌≤◌, ℕ}
use Rattle.slab.specs.Slab.{get}
use Rattle.iw_server.specs.Lateness.{HasOpened}
use Rattle.iw_server.proofs.server.Server.take_in.Given as goal

abbrev pub invariant-arrivals : goal.invariant-arrivals
invariant-arrivals g l = record {
  begun : l.self.begun ≤ l.count;
  kept : (key : ℕ) → HasOpened (get l.fn.self.places key) → get l.self.places key ≡ get l.fn.self.places key;
}
