use Rattle.std.proofs.Common.{◌≡◌, ◌<◌, ◌≤◌, ℕ, length}
use Rattle.slab.specs.Slab.{get}
use Rattle.iw_server.specs.Lateness.{IsLate}
use Rattle.iw_server.proofs.server.Server.drop_late.Given as goal

abbrev pub invariant-keys : goal.invariant-keys
invariant-keys g l = record {
  begun : l.self.begun ≡ l.fn.self.begun;
  terms : l.self.terms ≡ l.fn.self.terms;
  kept : (key : ℕ) → ¬ IsLate l.fn.self.terms l.now (get l.fn.self.places key) → get l.self.places key ≡ get l.fn.self.places key;
  dropped : (key : ℕ) → key < l.key → ¬ IsLate l.fn.self.terms l.now (get l.self.places key);
  slots : length l.self.places.slots ≤ l.key-end;
}
