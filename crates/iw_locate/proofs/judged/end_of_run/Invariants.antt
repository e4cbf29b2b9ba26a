use Rattle.std.proofs.Common.{◌≤◌, ◌<◌, ◌-◌, ℕ}
use Rattle.std.specs.VecDeque.{deque_len}
use Rattle.std.specs.List.{Contains}
use Rattle.iw_locate.specs.declared.judged.Record.{Record}
use Rattle.iw_locate.specs.Records.{from_of}
use Rattle.iw_locate.proofs.judged.end_of_run.Given as goal

abbrev pub invariant-run : goal.invariant-run
invariant-run g l = record {
  from : l.first ≤ l.at;
  low : l.place ≤ l.to;
  covered : (q : ℕ) → l.place ≤ q → q < l.to → (r : Record g.row.T.Denot) × Contains l.records.items r × (from_of r ≤ q) × (q < r.end);
}

abbrev pub decreases-run : goal.decreases-run
decreases-run g l = deque_len l.records - l.at
