use Rattle.std.proofs.Common.{◌≡◌, ◌<◌, ◌≤◌, ◌+◌, ℕ, length}
use Rattle.mh_flow.specs.Carried.{number_at}
use Rattle.mh_flow.specs.Levels.{far}
use Rattle.mh_flow.proofs.levels.sink_level.Given as goal

abbrev pub invariant-loop-at : goal.invariant-loop-at
invariant-loop-at l = record {
  bound : l.sink ≤ far;
  found : l.sink < far → (p : ℕ) × (p < length l.points) × (0 < number_at l.cost_left p) × (number_at l.points p + 1 ≡ l.sink);
  least : (p : ℕ) → p < l.at → 0 < number_at l.cost_left p → l.sink ≤ number_at l.points p + 1;
}
