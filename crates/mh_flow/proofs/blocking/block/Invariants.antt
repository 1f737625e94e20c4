use Rattle.std.proofs.Common.{◌≡◌, ℕ, sum}
use Rattle.mh_flow.specs.Phases.{Pushes}
use Rattle.mh_flow.proofs.Blocked.{IsBlocking}
use Rattle.mh_flow.proofs.blocking.block.Given as goal

abbrev pub invariant-loop-run : goal.invariant-loop-run
invariant-loop-run l = record {
  blocking : IsBlocking l.fn.run l.run l.places.links.items l.places.points.items l.point;
  point : l.path.point ≡ l.point;
  pushes : (n : ℕ) × Pushes n l.fn.run l.run;
}

abbrev pub decreases-loop-run : goal.decreases-loop-run
decreases-loop-run l = sum l.run.cost_left

abbrev pub invariant-loop-point : goal.invariant-loop-point
invariant-loop-point l = record {
  blocking : IsBlocking l.fn.run l.run l.places.links.items l.places.points.items l.point;
  pushes : (n : ℕ) × Pushes n l.fn.run l.run;
}
