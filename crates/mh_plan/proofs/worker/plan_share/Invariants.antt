use Rattle.std.proofs.Common.{◌≡◌, ◌<◌, ◌+◌, ◌*◌, ◌-◌, ℕ, length, slice_index_or}
use Rattle.mh_network.specs.Parts.{part_at, part_problem}
use Rattle.mh_plan.specs.Solved.{IsSolved, no_run}
use Rattle.mh_plan.proofs.worker.plan_share.Given as goal

abbrev pub invariant-loop-part : goal.invariant-loop-part
invariant-loop-part g l = record {
  room : length l.places.items ≡ length l.problem.costs;
  place : l.part ≡ l.worker + length l.runs.items * l.workers;
  solved : (t : ℕ) → t < length l.runs.items → IsSolved (part_problem l.problem (part_at l.parts (l.worker + t * l.workers))) (slice_index_or l.runs.items t no_run);
}

abbrev pub decreases-loop-part : goal.decreases-loop-part
decreases-loop-part g l = length l.parts + l.workers - l.part
