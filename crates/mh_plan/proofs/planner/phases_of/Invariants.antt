use Rattle.std.proofs.Common.{◌≡◌, ◌<◌, ℕ, length, get_or}
use Rattle.mh_plan.specs.inner.Shares.{run_at}
use Rattle.mh_plan.proofs.planner.phases_of.Given as goal

abbrev pub invariant-loop-part : goal.invariant-loop-part
invariant-loop-part l = record {
  count : length l.phases.items ≡ l.part;
  value : (i : ℕ) → i < l.part → get_or l.phases.items i 0 ≡ (run_at l.runs i).phases;
}
