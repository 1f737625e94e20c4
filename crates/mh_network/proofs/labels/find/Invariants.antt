use Rattle.std.proofs.Common.{◌≡◌, ◌≤◌, ◌<◌, ℕ, List, length}
use Rattle.mh_network.specs.inner.Labels.{label_of, LeadsDown}
use Rattle.mh_network.proofs.labels.find.Given as goal

abbrev pub invariant-loop-table : goal.invariant-loop-table
invariant-loop-table l = record {
  inside : l.at < length l.table;
  down : (p : ℕ) → label_of l.table p ≤ p;
  count : length l.table ≡ length l.initial.table;
  kept : (labels : List ℕ) → LeadsDown l.initial.table labels → LeadsDown l.table labels;
  value : (labels : List ℕ) → LeadsDown l.initial.table labels → label_of labels l.at ≡ label_of labels l.point;
}

abbrev pub decreases-loop-table : goal.decreases-loop-table
decreases-loop-table l = l.at
