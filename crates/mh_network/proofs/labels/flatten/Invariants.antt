use Rattle.std.proofs.Common.{◌≡◌, ◌≤◌, ◌<◌, ℕ, List, length}
use Rattle.mh_network.specs.inner.Labels.{label_of, LeadsDown}
use Rattle.mh_network.proofs.labels.flatten.Given as goal

abbrev pub invariant-loop-at : goal.invariant-loop-at
invariant-loop-at l = record {
  down : (p : ℕ) → label_of l.table p ≤ p;
  count : length l.table ≡ length l.initial.table;
  kept : (labels : List ℕ) → LeadsDown l.initial.table labels → LeadsDown l.table labels;
  flat : (labels : List ℕ) → LeadsDown l.initial.table labels → (p : ℕ) → p < l.at → label_of l.table p ≡ label_of labels p;
}
