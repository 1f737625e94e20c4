use Rattle.std.proofs.Common.{ℕ, ◌<◌, ◌≤◌, ◌+◌, length}
use Rattle.std.specs.Prelude.{get_or}
use Rattle.std.specs.Int.Signed.{◌<ℤ◌}
use Rattle.mh_code.specs.declared.index.Entry.{Entry}
use Rattle.mh_code.proofs.index.search.Given as goal

-- what stands before low is lower, and what stands from low + count on is higher
abbrev pub invariant-loop-count : goal.invariant-loop-count
invariant-loop-count l = record {
  inside : l.low + l.count ≤ length l.entries;
  lower : (j : ℕ) (d : Entry) → j < l.low → (get_or l.entries j d).key <ℤ l.key;
  higher : (j : ℕ) (d : Entry) → l.low + l.count ≤ j → j < length l.entries → l.key <ℤ (get_or l.entries j d).key;
}

abbrev pub decreases-loop-count : goal.decreases-loop-count
decreases-loop-count l = l.count
