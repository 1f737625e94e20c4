use Rattle.std.proofs.Common.{◌≡◌, ◌≤◌, ◌*◌, take}
use Rattle.std.specs.List.{sum_by}
use Rattle.mh_text.proofs.lines.plans.sum_of.Given as goal

-- each count is below 2^64
abbrev pub invariant-loop-count : goal.invariant-loop-count
invariant-loop-count l = (l.sum ≡ sum_by (λ n. n) (take l.count-index l.counts)) × (l.sum ≤ l.count-index * 18446744073709551615)
