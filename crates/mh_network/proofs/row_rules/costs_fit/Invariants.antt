use Rattle.std.proofs.Common.{◌≡◌, ◌+◌, ◌^◌, ◌-◌, min, sum, take}
use Rattle.std.specs.List.{sum_by}
use Rattle.mh_network.proofs.row_rules.costs_fit.Given as goal

abbrev pub invariant-loop-cost : goal.invariant-loop-cost
invariant-loop-cost l = l.sum ≡ min (sum (take l.cost-index l.costs)) (2 ^ 64 - 1)

abbrev pub invariant-loop-row : goal.invariant-loop-row
invariant-loop-row l = l.sum ≡ min (sum l.costs + sum_by (λ r. r.charge) (take l.row-index l.rows)) (2 ^ 64 - 1)
