use Rattle.std.proofs.Common.{◌≡◌, ◌≤◌, ◌+◌, ◌*◌, [], length, take}
use Rattle.mh_network.specs.Selection.{value_of}
use Rattle.mh_network.proofs.totals.carried.Given as goal

-- each amount is below 2^64
abbrev pub invariant-loop-row : goal.invariant-loop-row
invariant-loop-row l = (l.sum ≡ value_of (take l.row-index l.flow) []) × (l.sum ≤ l.row-index * 18446744073709551615)

abbrev pub invariant-loop-charge : goal.invariant-loop-charge
invariant-loop-charge l = (l.sum ≡ value_of l.flow (take l.charge-index l.charges)) × (l.sum ≤ (length l.flow + l.charge-index) * 18446744073709551615)
