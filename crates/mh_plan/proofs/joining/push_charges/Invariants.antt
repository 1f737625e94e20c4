use Rattle.std.proofs.Common.{◌≡◌, ◌++◌, map, take}
use Rattle.mh_plan.specs.Joined.{whole_charge}
use Rattle.mh_plan.proofs.joining.push_charges.Given as goal

abbrev pub invariant-loop-charge : goal.invariant-loop-charge
invariant-loop-charge l = l.charges.items ≡ l.fn.charges.items ++ map (whole_charge l.part) (take l.charge-index l.paid)
