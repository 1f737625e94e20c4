use Rattle.std.proofs.Common.{◌≡◌}
use Rattle.mh_plan.specs.Joined.{joined, charges_of}
use Rattle.mh_plan.specs.inner.Shares.{run_at}
use Rattle.mh_plan.proofs.joining.join_charges.Given as goal

abbrev pub invariant-loop-part : goal.invariant-loop-part
invariant-loop-part l = l.charges.items ≡ joined (charges_of l.parts (run_at l.runs)) l.part
