use Rattle.std.proofs.Common.{◌≡◌}
use Rattle.mh_flow.specs.Charged.{paid_below}
use Rattle.mh_flow.proofs.outcome.paid_charges.Given as goal

abbrev pub invariant-loop-link : goal.invariant-loop-link
invariant-loop-link l = l.charges.items ≡ paid_below l.problem l.link
