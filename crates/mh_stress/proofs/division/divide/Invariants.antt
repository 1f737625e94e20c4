use Rattle.std.proofs.Common.{◌≡◌}
use Rattle.mh_stress.specs.Divisions.{calls_in, changes_in}
use Rattle.mh_stress.proofs.division.divide.Given as goal

abbrev pub invariant-loop-step : goal.invariant-loop-step
invariant-loop-step l = record {
  calls : l.calls.items ≡ calls_in l.yielded;
  changes : l.changes.items ≡ changes_in l.yielded;
}
