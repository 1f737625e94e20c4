use Rattle.std.proofs.Common.{◌≡◌, ◌++◌}
use Rattle.mh_site.proofs.extending.join.Given as goal

abbrev pub invariant-loop-item : goal.invariant-loop-item
invariant-loop-item g l = l.items.items ≡ l.fn.first ++ l.yielded
