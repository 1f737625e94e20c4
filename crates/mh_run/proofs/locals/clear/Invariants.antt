use Rattle.std.proofs.Common.{◌≤◌, length, vec_capacity}
use Rattle.mh_run.proofs.locals.clear.Given as goal

abbrev pub invariant-loop : goal.invariant-loop
invariant-loop l = vec_capacity l.initial.locals ≤ vec_capacity l.locals

abbrev pub decreases-loop : goal.decreases-loop
decreases-loop l = length l.locals.items
