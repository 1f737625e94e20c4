use Rattle.std.proofs.Common.{◌≡◌, ◌++◌, string_bytes}
use Rattle.mh_profile.specs.PlanLines.{point_lines}
use Rattle.mh_profile.proofs.plan_lines.push_points.Given as goal

abbrev pub invariant-loop-point : goal.invariant-loop-point
invariant-loop-point l = string_bytes l.out ≡ string_bytes l.fn.out ++ point_lines l.named l.plan l.point
