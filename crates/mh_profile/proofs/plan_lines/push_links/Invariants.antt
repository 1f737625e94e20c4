use Rattle.std.proofs.Common.{◌≡◌, ◌++◌, string_bytes}
use Rattle.mh_profile.specs.PlanLines.{link_lines}
use Rattle.mh_profile.proofs.plan_lines.push_links.Given as goal

abbrev pub invariant-loop-link : goal.invariant-loop-link
invariant-loop-link l = string_bytes l.out ≡ string_bytes l.fn.out ++ link_lines l.named l.plan l.sweep l.link
