use Rattle.std.proofs.Common.{◌≡◌, flat_map, string_bytes, take}
use Rattle.mh_profile.specs.PlanLines.{gives_text}
use Rattle.mh_profile.proofs.plan_lines.gives_line.Given as goal

abbrev pub invariant-loop-row : goal.invariant-loop-row
invariant-loop-row l = string_bytes l.line ≡ flat_map (gives_text l.named.points) (take l.row-index l.rows)
