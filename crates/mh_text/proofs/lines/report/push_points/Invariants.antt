use Rattle.std.proofs.Common.{◌≡◌, ◌++◌, string_bytes}
use Rattle.std.specs.List.{flat_map}
use Rattle.mh_core.specs.Records.{numbers}
use Rattle.mh_text.specs.Report.{ended, point_text}
use Rattle.mh_text.proofs.lines.report.push_points.Given as goal

-- the lines so far
abbrev pub invariant-loop-point : goal.invariant-loop-point
invariant-loop-point l = string_bytes l.out ≡ string_bytes l.fn.out ++ flat_map (λ i. ended (point_text l.book.definition l.book.records i)) (numbers l.point)
