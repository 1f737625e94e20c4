use Rattle.std.proofs.Common.{◌∙◌, ap}
use Rattle.mh_text.specs.Report.{ended, point_text}
use Rattle.mh_text.proofs.Reports.{line_pushed}
use Rattle.mh_text.proofs.lines.report.push_points.Goals as goal

pub loop-point-preserved : goal.loop-point-preserved
loop-point-preserved c =
    line_pushed (λ i. ended (point_text c.args.book.now.definition c.args.book.now.records i)) c.loop-point.point _ _ _ _ c.loop-point.invariant (ap ended (c.as_str.ensures.value ∙ c.in_ok-point_text.ensures.value)) c.in_ok-push_line.ensures.value
