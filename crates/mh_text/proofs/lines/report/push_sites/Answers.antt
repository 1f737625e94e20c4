use Rattle.std.proofs.Common.{◌∙◌, ap}
use Rattle.mh_text.specs.Report.{ended, site_text}
use Rattle.mh_text.proofs.Reports.{line_pushed}
use Rattle.mh_text.proofs.lines.report.push_sites.Goals as goal

pub loop-site-preserved : goal.loop-site-preserved
loop-site-preserved c =
    line_pushed (λ i. ended (site_text c.args.book.now.definition c.args.book.now.records i)) c.loop-site.site _ _ _ _ c.loop-site.invariant (ap ended (c.as_str.ensures.value ∙ c.in_ok-site_text.ensures.value)) c.in_ok-push_line.ensures.value
