use Rattle.std.proofs.Common.{◌∙◌, ap, slice_index_or}
use Rattle.mh_text.specs.Report.{ended, link_text}
use Rattle.mh_text.proofs.Reports.{line_pushed}
use Rattle.mh_text.proofs.lines.report.push_links.Goals as goal

pub loop-link-preserved : goal.loop-link-preserved
loop-link-preserved c =
    line_pushed (λ i. ended (link_text c.args.book.now.definition c.args.book.now.records (slice_index_or c.args.unflushed.now i 0) i)) c.loop-link.link _ _ _ _ c.loop-link.invariant (ap ended (c.as_str.ensures.value ∙ c.in_ok-link_text.ensures.value)) c.in_ok-push_line.ensures.value
