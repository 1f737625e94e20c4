use Rattle.std.proofs.Common.{◌∙◌, sym, ap, arith}
use Rattle.mh_core.specs.Laws.{few_links}
use Rattle.mh_text.proofs.Reports.{filter_skips, filter_takes}
use Rattle.mh_text.proofs.lines.report.links_needing.Goals as goal
use Rattle.mh_text.proofs.lines.report.links_needing.Goals.{then-needs+in_ok-push, else-needs}

pub overflow_cast-link : goal.overflow_cast-link
overflow_cast-link c = omega (arith, c.loop-link-test.true, c.link_count-link-end.ensures.count, few_links c.definition.result.now c.link_count-link-end.ensures.lawful)

pub loop-link-preserved : goal.loop-link-preserved
loop-link-preserved c = elim c.if-needs.branch [
  | then-needs+in_ok-push w ↦ ap (λ v. v.items) w.links-is ∙ filter_takes _ c.loop-link.link c.loop-link.links.items c.loop-link.invariant _ (sym c.needs.ensures.value ∙ w.if-needs.true) w.in_ok-push.ensures.items
  | else-needs w ↦ ap (λ v. v.items) w.links-is ∙ filter_skips _ c.loop-link.link c.loop-link.links.items c.loop-link.invariant (sym c.needs.ensures.value ∙ w.if-needs.false)
]
