use Rattle.std.proofs.Common.{◌∙◌, ◌++◌, List, ap, subst, sym, take, ℕ, ◌+◌}
use Rattle.std.specs.Prelude.{string_bytes}
use Rattle.mh_explain.specs.Refused.{NamesRefused}
use Rattle.mh_explain.proofs.RefusedLines.{next_named}
use Rattle.mh_explain.proofs.refused.explanation_of_refused.Goals as goal

pub loop-event-preserved : goal.loop-event-preserved
loop-event-preserved c =
    let rs = c.args.refused.now in
    let i = c.loop-event.event-index in
    let (why, line) = c.in_ok-of_event.ensures.line in
    let pushed = c.in_ok-push_str.ensures.bytes ∙ ap (λ (text : List ℕ). string_bytes c.loop-event.lines ++ text) c.as_str.ensures.value in
    subst (NamesRefused (take (i + 1) rs)) (sym pushed)
    (next_named rs i _ (string_bytes c.loop-event.lines) (string_bytes c.in_ok-of_event.field-0) why c.loop-event-test.true c.loop-event.invariant line)
