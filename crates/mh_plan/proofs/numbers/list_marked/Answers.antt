use Rattle.mh_plan.proofs.Listed.{listed_more, listed_skip}
use Rattle.mh_plan.proofs.numbers.list_marked.Goals as goal
use Rattle.mh_plan.proofs.numbers.list_marked.Goals.{then-marks-number+in_ok-push, else-marks-number}

pub loop-number-preserved : goal.loop-number-preserved
loop-number-preserved c =
    elim c.if-marks-number.branch [
      | then-marks-number+in_ok-push w ↦ rw (w.listed-is, w.in_ok-push.ensures.items) (listed_more _ _ _ c.loop-number.invariant w.if-marks-number.true)
      | else-marks-number w ↦ rw w.listed-is (listed_skip _ _ _ c.loop-number.invariant w.if-marks-number.false)
    ]
