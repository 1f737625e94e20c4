use Rattle.std.proofs.Common.{◌∙◌, ap, refl}
use Rattle.std.specs.Prelude.{not}
use Rattle.mh_sweep.proofs.Steps.{failed_more, mark_here, passed_more}
use Rattle.mh_sweep.proofs.dividing.divide.Goals as goal
use Rattle.mh_sweep.proofs.dividing.divide.Goals.{then-marks-at+in_ok-push, else-marks-at+in_ok-push-2}

pub loop-at-preserved : goal.loop-at-preserved
loop-at-preserved c =
    let here = mark_here c.args.numbers.now c.args.marks.now c.loop-at.at c.requires.ascending c.loop-at-test.true in
    elim c.if-marks-at.branch [
      | then-marks-at+in_ok-push w ↦ record {
        marked = rw (w.marked-is, w.in_ok-push.ensures.items) (passed_more _ _ _ _ _ c.loop-at-test.true (here ∙ w.if-marks-at.true) c.loop-at.invariant.marked refl);
        others = rw w.others-is (failed_more _ _ _ _ _ c.loop-at-test.true (ap not (here ∙ w.if-marks-at.true)) c.loop-at.invariant.others refl);
      }
      | else-marks-at+in_ok-push-2 w ↦ record {
        marked = rw w.marked-is (failed_more _ _ _ _ _ c.loop-at-test.true (here ∙ w.if-marks-at.false) c.loop-at.invariant.marked refl);
        others = rw (w.others-is, w.in_ok-push-2.ensures.items) (passed_more _ _ _ _ _ c.loop-at-test.true (ap not (here ∙ w.if-marks-at.false)) c.loop-at.invariant.others refl);
      }
    ]
