use Rattle.std.proofs.Common.{arith}
use Rattle.std.proofs.lemmas.Bool.{lt-ltb, le-ltb}
use Rattle.mh_flow.proofs.Reached.{passing_more, passing_skip}
use Rattle.mh_flow.proofs.outcome.reached_links.Goals as goal
use Rattle.mh_flow.proofs.outcome.reached_links.Goals.{then-levels-link-lt-UNREACHED+in_ok-push, else-levels-link-lt-UNREACHED}

pub loop-link-preserved : goal.loop-link-preserved
loop-link-preserved c =
    elim c.if-levels-link-lt-UNREACHED.branch [
      | then-levels-link-lt-UNREACHED+in_ok-push w ↦
          rw (w.reached-is, w.in_ok-push.ensures.items) (passing_more _ _ _ c.loop-link.invariant (lt-ltb _ _ (omega (arith, w.if-levels-link-lt-UNREACHED.true))))
      | else-levels-link-lt-UNREACHED w ↦ rw w.reached-is (passing_skip _ _ _ c.loop-link.invariant (le-ltb _ _ (omega (arith, w.if-levels-link-lt-UNREACHED.false))))
    ]
