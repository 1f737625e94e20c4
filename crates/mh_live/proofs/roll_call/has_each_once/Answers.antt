use Rattle.std.proofs.Common.{◌∙◌, arith, below_more, rules, sym}
use Rattle.mh_live.proofs.roll_call.has_each_once.Goals as goal

pub returns-then-passes_of-ne1 : goal.returns-then-passes_of-ne1
returns-then-passes_of-ne1 g c = record { decides = (λ h. absurd cc, λ all. absurd (c.if-passes_of-ne1.true (c.passes_of.ensures.value ∙ all c.loop-worker.worker c.loop-worker-test.true))) }

pub loop-worker-preserved : goal.loop-worker-preserved
loop-worker-preserved g c = below_more _ _ c.loop-worker.invariant (sym c.passes_of.ensures.value ∙ c.if-passes_of-ne1.false)

pub returns : goal.returns
returns g c = record { decides = (λ _ w lt. c.loop-worker.invariant w (omega (arith, c.loop-worker-test.false, lt)), λ _. search rules) }
