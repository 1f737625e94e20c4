use Rattle.mh_plan.proofs.planner.plan_alone.Goals as goal

pub join_plan-requires-clause-solved : goal.join_plan-requires-clause-solved
join_plan-requires-clause-solved c = rw c.deref-2.ensures.value (rw c.deref.ensures.value at c.in_ok-runs.ensures.solved)
