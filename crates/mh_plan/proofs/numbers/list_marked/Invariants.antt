use Rattle.mh_plan.proofs.Listed.{IsListed}
use Rattle.mh_plan.proofs.numbers.list_marked.Given as goal

abbrev pub invariant-loop-number : goal.invariant-loop-number
invariant-loop-number l = IsListed l.marks l.listed.items l.number
