use Rattle.std.proofs.Common.{arith}
use Rattle.mh_plan.proofs.Union.{needs_inside, needs_more}
use Rattle.mh_plan.proofs.numbers.needs_of.Goals as goal

pub loop-link-preserved : goal.loop-link-preserved
loop-link-preserved c = record {
  inside = needs_inside c.args.problem.now c.requires.problem _ _ _ (rw (c.in_ok-extend_from_slice.was, c.needs.ensures.value) at c.extend_from_slice.ensures.items) c.loop-link.invariant.inside;
  value = needs_more c.args.problem.now c.args.links.now _ _ c.loop-link.link-index (omega arith) (rw (c.in_ok-extend_from_slice.was, c.needs.ensures.value) at c.extend_from_slice.ensures.items) c.loop-link.invariant.value;
}
