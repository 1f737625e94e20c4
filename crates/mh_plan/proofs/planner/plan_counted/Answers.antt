use Rattle.std.proofs.Common.{arith}
use Rattle.std.proofs.lemmas.List.{length-map}
use Rattle.mh_network.specs.declared.part.Part.{Part}
use Rattle.mh_network.specs.Parts.{part_at, part_row}
use Rattle.mh_network.specs.Problems.{cost_of}
use Rattle.mh_plan.specs.Phases.{AreCounted}
use Rattle.mh_plan.specs.inner.Shares.{run_at}
use Rattle.mh_plan.specs.Solved.{AreSolved}
use Rattle.mh_plan.proofs.planner.plan_counted.Goals as goal

pub join_plan-requires-clause-solved : goal.join_plan-requires-clause-solved
join_plan-requires-clause-solved g c = rw c.deref-2.ensures.value (rw c.deref.ensures.value at c.in_ok-runs.ensures.solved)

pub returns-clause-phases : goal.returns-clause-phases
returns-clause-phases g c =
    let P = c.args.problem.now in
    let parts = c.in_ok-parts.parts.items in
    let run = run_at c.in_ok-runs.runs in
    let solved : AreSolved P parts run = rw c.deref.ensures.value at c.in_ok-runs.ensures.solved in
    let counted : AreCounted parts run c.in_ok-phases.phases.items = rw c.deref-3.ensures.value at c.in_ok-phases.ensures.counted in
    record {
      parts = parts;
      run = run;
      are = c.in_ok-parts.ensures.value;
      solved = solved;
      rows = rw c.deref-2.ensures.value at c.in_ok-plan.ensures.flow;
      counted = counted;
      some = λ i l. omega (arith, counted.each i l, (solved i l).some);
      few = λ i l.
          let part : Part = part_at parts i in
          omega (arith, counted.each i l, (solved i l).phases, length-map part.links (part_row P part), length-map part.points (cost_of P));
    }
