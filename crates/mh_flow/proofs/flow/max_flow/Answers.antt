use Rattle.std.proofs.Common.{◌≡◌, ◌<◌, ◌≤◌, ◌∙◌, ap, length, arith, sym, refl, subst, suc, ℕ, inl, inr}
use Rattle.std.proofs.lemmas.Bool.{cases_lt, true≢false}
use Rattle.mh_network.specs.Problems.{ProblemData}
use Rattle.mh_flow.specs.Levels.{far}
use Rattle.mh_flow.proofs.Maximal.{finished, IsAnswer, raised_on, raised_after, phases_few}
use Rattle.mh_flow.specs.Phases.{IsPhased, IsRunOf, Phases}
use Rattle.mh_flow.proofs.Phased.{phase_made, run_idle}
use Rattle.mh_flow.proofs.flow.max_flow.Goals as goal

pub returns-then-not-reaches_sink : goal.returns-then-not-reaches_sink
returns-then-not-reaches_sink c =
    let far_off : far ≤ c.build_levels.new.self.sink = elim (cases_lt c.build_levels.new.self.sink far) [
      | inl near ↦ absurd (true≢false (sym (c.if-not-reaches_sink.ensures.value.1 near)))
      | inr away ↦ away
    ] in
    let same = c.build_levels.ensures.same.problem ∙ c.loop-run.invariant.same in
    let answer : IsAnswer c.args.problem.now c.in_ok-flow.flow.rows c.in_ok-flow.flow.charges c.in_ok-flow.flow.reached =
    finished c.args.problem.now _ _ _ _ (c.needs_are_of_links.ensures.needs _) (c.cuts_are_least.ensures.least _) same c.build_levels.ensures.kept c.in_ok-build_levels.ensures.layered c.in_ok-build_levels.ensures.sink
    far_off c.in_ok-flow.ensures.rows c.in_ok-flow.ensures.charges c.in_ok-flow.ensures.reached in
    let few = phases_few _ c.loop-run.invariant.between in
    let start = c.loop-run.invariant.phases in
    let taken : IsRunOf c.args.problem.now c.in_ok-flow.flow = record {
      start = start.0;
      begun = start.1;
      full = c.loop-run.run.phases;
      over = c.loop-run.run;
      phases = start.2;
      last = c.build_levels.new.self;
      built = record { flow = c.build_levels.ensures.same; distances = c.in_ok-build_levels.ensures.distances };
      away = far_off;
      count = c.in_ok-flow.ensures.phases ∙ c.in_ok-build_levels.ensures.phases;
      rows = c.in_ok-flow.ensures.rows;
    } in
    record {
      flow = answer.flow;
      positive = answer.positive;
      ordered = answer.ordered;
      paid = answer.paid;
      paid_ordered = answer.paid_ordered;
      equal = answer.equal;
      least = answer.least;
      ascending = c.in_ok-flow.ensures.ascending;
      taken = taken;
      idle = run_idle c.args.problem.now c.in_ok-flow.flow taken;
      some = omega (arith, c.in_ok-flow.ensures.phases, c.in_ok-build_levels.ensures.phases);
      phases = omega (
        arith,
        c.in_ok-flow.ensures.phases,
        c.in_ok-build_levels.ensures.phases,
        few,
        ap (λ (P : ProblemData). length P.links) c.loop-run.invariant.same,
        ap (λ (P : ProblemData). length P.costs) c.loop-run.invariant.same,
      );
    }

pub loop-run-preserved : goal.loop-run-preserved
loop-run-preserved c =
    let reached : c.build_levels.new.self.sink < far = c.if-not-reaches_sink.ensures.value.0 refl in
    let raised = raised_on _ _ c.loop-run.invariant.kept c.build_levels.ensures.kept c.loop-run.invariant.between c.build_levels.ensures.same c.in_ok-build_levels.ensures.phases
    c.in_ok-build_levels.ensures.layered c.in_ok-build_levels.ensures.sink reached in
    let start = c.loop-run.invariant.phases in
    let phased : IsPhased c.loop-run.run c.block.new.run =
    phase_made _ _ _ c.build_levels.ensures.kept c.block.ensures.kept c.build_levels.ensures.same c.in_ok-build_levels.ensures.distances
    c.in_ok-build_levels.ensures.layered c.in_ok-build_levels.ensures.sink reached c.in_ok-block.ensures.over c.block.ensures.pushes in
    let counted : c.block.new.run.phases ≡ suc c.loop-run.run.phases = omega (arith, c.block.ensures.same.phases, c.in_ok-build_levels.ensures.phases) in
    record {
      kept = c.block.ensures.kept;
      same = c.block.ensures.same.problem ∙ (c.build_levels.ensures.same.problem ∙ c.loop-run.invariant.same);
      between = inr (raised_after _ _ raised c.in_ok-block.ensures.over c.block.ensures.same);
      phases = (start.0, start.1, subst (λ (n : ℕ). Phases n start.0 c.block.new.run) (sym counted) (c.loop-run.run, start.2, phased));
    }
