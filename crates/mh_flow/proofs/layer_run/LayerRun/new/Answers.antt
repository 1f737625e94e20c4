use Rattle.std.proofs.Common.{◌∙◌, ap, refl, ℕ}
use Rattle.std.specs.Prelude.{replicate}
use Rattle.mh_flow.specs.Levels.{far}
use Rattle.mh_flow.proofs.Running.{links_inside, points_inside, begun}
use Rattle.mh_flow.proofs.Runs.{begun-idle}
use Rattle.mh_flow.proofs.layer_run.LayerRun.new.Goals as goal

pub new-requires : goal.new-requires
new-requires c = record {
  links = rw (c.deref.ensures.value, c.links.ensures.count) (links_inside c.args.problem.now _ (c.needs_are_of_links.ensures.needs _) c.in_ok-rows.ensures);
  points = rw (c.deref.ensures.value, c.points.ensures.count) (points_inside c.args.problem.now _ c.links.ensures.problem c.in_ok-rows.ensures);
}

pub invariant_of-result : goal.invariant_of-result
invariant_of-result c = (
  begun c.args.problem.now _ _ _ _ _ (c.needs_are_of_links.ensures.needs _) c.links.ensures.problem c.in_ok-rows.ensures c.in_ok-gain_left.ensures.count c.in_ok-gain_left.ensures.gains c.in_ok-cost_left.ensures.count c.in_ok-cost_left.ensures.costs
      (c.in_ok-links.ensures.value ∙ ap (λ (n : ℕ). replicate n far) c.links-2.ensures.count) (c.in_ok-points.ensures.value ∙ ap (λ (n : ℕ). replicate n far) c.points-2.ensures.count),
  rw (c.deref.ensures.value, c.links.ensures.count, c.points.ensures.count) at c.in_ok-index.ensures.indexed,
)

pub returns-clause-kept : goal.returns-clause-kept
returns-clause-kept c =
    begun c.args.problem.now _ _ _ _ _ (c.needs_are_of_links.ensures.needs _) c.links.ensures.problem c.in_ok-rows.ensures c.in_ok-gain_left.ensures.count c.in_ok-gain_left.ensures.gains c.in_ok-cost_left.ensures.count c.in_ok-cost_left.ensures.costs
    (c.in_ok-links.ensures.value ∙ ap (λ (n : ℕ). replicate n far) c.links-2.ensures.count) (c.in_ok-points.ensures.value ∙ ap (λ (n : ℕ). replicate n far) c.points-2.ensures.count)

pub returns-clause-idle : goal.returns-clause-idle
returns-clause-idle c = begun-idle c.args.problem.now c.in_ok-rows.rows.items c.in_ok-rows.ensures

pub returns-clause-levels : goal.returns-clause-levels
returns-clause-levels c = record {
  links = c.in_ok-links.ensures.value ∙ ap (λ (n : ℕ). replicate n far) c.links-2.ensures.count;
  points = c.in_ok-points.ensures.value ∙ ap (λ (n : ℕ). replicate n far) c.points-2.ensures.count;
  sink = refl;
}
