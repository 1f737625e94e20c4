use Rattle.std.proofs.Common.{◌≡◌, ◌∙◌, ◌*◌, map}
use Rattle.mh_network.specs.Problems.{cost_of, problem_of}
use Rattle.mh_sweep.proofs.Amounts.{block_kept}
use Rattle.mh_sweep.proofs.scaling.scale_block.Goals as goal

pub returns-in-Ok : goal.returns-in-Ok
returns-in-Ok c =
    let P = c.args.problem.now in
    let part = c.args.part.now in
    let k = c.args.scale in
    let costs : c.in_ok-costs.costs.items ≡ map (λ p. k * cost_of P p) part.points =
    c.in_ok-costs.ensures.value ∙ (λ i. map (λ p. k * cost_of P p) (c.as_slice.ensures.value i)) in
    record { value = c.in-Ok.ensures.value ∙ ((λ i. problem_of (c.in_ok-rows.ensures.value i) (costs i)) ∙ block_kept P part k) }
