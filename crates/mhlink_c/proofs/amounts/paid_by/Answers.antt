use Rattle.std.proofs.Common.{◌≡◌, ◌∙◌, ℕ, arith, slice_index, slice_index_or, cond}
use Rattle.std.specs.Prelude.{◌==◌}
use Rattle.std.proofs.lemmas.List.{get_or_default}
use Rattle.mh_network.specs.Limits.{greatest_sum}
use Rattle.mhlink_c.proofs.Adding.{all_added, fits}
use Rattle.mhlink_c.proofs.amounts.paid_by.Goals as goal

pub overflow_add-index_mut : goal.overflow_add-index_mut
overflow_add-index_mut c =
    let at : ℕ = (slice_index_or c.args.charges.now c.loop-charge.charge-index (0, 0)).0 in
    let same : c.index_mut.result.now ≡ slice_index c.loop-charge.paid.items at =
    c.index_mut.ensures.value ∙ get_or_default c.loop-charge.paid.items at c.index_mut.result.now 0 (omega (arith, c.requires.inside c.loop-charge.charge-index (0, 0) c.loop-charge-test.true, c.loop-charge.invariant.count)) in
    omega (
      arith,
      same,
      c.loop-charge.invariant.so_far at,
      fits (λ r. r.0 == at) (λ r. r.1) c.args.charges.now c.loop-charge.charge-index (0, 0) greatest_sum c.loop-charge-test.true c.requires.small,
    )

pub returns : goal.returns
returns c = record {
  value = all_added (λ k r. cond (r.0 == k) r.1 0) c.args.charges.now c.loop-charge.charge-index c.args.count c.loop-charge.paid.items c.loop-charge-test.false c.loop-charge.invariant.count c.loop-charge.invariant.so_far;
}
