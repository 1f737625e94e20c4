use Rattle.std.proofs.Common.{◌≡◌, ◌∙◌, ℕ, arith, cond, slice_index, slice_index_or}
use Rattle.std.specs.Prelude.{◌==◌}
use Rattle.std.proofs.lemmas.List.{get_or_default}
use Rattle.mh_network.specs.Limits.{greatest_sum}
use Rattle.mhlink_c.proofs.Adding.{all_added, fits}
use Rattle.mhlink_c.proofs.amounts.got_by.Goals as goal

pub overflow_add-index_mut : goal.overflow_add-index_mut
overflow_add-index_mut c =
    let at : ℕ = (slice_index_or c.args.flow.now c.loop-row.row-index (0, 0, 0)).1 in
    let same : c.index_mut.result.now ≡ slice_index c.loop-row.gets.items at =
    c.index_mut.ensures.value ∙ get_or_default c.loop-row.gets.items at c.index_mut.result.now 0 (omega (arith, c.requires.inside c.loop-row.row-index (0, 0, 0) c.loop-row-test.true, c.loop-row.invariant.count)) in
    omega (
      arith,
      same,
      c.loop-row.invariant.so_far at,
      fits (λ r. r.1 == at) (λ r. r.2) c.args.flow.now c.loop-row.row-index (0, 0, 0) greatest_sum c.loop-row-test.true c.requires.small,
    )

pub returns : goal.returns
returns c = record {
  value = all_added (λ k r. cond (r.1 == k) r.2 0) c.args.flow.now c.loop-row.row-index c.args.count c.loop-row.gets.items c.loop-row-test.false c.loop-row.invariant.count c.loop-row.invariant.so_far;
}
