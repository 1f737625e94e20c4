use Rattle.std.proofs.Common.{◌≡◌, ◌<◌, ◌∙◌, ◌+◌, ℕ, ap, arith, cond, length, slice_index, slice_index_or, slice_set}
use Rattle.std.proofs.lemmas.List.{get_or_default, length-set}
use Rattle.mh_network.specs.Limits.{greatest_sum}
use Rattle.mh_network.specs.Selection.{Row}
use Rattle.mhlink_c.specs.Flows.{gives_for, no_link}
use Rattle.mhlink_c.proofs.Adding.{added, all_added, fits, gives_here, gives_nowhere_else}
use Rattle.mhlink_c.proofs.amounts.given_for.Goals as goal

pub overflow_add-index_mut : goal.overflow_add-index_mut
overflow_add-index_mut c =
    let at : ℕ = c.place_of-place.result in
    let inside : at < length c.loop-row.given.items = omega (arith, c.place_of-place.ensures.inside, c.loop-row.invariant.count) in
    let same : c.index_mut.result.now ≡ slice_index c.loop-row.given.items at =
    c.index_mut.ensures.value ∙ get_or_default c.loop-row.given.items at c.index_mut.result.now 0 inside in
    omega (
      arith,
      same,
      c.loop-row.invariant.so_far at,
      fits (gives_for c.args.needs.now c.args.links.now at) (λ r. r.2) c.args.flow.now c.loop-row.row-index (0, 0, 0) greatest_sum c.loop-row-test.true c.requires.small,
    )

pub loop-row-preserved : goal.loop-row-preserved
loop-row-preserved c =
    let needs = c.args.needs.now in
    let links = c.args.links.now in
    let rows = c.args.flow.now in
    let i : ℕ = c.loop-row.row-index in
    let row : Row = slice_index_or rows i (0, 0, 0) in
    let at : ℕ = c.place_of-place.result in
    let given = c.loop-row.given.items in
    let inside : at < length given = omega (arith, c.place_of-place.ensures.inside, c.loop-row.invariant.count) in
    let is = c.requires.rows i (0, 0, 0) c.loop-row-test.true in
    let same : c.index_mut.result.now ≡ slice_index given at = c.index_mut.ensures.value ∙ get_or_default given at c.index_mut.result.now 0 inside in
    record {
      count = length-set given at (c.index_mut.result.now + row.2) ∙ c.loop-row.invariant.count;
      so_far = λ k. ap (λ (n : ℕ). slice_index (slice_set given at (n + row.2)) k) same
          ∙ added (λ n r. cond (gives_for needs links n r) r.2 0) rows i (0, 0, 0) given at row.2 c.loop-row-test.true inside
          (gives_here needs links row at c.place_of-place.ensures.own c.place_of-place.ensures.point)
          (λ n other. gives_nowhere_else needs links row at n (c.requires.there row.0 no_link is.link) is.ascending c.place_of-place.ensures.own c.place_of-place.ensures.point other)
          c.loop-row.invariant.so_far k;
    }

pub returns : goal.returns
returns c = record {
  value = all_added (λ k r. cond (gives_for c.args.needs.now c.args.links.now k r) r.2 0) c.args.flow.now c.loop-row.row-index (length c.args.needs.now) c.loop-row.given.items c.loop-row-test.false c.loop-row.invariant.count c.loop-row.invariant.so_far;
}
