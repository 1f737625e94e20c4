use Rattle.std.proofs.Common.{◌<◌, ◌∙◌, arith, length, refl, slice_index_or}
use Rattle.std.proofs.lemmas.List.{get_or_default}
use Rattle.mh_profile.proofs.Amounts.{row_room, row_inside}
use Rattle.mh_profile.proofs.accounts.what_points_get.Goals as goal

pub overflow_add-index_mut : goal.overflow_add-index_mut
overflow_add-index_mut c =
    let P = c.args.problem.now in
    let row = slice_index_or c.args.flow.now c.loop-row.row-index (0, 0, 0) in
    let inside : row.1 < length c.loop-row.gets.items = omega (arith, row_inside P row c.points.ensures.problem (c.requires.needed c.loop-row.row-index (0, 0, 0) c.loop-row-test.true), c.loop-row.invariant.count) in
    let gets = c.index_mut.ensures.value ∙ get_or_default c.loop-row.gets.items row.1 c.index_mut.result.now 0 inside in
    let room = row_room P c.args.flow.now c.loop-row.row-index row.1 c.points.ensures.problem c.loop-row-test.true c.requires.costs refl in
    omega (arith, gets, c.loop-row.invariant.sums row.1, room)
