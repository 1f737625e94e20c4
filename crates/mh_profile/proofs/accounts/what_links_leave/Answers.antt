use Rattle.std.proofs.Common.{◌==◌, ◌<◌, All, ap, arith, cond, length, slice_index_or, subst, sym}
use Rattle.std.specs.List.{list_any}
use Rattle.std.proofs.lemmas.List.Sums.{sum_by_more}
use Rattle.mh_network.specs.Problems.{needs_point}
use Rattle.mh_profile.specs.Accounts.{left_of}
use Rattle.mh_profile.proofs.Amounts.{left_room, needs_inside}
use Rattle.mh_profile.proofs.accounts.what_links_leave.Goals as goal

pub add_at-requires-clause-inside : goal.add_at-requires-clause-inside
add_at-requires-clause-inside c =
    let P = c.args.problem.now in
    let link = slice_index_or c.as_slice-link-items.result.now c.loop-link.link-index 0 in
    let inside = subst (All (λ p. p < length P.costs)) (sym c.needs.ensures.value) (needs_inside P link c.points.ensures.problem) in
    λ k d lt. omega (arith, inside k d lt, c.loop-link.invariant.count)

pub add_at-requires-clause-room : goal.add_at-requires-clause-room
add_at-requires-clause-room c = λ p.
    let P = c.args.problem.now in
    let plan = c.args.plan.now in
    let i = c.loop-link.link-index in
    let items = c.as_slice-link-items.ensures.value in
    let room = left_room P plan p i c.points.ensures.problem c.requires.matching (omega (arith, c.loop-link-test.true, ap length items)) in
    let read = ap (λ ls. left_of P plan (slice_index_or ls i 0)) items in
    omega (arith, c.loop-link.invariant.sums p, c.left-left.ensures.value, read, room)

pub loop-link-preserved : goal.loop-link-preserved
loop-link-preserved c = record {
  count = omega (arith, c.add_at.ensures.count, c.loop-link.invariant.count);
  sums = λ p.
      let P = c.args.problem.now in
      let plan = c.args.plan.now in
      let i = c.loop-link.link-index in
      let items = c.as_slice-link-items.ensures.value in
      let more = sum_by_more (λ j. cond (needs_point P j p) (left_of P plan j) 0) plan.links i 0 (omega (arith, c.loop-link-test.true, ap length items)) in
      let needs = ap (λ ns. cond (list_any (λ q. q == p) ns) c.left-left.result 0) c.needs.ensures.value in
      let left = ap (λ n. cond (needs_point P (slice_index_or c.as_slice-link-items.result.now i 0) p) n 0) c.left-left.ensures.value in
      let read = ap (λ ls. cond (needs_point P (slice_index_or ls i 0) p) (left_of P plan (slice_index_or ls i 0)) 0) items in
      omega (arith, c.add_at.ensures.value p, c.loop-link.invariant.sums p, more, needs, left, read);
}
