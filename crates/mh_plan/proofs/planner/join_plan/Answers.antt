use Rattle.std.proofs.Common.{◌≡◌, ◌≤◌, ◌^◌, ◌∙◌, ap, arith, sym, ℕ, List, length, rules, w64}
use Rattle.std.specs.List.{list_any}
use Rattle.std.proofs.lemmas.Int.{to_z-of_z}
use Rattle.std.specs.Prelude.{FitsSigned}
use Rattle.mh_network.specs.Problems.{needs_point, sum_of_gains}
use Rattle.mh_network.specs.Selection.{member, value_of}
use Rattle.mh_plan.specs.Joined.{joined, links_of}
use Rattle.mh_plan.specs.inner.Shares.{run_at}
use Rattle.mh_plan.proofs.Amounts.{charges_below, links_below, points_below}
use Rattle.mh_plan.proofs.Best.{chosen_below, reached_below}
use Rattle.mh_plan.proofs.Whole.{charges_listed, gains_kept, links_inside, links_least, matched, rows_needed}
use Rattle.mh_plan.proofs.planner.join_plan.Goals as goal

pub join_links-requires-clause-inside : goal.join_links-requires-clause-inside
join_links-requires-clause-inside c = reached_below _ _ c.requires.parts (c.parts_join.ensures.alone c.args.parts.now c.requires.parts) _ c.requires.solved

pub ascending-requires-clause-inside : goal.ascending-requires-clause-inside
ascending-requires-clause-inside c =
    rw (c.deref.ensures.value, c.in_ok-chosen.ensures.value, c.links.ensures.count) (chosen_below _ _ c.requires.parts (c.parts_join.ensures.alone c.args.parts.now c.requires.parts) _ c.requires.solved)

pub needs_of-requires-clause-inside : goal.needs_of-requires-clause-inside
needs_of-requires-clause-inside c =
    rw c.deref-2.ensures.value (links_inside _ c.requires.problem _ c.requires.parts (c.parts_join.ensures.alone c.args.parts.now c.requires.parts) _ c.requires.solved c.in_ok-links.links.items (rw (c.deref.ensures.value, c.in_ok-chosen.ensures.value) at c.in_ok-links.ensures.same))

pub join_rows-requires-clause-links : goal.join_rows-requires-clause-links
join_rows-requires-clause-links c = links_below _ _ c.requires.parts (c.parts_join.ensures.alone c.args.parts.now c.requires.parts) _ c.requires.solved

pub join_rows-requires-clause-points : goal.join_rows-requires-clause-points
join_rows-requires-clause-points c = points_below _ _ c.requires.parts (c.parts_join.ensures.alone c.args.parts.now c.requires.parts) _ c.requires.solved

pub join_charges-requires-clause-links : goal.join_charges-requires-clause-links
join_charges-requires-clause-links c = charges_below _ _ c.requires.parts (c.parts_join.ensures.alone c.args.parts.now c.requires.parts) _ c.requires.solved

pub left_of_gains-requires : goal.left_of_gains-requires
left_of_gains-requires c =
    let P = c.args.problem.now in
    let rows = c.in_ok-flow.flow.items in
    let charges = c.in_ok-charges.charges.items in
    let alone = (c.parts_join.ensures.alone c.args.parts.now c.requires.parts) in
    let within : value_of rows charges ≤ sum_of_gains P =
    c.amounts_are_within_gains.ensures.within P rows charges
    (rows_needed P c.requires.problem _ c.requires.parts alone _ c.requires.solved rows charges c.in_ok-flow.ensures.same c.in_ok-charges.ensures.same)
    (charges_listed P c.requires.problem _ c.requires.parts alone _ c.requires.solved rows charges c.in_ok-flow.ensures.same c.in_ok-charges.ensures.same)
    (gains_kept P c.requires.problem _ c.requires.parts alone _ c.requires.solved rows charges c.in_ok-flow.ensures.same c.in_ok-charges.ensures.same) in
    let few : sum_of_gains P ≤ 2 ^ 62 = c.requires.problem.gains in
    let small : value_of rows charges ≤ 2 ^ 62 = omega arith in
    record { small = rw (c.deref-4.ensures.value, c.deref-5.ensures.value) small }

pub returns-clause-matching : goal.returns-clause-matching
returns-clause-matching c =
    let same : (j : ℕ) → member c.in_ok-links.links.items j ≡ member (joined (links_of c.args.parts.now (run_at c.args.runs.now)) (length c.args.parts.now)) j =
    rw (c.deref.ensures.value, c.in_ok-chosen.ensures.value) at c.in_ok-links.ensures.same in
    let needed : (p : ℕ) → member c.in_ok-points.points.items p ≡ list_any (λ j. needs_point c.args.problem.now j p) c.in_ok-links.links.items =
    λ p. c.in_ok-points.ensures.same p ∙ (ap (λ (xs : List ℕ). member xs p) c.deref-3.ensures.value
    ∙ (c.in_ok-needs.ensures.value p ∙ ap (list_any (λ j. needs_point c.args.problem.now j p)) c.deref-2.ensures.value)) in
    let balance = rw (c.deref-4.ensures.value, c.deref-5.ensures.value) at c.left_of_gains.ensures.value in
    let fits : FitsSigned w64 c.left_of_gains.result = search rules in
    rw (c.from_vec.ensures.value, c.from_vec-2.ensures.value, c.from_vec-3.ensures.value, c.from_vec-4.ensures.value)
    (matched _ c.requires.problem _ c.requires.parts (c.parts_join.ensures.alone c.args.parts.now c.requires.parts) _ c.requires.solved c.in_ok-flow.flow.items c.in_ok-charges.charges.items c.in_ok-flow.ensures.same c.in_ok-charges.ensures.same c.in_ok-links.links.items c.in_ok-points.points.items _
    c.in_ok-flow.ensures.sorted c.in_ok-charges.ensures.sorted c.in_ok-links.ensures.ascending same c.in_ok-points.ensures.ascending (λ p. needed p ∙ sym (c.lists_add_up.ensures.needed c.args.problem.now c.in_ok-links.links.items p)) (to_z-of_z w64 c.left_of_gains.result fits ∙ balance))

pub returns-clause-least : goal.returns-clause-least
returns-clause-least c =
    rw c.from_vec.ensures.value (links_least _ c.requires.problem _ c.requires.parts (c.parts_join.ensures.alone c.args.parts.now c.requires.parts) _ c.requires.solved c.in_ok-links.links.items (rw (c.deref.ensures.value, c.in_ok-chosen.ensures.value) at c.in_ok-links.ensures.same))
