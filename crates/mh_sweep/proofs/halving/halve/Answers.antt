use Rattle.std.proofs.Common.{◌≡◌, ◌∙◌, ◌<◌, ℕ, List, ap, arith, length, subst, true}
use Rattle.std.proofs.lemmas.List.{length-map}
use Rattle.std.specs.Prelude.{not, false}
use Rattle.std.specs.List.{list_any, filter, slice_index_or}
use Rattle.mh_network.specs.Blocks.{block_row, scaled_block}
use Rattle.mh_network.specs.Parts.{place_of}
use Rattle.mh_network.specs.Problems.{ProblemData, needs_point}
use Rattle.mh_network.specs.Selection.{IsLeast, member}
use Rattle.mh_network.specs.Laws.Members.{all_members}
use Rattle.mh_sweep.proofs.Halves.{eligible_inside, halves, of_both}
use Rattle.mh_sweep.proofs.Numbering.{ascending_few}
use Rattle.mh_sweep.proofs.halving.halve.Goals as goal

pub set_places-requires-clause-inside : goal.set_places-requires-clause-inside
set_places-requires-clause-inside c =
    rw (c.as_slice-points.ensures.value, c.requires.room) (all_members (λ p. p < length c.args.problem.now.costs) c.args.part.now.points c.requires.open.4.block.points_in)

pub set_places-requires-clause-few : goal.set_places-requires-clause-few
set_places-requires-clause-few c =
    let block = c.requires.open.4.block in
    let few = ascending_few c.args.part.now.points (length c.args.problem.now.costs) block.points block.points_in in
    rw c.as_slice-points.ensures.value (omega (arith, few, c.points.ensures.problem.points))

pub scale_block-requires-clause-links : goal.scale_block-requires-clause-links
scale_block-requires-clause-links c = all_members (λ j. j < length c.args.problem.now.links) c.args.part.now.links c.requires.open.4.block.links_in

pub scale_block-requires-clause-points : goal.scale_block-requires-clause-points
scale_block-requires-clause-points c = all_members (λ p. p < length c.args.problem.now.costs) c.args.part.now.points c.requires.open.4.block.points_in

pub scale_block-requires-clause-few : goal.scale_block-requires-clause-few
scale_block-requires-clause-few c =
    let block = c.requires.open.4.block in
    let few = ascending_few c.args.part.now.points (length c.args.problem.now.costs) block.points block.points_in in
    omega (arith, few, c.points.ensures.problem.points)

pub mark_all-requires : goal.mark_all-requires
mark_all-requires c =
    let part = c.args.part.now in
    let count : length c.in_ok-block.block.links ≡ length part.links =
    ap (λ (q : ProblemData). length q.links) c.in_ok-block.ensures.value ∙ length-map part.links (block_row c.args.problem.now part) in
    record {
      inside = rw (c.reached.ensures.value, c.as_slice-links.ensures.value)
          (all_members (λ j. j < length part.links) c.in_ok-run.run'.reached
          (λ j e. let inside = eligible_inside c.in_ok-block.block j (c.in_ok-run.ensures.least.best.eligible j e) in omega (arith, inside, count)));
    }

pub mark_needs-requires-clause-links : goal.mark_needs-requires-clause-links
mark_needs-requires-clause-links c =
    rw (c.as_slice.ensures.value, c.in_ok-upper.ensures.marked, c.as_slice-links.ensures.value)
    (all_members (λ j. j < length c.args.problem.now.links) _ (λ j e. c.requires.open.4.block.links_in j (of_both _ c.args.part.now.links j e).1))

pub returns-clause-halves : goal.returns-clause-halves
returns-clause-halves c =
    let P = c.args.problem.now in
    let part = c.args.part.now in
    let reached = c.in_ok-run.run'.reached in
    let links = c.as_slice-links.ensures.value in
    let points = c.as_slice-points.ensures.value in
    let solved : IsLeast (scaled_block P c.args.scale part) (member reached) = subst (λ (q : ProblemData). IsLeast q (member reached)) c.in_ok-block.ensures.value c.in_ok-run.ensures.least in
    let marked : (j : ℕ) → slice_index_or c.in_ok-chosen.chosen.items j false ≡ member reached j =
    λ j. c.in_ok-chosen.ensures.marked j ∙ ap (λ (xs : List ℕ). member xs j) c.reached.ensures.value in
    let up = c.in_ok-upper.ensures.marked ∙ (λ i. filter (λ j. slice_index_or (c.deref.ensures.value i) (place_of (links i) j) false) (links i)) in
    let down = c.in_ok-upper.ensures.others ∙ (λ i. filter (λ j. not (slice_index_or (c.deref.ensures.value i) (place_of (links i) j) false)) (links i)) in
    let here = subst (λ (ps : List ℕ). (p : ℕ) → member ps p ≡ true → slice_index_or c.in_ok-paid.paid.items (place_of ps p) false ≡ list_any (λ j. needs_point P j p) c.as_slice.result.now) points c.in_ok-paid.ensures.marked in
    let need = subst (λ (xs : List ℕ). (p : ℕ) → member part.points p ≡ true → slice_index_or c.in_ok-paid.paid.items (place_of part.points p) false ≡ list_any (λ j. needs_point P j p) xs) c.as_slice.ensures.value here in
    let with_needs = c.in_ok-taken.ensures.marked ∙ (λ i. filter (λ p. slice_index_or (c.deref-2.ensures.value i) (place_of (points i) p) false) (points i)) in
    let without = c.in_ok-taken.ensures.others ∙ (λ i. filter (λ p. not (slice_index_or (c.deref-2.ensures.value i) (place_of (points i) p) false)) (points i)) in
    λ first last low high above below open_block.
    halves P c.args.scale part reached c.in_ok-upper.upper c.in_ok-upper.lower c.in_ok-taken.taken c.in_ok-taken.left c.in_ok-chosen.chosen.items c.in_ok-paid.paid.items
    (c.blocks_join.ensures.scales P) (c.blocks_split.ensures.split P c.points.ensures.problem) (c.dearer_nest.ensures.scales P) solved marked up down need with_needs without
    first last low high above below open_block
