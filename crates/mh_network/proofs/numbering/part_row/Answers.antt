use Rattle.std.proofs.Common.{◌≡◌, ◌<◌, ℕ, List, length, arith, ◌∙◌, ap, true}
use Rattle.mh_network.specs.Problems.{link_at}
use Rattle.mh_network.specs.Selection.{member}
use Rattle.mh_network.specs.Parts.{place_of}
use Rattle.mh_network.proofs.Renumbering.{num, member_at}
use Rattle.mh_network.proofs.Parted.{mapped_more}
use Rattle.mh_network.proofs.numbering.part_row.Goals as goal

pub bounds-places-point : goal.bounds-places-point
bounds-places-point c =
    let same = c.needs-point-items.ensures.value in
    let needs : List ℕ = (link_at c.args.problem.now c.args.link).needs in
    let l : c.loop-point.point-index < length needs = rw same at c.loop-point-test.true in
    let inside : member c.args.part.now.points (num needs c.loop-point.point-index) ≡ true =
    c.requires.part.needs_in c.args.link _ c.requires.inside (member_at needs c.loop-point.point-index l) in
    omega (arith, c.requires.part.points_in _ inside, c.requires.places.count, ap (λ (xs : List ℕ). num xs c.loop-point.point-index) same)

pub loop-point-preserved : goal.loop-point-preserved
loop-point-preserved c =
    let same = c.needs-point-items.ensures.value in
    let needs : List ℕ = (link_at c.args.problem.now c.args.link).needs in
    let l : c.loop-point.point-index < length needs = rw same at c.loop-point-test.true in
    let inside : member c.args.part.now.points (num needs c.loop-point.point-index) ≡ true =
    c.requires.part.needs_in c.args.link _ c.requires.inside (member_at needs c.loop-point.point-index l) in
    mapped_more (place_of c.args.part.now.points) _ _ needs c.loop-point.point-index _ l c.loop-point.invariant c.in_ok-push.ensures.items
    (ap (λ (xs : List ℕ). num c.args.places.now (num xs c.loop-point.point-index)) same ∙ c.requires.places.value _ inside)
