use Rattle.std.proofs.Common.{◌≡◌, arith, ap, ◌∙◌, inl, inr}
use Rattle.std.proofs.lemmas.Bool.{cases_Bool}
use Rattle.mh_network.specs.Parts.{place_of}
use Rattle.mh_network.specs.Selection.{member}
use Rattle.mh_sweep.proofs.Numbering.{num, place_in}
use Rattle.mh_sweep.proofs.marking.place_in.Goals as goal
use Rattle.mh_sweep.proofs.marking.place_in.Goals.{else-at-points-via-then-at-points+else-points-at, else-at-points-via-else-at-points}

pub returns-else-at-points : goal.returns-else-at-points
returns-else-at-points c =
    record {
      found = elim (cases_Bool (member c.args.points.now c.args.point)) [
        | inl there_is ↦
            let there = place_in c.args.points.now c.args.point there_is in
            let same : num c.args.places.now c.args.point ≡ place_of c.args.points.now c.args.point = c.requires.places.value c.args.point there_is in
            absurd (elim c.else-at-points.branch [
              | else-at-points-via-then-at-points+else-points-at w ↦ w.if-points-at.false (ap (num c.args.points.now) same ∙ there.1)
              | else-at-points-via-else-at-points w ↦ omega (arith, there.0, same, w.if-at-points.false)
            ])
        | inr none ↦ none
      ];
    }
