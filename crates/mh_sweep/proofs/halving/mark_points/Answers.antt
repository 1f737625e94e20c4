use Rattle.std.proofs.Common.{◌≡◌, ◌∙◌, ap, arith, ◌<◌, List, Bool, length, false}
use Rattle.std.specs.List.{slice_index_or}
use Rattle.mh_network.specs.Parts.{place_of}
use Rattle.mh_sweep.proofs.Numbering.{num}
use Rattle.mh_sweep.proofs.Steps.{marks_more, step_past, step_set}
use Rattle.mh_sweep.proofs.halving.mark_points.Goals as goal
use Rattle.mh_sweep.proofs.halving.mark_points.Goals.{in-Some, in_default}

pub loop-need-preserved : goal.loop-need-preserved
loop-need-preserved c =
    let points = c.args.points.now in
    let need = num c.args.needs.now c.loop-need.need-index in
    let kept : length c.match-place_in.marks ≡ length c.args.marks.now = c.match-place_in.auto.marks ∙ c.loop-need.invariant.room in
    elim c.match-place_in.branch [
      | in-Some w ↦
          let found = w.in-Some.ensures.found in
          let room : w.in-Some.at < length c.loop-need.marks = omega (arith, found.2, c.loop-need.invariant.room, c.requires.room) in
          record {
            room = kept;
            marked = λ p e.
                marks_more c.args.needs.now c.loop-need.need-index p _ _ _ c.loop-need-test.true (c.loop-need.invariant.marked p e)
                (ap (λ (ms : List Bool). slice_index_or ms (place_of points p) false) w.marks-is ∙ step_set points c.loop-need.marks w.in-Some.at need p found.1 found.0 room e);
          }
      | in_default w ↦ record {
        room = kept;
        marked = λ p e.
            marks_more c.args.needs.now c.loop-need.need-index p _ _ _ c.loop-need-test.true (c.loop-need.invariant.marked p e)
            (ap (λ (ms : List Bool). slice_index_or ms (place_of points p) false) w.marks-is ∙ step_past points c.loop-need.marks need p w.in_default.ensures.found e);
      }
    ]
