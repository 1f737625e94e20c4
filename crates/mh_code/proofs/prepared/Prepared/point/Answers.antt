use Rattle.std.proofs.Common.{◌∙◌, subst, sym}
use Rattle.std.specs.Arc.{arc_value}
use Rattle.mh_code.specs.PieceOf.{routine_of_code}
use Rattle.mh_code.specs.Routine.{point as routine_point}
use Rattle.mh_code.proofs.PreparedParts.{point_has_routine}
use Rattle.mh_code.proofs.prepared.Prepared.point.Goals as goal
use Rattle.mh_tree.specs.Constructors.{point_made}
use Rattle.mh_tree.specs.Handle.{TypedTree, IsSound}

pub invariant_of-result : goal.invariant_of-result
invariant_of-result c =
    let P : TypedTree → Type 0 = λ h. IsSound h.tree h.signature in
    let sound = subst P c.handle.view_is c.handle.invariant.sound in
    let made = sym (λ i. point_made c.args.point (c.target.view_is i) (c.fallback.view_is i)) ∙ c.in_ok-handle.ensures.value in
    let code = c.in_ok-code.ensures.value ∙ (λ i. routine_point 1 c.args.point (c.in_ok-target.ensures.value i) (c.in_ok-fallback.ensures.value i)) in
    record {
      sound = sound;
      code = point_has_routine c.args.point c.args.target.now c.args.fallback.now c.in_ok-handle.handle (routine_of_code (arc_value c.in_ok-code.code)) made
          (subst P c.fallback.view_is c.fallback.invariant.sound) sound code;
    }
