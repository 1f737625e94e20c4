use Rattle.std.proofs.Common.{◌∙◌, subst, sym}
use Rattle.std.specs.Arc.{arc_value}
use Rattle.mh_code.specs.PieceOf.{routine_of_code}
use Rattle.mh_code.specs.Routine.{truth}
use Rattle.mh_code.specs.RoutineOf.{routine}
use Rattle.mh_code.proofs.PreparedParts.{guard_has_routine}
use Rattle.mh_code.proofs.prepared.Prepared.guard.Goals as goal
use Rattle.mh_tree.specs.Constructors.{guard_made}
use Rattle.mh_tree.specs.Handle.{TypedTree, IsSound}
use Rattle.mh_tree.specs.Prepared.{handle_code}

pub invariant_of-result : goal.invariant_of-result
invariant_of-result c =
    let P : TypedTree → Type 0 = λ h. IsSound h.tree h.signature in
    let sound = subst P c.handle.view_is c.handle.invariant.sound in
    let made = sym (λ i. guard_made (c.test.view_is i) (c.target.view_is i) (c.fallback.view_is i)) ∙ c.in_ok-handle.ensures.value in
    let code = c.in_ok-code.ensures.value ∙ (λ i. routine (handle_code (c.test.view_is i)) 0 1 (truth (c.in_ok-target.ensures.value i) (c.in_ok-fallback.ensures.value i))) in
    record {
      sound = sound;
      code = guard_has_routine c.args.test.now c.args.target.now c.args.fallback.now c.in_ok-handle.handle (routine_of_code (arc_value c.in_ok-code.code)) made
          (subst P c.test.view_is c.test.invariant.sound) (subst P c.target.view_is c.target.invariant.sound) (subst P c.fallback.view_is c.fallback.invariant.sound) sound code;
    }
