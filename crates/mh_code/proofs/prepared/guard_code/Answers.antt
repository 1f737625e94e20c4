use Rattle.std.proofs.Common.{◌≡◌, ◌+◌, ◌∙◌, IfOk, subst}
use Rattle.std.specs.Arc.{arc_value}
use Rattle.mh_code.specs.Laws.Shifts.{shifts}
use Rattle.mh_code.specs.PieceOf.{routine_of_code}
use Rattle.mh_code.specs.Routine.{Routine, truth}
use Rattle.mh_code.specs.RoutineOf.{routine}
use Rattle.mh_code.proofs.prepared.guard_code.Goals as goal
use Rattle.mh_tree.specs.Prepared.{handle_code, prepared}
use Rattle.mh_tree.specs.TreeOf.{tree_of}

pub returns : goal.returns
returns c =
    let tree = tree_of c.root.result.now in
    let operands = c.deref.result.now in
    let same : prepared tree operands 0 0 ≡ handle_code c.args.test.now =
    λ i. prepared (c.root.ensures.value i) ((c.deref.ensures.value ∙ c.in_ok-operands.ensures.value) i) 0 0 in
    let P : Routine → Type 0 = λ r. IfOk c.finish.result (λ k. routine_of_code (arc_value k) ≡ r) in
    record {
      value = subst P
          (c.in_ok-entry.ensures.value
          ∙ shifts tree operands 0 1 0 _
          ∙ (λ i. routine (same i) 0 (0 + 1) (truth (c.in_ok-target.ensures.value i) (c.in_ok-fallback.ensures.value i))))
          c.finish.ensures.value;
    }
