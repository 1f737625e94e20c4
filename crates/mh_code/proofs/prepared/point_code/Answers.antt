use Rattle.std.proofs.Common.{◌≡◌, ap, ◌∙◌, IfOk, subst}
use Rattle.std.specs.Arc.{arc_value}
use Rattle.mh_code.specs.PieceOf.{routine_of, routine_of_code}
use Rattle.mh_code.specs.Routine.{Routine, point as routine_point}
use Rattle.mh_code.proofs.PreparedParts.{routine_of_point}
use Rattle.mh_code.proofs.prepared.point_code.Goals as goal

pub returns : goal.returns
returns c =
    let made : routine_of (arc_value c.in_ok-entry.entry) ≡ routine_point 1 c.args.point (routine_of (arc_value c.in_ok-target.target)) (routine_of (arc_value c.in_ok-fallback.fallback)) =
    ap routine_of c.in_ok-entry.ensures.value ∙ routine_of_point c.args.point c.in_ok-target.target c.in_ok-fallback.fallback 1 in
    let P : Routine → Type 0 = λ r. IfOk c.with_owners.result (λ k. routine_of_code (arc_value k) ≡ r) in
    record {
      value = subst P
          (made ∙ (λ i. routine_point 1 c.args.point (c.in_ok-target.ensures.value i) (c.in_ok-fallback.ensures.value i)))
          c.with_owners.ensures.value;
    }
