use Rattle.std.proofs.Common.{◌≡◌, ◌≤◌, [], length, ap, sym, ◌∙◌, subst}
use Rattle.std.specs.Arc.{arc_value}
use Rattle.mh_code.specs.PieceOf.{routine_of}
use Rattle.mh_code.specs.RoutineOf.{handle_routine}
use Rattle.mh_tree.specs.Handle.{TypedTree}
use Rattle.mh_type.specs.Signature.{Signature}
use Rattle.mh_words.specs.Means.{Means}
use Rattle.mh_words.specs.RoutineOf.{word_routine}
use Rattle.mh_words.specs.Words.{Words}
use Rattle.mh_words.specs.inner.Lowered.{Lowers}
use Rattle.mh_words.proofs.Handled.{means_lowered}
use Rattle.mh_words.proofs.handles.lower.Goals as goal

pub returns-in-Ok : goal.returns-in-Ok
returns-in-Ok c =
    let h = c.args.handle.now in
    let of = c.method_type-method_type.result.now in
    let p = word_routine (arc_value c.in-Ok.entry) in
    let type_is : of ≡ h.signature = c.method_type-method_type.ensures.value ∙ ap (λ (x : TypedTree). x.signature) c.handle.ensures.value in
    let code : routine_of c.entry.result.now ≡ handle_routine h = c.entry.ensures.value ∙ c.code.ensures.value in
    let few : length h.signature.parameters ≤ 16 = subst (λ (m : Signature). length m.parameters ≤ 16) type_is c.count.ensures.few in
    let lowered : Lowers h.signature [] p (handle_routine h) 0 =
    subst (λ (m : Signature). Lowers m [] p (handle_routine h) 0) type_is (subst (λ r. Lowers of [] p r 0) code c.in-Ok.ensures.lowers) in
    let made : Words = record { kind = c.ret.result; entry = arc_value c.in-Ok.entry } in
    record {
      means = subst (λ w. Means w h) (sym c.new.ensures.value)
          (means_lowered h c.code.ensures.sound few made (c.ret.ensures.value ∙ ap (λ (m : Signature). m.ret) type_is) lowered);
    }
