use Rattle.std.proofs.Common.{◌≡◌, sym, subst, rules}
use Rattle.std.specs.Arc.{arc_value}
use Rattle.std.specs.Int.{cast_signed, cast_unsigned, w64}
use Rattle.std.specs.Int.RustNames.{FitsSigned}
use Rattle.std.proofs.lemmas.Int.{to_z-of_z}
use Rattle.mh_words.specs.Routine.{WordRoutine}
use Rattle.mh_words.specs.RoutineOf.{word_routine}
use Rattle.mh_words.specs.inner.Switches.{Same, keys_below, keys_from, tests}
use Rattle.mh_words.proofs.Entries.{halves_same}
use Rattle.mh_words.proofs.Placed.{if_ok}
use Rattle.mh_words.proofs.switching.+halve.Goals as goal

pub returns : goal.returns
returns t c =
    let slot = c.args.slot in
    let ks = c.args.tests.keyed.items in
    let o = word_routine (arc_value c.args.tests.otherwise) in
    let pivot = cast_signed w64 (cast_unsigned w64 c.middle_of-pivot.result) in
    let parts = c.in_ok-below.ensures in
    let below : Same (word_routine (arc_value c.in_ok-target.target)) (tests slot o (keys_below pivot ks)) =
    subst (λ (q : WordRoutine). Same (word_routine (arc_value c.in_ok-target.target)) q) (λ i. tests slot (word_routine (parts.otherwise.0 i)) (parts.below i)) c.in_ok-target.ensures.same in
    let above : Same (word_routine (arc_value c.in_ok-fallback.fallback)) (tests slot o (keys_from pivot ks)) =
    subst (λ (q : WordRoutine). Same (word_routine (arc_value c.in_ok-fallback.fallback)) q) (λ i. tests slot (word_routine (parts.otherwise.1 i)) (parts.above i)) c.in_ok-fallback.ensures.same in
    let fits : FitsSigned w64 c.middle_of-pivot.result = search rules in
    let is : pivot ≡ c.middle_of-pivot.result = to_z-of_z w64 c.middle_of-pivot.result fits in
    record {
      same = if_ok c.choose.result _ _
          (λ a h. subst (λ q. Same q (tests slot o ks)) (sym h) (halves_same slot pivot (word_routine (arc_value c.in_ok-target.target)) (word_routine (arc_value c.in_ok-fallback.fallback)) o ks below above))
          c.choose.ensures.value;
    }
