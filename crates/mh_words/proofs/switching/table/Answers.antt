use Rattle.std.proofs.Common.{Option, Vec, IfSome, ◌≡◌, ◌<◌, ℕ, List, [], ◌∷◌, ◌++◌, length, get_or, ap, sym, ◌∙◌, subst, arith, rules}
use Rattle.std.specs.Prelude.{pos, ◌+ℤ◌}
use Rattle.std.specs.Arc.{arc_value}
use Rattle.std.specs.declared.alloc.Global.{Global}
use Rattle.std.specs.declared.sync.Arc.{Arc}
use Rattle.std.specs.Int.{cast_signed, cast_unsigned, w64}
use Rattle.std.specs.Int.RustNames.{FitsSigned}
use Rattle.std.proofs.lemmas.Int.{to_z-of_z}
use Rattle.std.proofs.lemmas.List.{length-append, length-map}
use Rattle.mh_words.specs.Routine.{WordRoutine}
use Rattle.mh_words.specs.RoutineOf.{constants, table, word_routine, word_routines}
use Rattle.mh_words.specs.inner.Switches.{AllWithin, Same, target_of, tests}
use Rattle.mh_words.specs.declared.constant.Constant.{Constant as ConstantAnswer}
use Rattle.mh_words.specs.declared.piece.WordPiece.{WordPiece}
use Rattle.mh_words.proofs.Entries.{entry_pushed, table_same}
use Rattle.mh_words.proofs.Pieces.{word_of_answers, word_of_table}
use Rattle.mh_words.proofs.Placed.{if_ok}
use Rattle.mh_words.proofs.switching.table.Goals as goal

pub loop-place-preserved : goal.loop-place-preserved
loop-place-preserved c =
    let o = word_routine (arc_value c.args.tests.now.otherwise) in
    let ks = c.args.tests.now.keyed.items in
    let to : ℕ → WordRoutine = λ i. target_of (cast_signed w64 (cast_unsigned w64 c.args.least) +ℤ pos i) o ks in
    let t = c.in_ok-share.field-0 in
    let items : c.push.new.self.items ≡ c.loop-place.targets.items ++ t ∷ [] = search rules in
    let count : length c.loop-place.targets.items ≡ c.loop-place.place = c.loop-place.invariant.0 in
    let fits : FitsSigned w64 c.in-Some.key = search rules in
    let key : cast_signed w64 (cast_unsigned w64 c.in-Some.key) ≡ cast_signed w64 (cast_unsigned w64 c.args.least) +ℤ pos (length c.loop-place.targets.items) =
    to_z-of_z w64 c.in-Some.key fits ∙ c.in-Some.ensures.value ∙ ap (λ n. cast_signed w64 (cast_unsigned w64 c.args.least) +ℤ pos n) (sym count) in
    let made : word_routine (arc_value t) ≡ target_of (cast_signed w64 (cast_unsigned w64 c.in-Some.key)) o ks = ap word_routine c.in_ok-share.ensures.value ∙ c.target-target.ensures.value ∙ ap (target_of (cast_signed w64 (cast_unsigned w64 c.in-Some.key)) o) c.deref.ensures.value in
    let last : word_routine (arc_value t) ≡ to (length c.loop-place.targets.items) = made ∙ ap (λ n. target_of n o ks) key in (
      ap (λ (xs : List _). length xs) items ∙ omega (arith, length-append c.loop-place.targets.items (t ∷ []), count),
      λ i inside. subst (λ xs. get_or (word_routines xs) i o ≡ to i) (sym items)
          (entry_pushed c.loop-place.targets.items t o to c.loop-place.invariant.1 last i (subst (λ n. i < n) (ap (λ (xs : List _). length xs) items) inside)),
    )

pub returns : goal.returns
returns c =
    let tests_given = c.args.tests.now in
    let o = word_routine (arc_value tests_given.otherwise) in
    let ks = tests_given.keyed.items in
    let least = cast_signed w64 (cast_unsigned w64 c.args.least) in
    let targets = c.loop-place.targets in
    let ps = word_routines targets.items in
    let fits : FitsSigned w64 c.args.least = search rules in
    let within : AllWithin least c.args.count ks = subst (λ n. AllWithin n c.args.count ks) (sym (to_z-of_z w64 c.args.least fits)) c.requires.within in
    let mapped : length ps ≡ length targets.items = length-map targets.items (λ (t : Arc WordPiece Global). word_routine (arc_value t)) in
    let count : length ps ≡ c.args.count = omega (arith, mapped, c.loop-place.invariant.0) in
    let same : Same (table c.args.slot least ps o) (tests c.args.slot o ks) =
    table_same c.args.slot least c.args.count ps o ks within count (λ i inside. c.loop-place.invariant.1 i (omega (arith, mapped, inside))) in
    record {
      same = if_ok c.own-2.result _ _
          (λ a h. subst (λ p. Same p (tests c.args.slot o ks))
          (sym (ap word_routine h ∙ word_of_table c.args.slot least targets c.in_ok-otherwise.otherwise ∙ ap (λ x. table c.args.slot least ps (word_routine x)) c.in_ok-otherwise.ensures.value))
          same)
          c.own-2.ensures.value;
    }

pub returns-in-Some-2 : goal.returns-in-Some-2
returns-in-Some-2 c =
    let tests_given = c.args.tests.now in
    let o = word_routine (arc_value tests_given.otherwise) in
    let ks = tests_given.keyed.items in
    let least = cast_signed w64 (cast_unsigned w64 c.args.least) in
    let targets = c.loop-place.targets in
    let ps = word_routines targets.items in
    let fits : FitsSigned w64 c.args.least = search rules in
    let within : AllWithin least c.args.count ks = subst (λ n. AllWithin n c.args.count ks) (sym (to_z-of_z w64 c.args.least fits)) c.requires.within in
    let mapped : length ps ≡ length targets.items = length-map targets.items (λ (t : Arc WordPiece Global). word_routine (arc_value t)) in
    let count : length ps ≡ c.args.count = omega (arith, mapped, c.loop-place.invariant.0) in
    let same : Same (table c.args.slot least ps o) (tests c.args.slot o ks) =
    table_same c.args.slot least c.args.count ps o ks within count (λ i inside. c.loop-place.invariant.1 i (omega (arith, mapped, inside))) in
    let answers : constants c.in-Some-2.answers.items ≡ ps =
    subst (λ (x : Option (Vec ConstantAnswer Global)). IfSome x (λ v. constants v.items ≡ word_routines c.deref-2.result.now)) c.in-Some-2.is c.in_ok-answers.ensures.value
    ∙ ap word_routines c.deref-2.ensures.value in
    record {
      same = if_ok c.own.result _ _
          (λ a h. subst (λ p. Same p (tests c.args.slot o ks))
          (sym (ap word_routine h ∙ word_of_answers c.args.slot least c.in-Some-2.answers c.in_ok-otherwise.otherwise
          ∙ (λ j. table c.args.slot least (answers j) (word_routine (c.in_ok-otherwise.ensures.value j)))))
          same)
          c.own.ensures.value;
    }
