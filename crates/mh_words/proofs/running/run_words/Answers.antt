use Rattle.std.proofs.Common.{Some, ◌≡◌, ◌≢◌, ◌<◌, ℕ, length, ap, sym, ◌∙◌, arith, rules}
use Rattle.std.specs.Prelude.{pos, ◌+ℤ◌}
use Rattle.std.specs.Arc.{arc_value}
use Rattle.std.specs.declared.alloc.Global.{Global}
use Rattle.std.specs.declared.sync.Arc.{Arc}
use Rattle.std.specs.Int.{w64}
use Rattle.std.specs.Int.RustNames.{FitsSigned}
use Rattle.std.proofs.lemmas.Int.{to_z-of_z}
use Rattle.std.proofs.lemmas.List.{get_or-map, length-map}
use Rattle.mh_words.specs.RoutineOf.{constants, table, word_routine, word_routines}
use Rattle.mh_words.specs.Running.{word_at}
use Rattle.mh_words.specs.inner.Switches.{entry_of}
use Rattle.mh_words.specs.declared.piece.WordPiece.{WordPiece}
use Rattle.mh_words.proofs.Pieces.{word_of_answers, word_of_table}
use Rattle.mh_words.proofs.Entries.{constant_told, constants_count, entry_found, entry_missing, led_on}
use Rattle.mh_words.proofs.running.run_words.Goals as goal

pub loop-piece-preserved-in-Some-place : goal.loop-piece-preserved-in-Some-place
loop-piece-preserved-in-Some-place c =
    let valid = c.args.valid.now in
    let f = c.loop-piece.frame in
    let w = c.in-Table in
    let i = c.in-Some-place.place in
    let ps = word_routines w.targets.items in
    let o = word_routine (arc_value w.otherwise) in
    let p = word_routine c.deref-piece-in-Some-place.result.now in
    let found = c.in-Some-place.ensures.found in
    let inside : i < length w.targets.items = omega (arith, found.0) in
    let many : i < length ps = omega (arith, length-map w.targets.items (λ (t : Arc WordPiece Global). word_routine (arc_value t))) in
    let word_fits : FitsSigned w64 (word_at f c.place-in-Table.result) = search rules in
    let least_fits : FitsSigned w64 w.least = search rules in
    let at : word_at f w.slot.place ≡ w.least +ℤ pos i =
    ap (word_at f) (sym c.place-in-Table.ensures.value) ∙ sym (to_z-of_z w64 (word_at f c.place-in-Table.result) word_fits)
    ∙ found.1 ∙ ap (λ n. n +ℤ pos i) (to_z-of_z w64 w.least least_fits) in
    let to : entry_of (word_at f w.slot.place) w.least ps o ≡ p =
    entry_found (word_at f w.slot.place) w.least ps o i at many
    ∙ get_or-map (λ (t : Arc WordPiece Global). word_routine (arc_value t)) w.targets.items i c.index.result.now o inside
    ∙ ap (λ (t : Arc WordPiece Global). word_routine (arc_value t)) (sym c.index.ensures) ∙ sym (ap word_routine c.deref-piece-in-Some-place.ensures) in
    let is : table w.slot w.least ps o ≡ word_routine c.loop-piece.piece.now = sym (ap word_routine w.is ∙ word_of_table w.slot w.least w.targets w.otherwise) in
    led_on valid f w.slot w.least ps o p _ _ _ to is c.loop-piece.invariant

pub loop-piece-preserved-in-None : goal.loop-piece-preserved-in-None
loop-piece-preserved-in-None c =
    let valid = c.args.valid.now in
    let f = c.loop-piece.frame in
    let w = c.in-Table in
    let ps = word_routines w.targets.items in
    let o = word_routine (arc_value w.otherwise) in
    let p = word_routine c.deref-piece-in-None.result.now in
    let word_fits : FitsSigned w64 (word_at f c.place-in-Table.result) = search rules in
    let least_fits : FitsSigned w64 w.least = search rules in
    let count : length ps ≡ length w.targets.items = length-map w.targets.items (λ (t : Arc WordPiece Global). word_routine (arc_value t)) in
    let none : (i : ℕ) → i < length ps → word_at f w.slot.place ≢ w.least +ℤ pos i =
    λ i inside e. c.in-None.ensures.missing i (omega (arith, count)) (omega (arith, count, w.targets.small))
    (to_z-of_z w64 (word_at f c.place-in-Table.result) word_fits ∙ ap (word_at f) c.place-in-Table.ensures.value ∙ e ∙ ap (λ n. n +ℤ pos i) (sym (to_z-of_z w64 w.least least_fits))) in
    let to : entry_of (word_at f w.slot.place) w.least ps o ≡ p =
    entry_missing (word_at f w.slot.place) w.least ps o none ∙ sym (ap word_routine c.deref-piece-in-None.ensures) in
    let is : table w.slot w.least ps o ≡ word_routine c.loop-piece.piece.now = sym (ap word_routine w.is ∙ word_of_table w.slot w.least w.targets w.otherwise) in
    led_on valid f w.slot w.least ps o p _ _ _ to is c.loop-piece.invariant

pub loop-piece-preserved-in_default-place : goal.loop-piece-preserved-in_default-place
loop-piece-preserved-in_default-place c =
    let valid = c.args.valid.now in
    let f = c.loop-piece.frame in
    let w = c.in-Answers in
    let ps = constants w.answers.items in
    let o = word_routine (arc_value w.otherwise) in
    let p = word_routine c.deref-piece-in_default-place.result.now in
    let word_fits : FitsSigned w64 (word_at f c.place-in-Answers.result) = search rules in
    let least_fits : FitsSigned w64 w.least = search rules in
    let count : length ps ≡ length w.answers.items = constants_count w.answers.items in
    let none : (i : ℕ) → i < length ps → word_at f w.slot.place ≢ w.least +ℤ pos i =
    λ i inside e. c.in_default-place.ensures.missing i (omega (arith, count)) (omega (arith, count, w.answers.small))
    (to_z-of_z w64 (word_at f c.place-in-Answers.result) word_fits ∙ ap (word_at f) c.place-in-Answers.ensures.value ∙ e ∙ ap (λ n. n +ℤ pos i) (sym (to_z-of_z w64 w.least least_fits))) in
    let to : entry_of (word_at f w.slot.place) w.least ps o ≡ p =
    entry_missing (word_at f w.slot.place) w.least ps o none ∙ sym (ap word_routine c.deref-piece-in_default-place.ensures) in
    let is : table w.slot w.least ps o ≡ word_routine c.loop-piece.piece.now = sym (ap word_routine w.is ∙ word_of_answers w.slot w.least w.answers w.otherwise) in
    led_on valid f w.slot w.least ps o p _ _ _ to is c.loop-piece.invariant

pub returns-in-Answers-clause-answer : goal.returns-in-Answers-clause-answer
returns-in-Answers-clause-answer c =
    let valid = c.args.valid.now in
    let f = c.loop-piece.frame in
    let w = c.in-Answers in
    let i = c.in-Some-place-2.place in
    let k = c.index-in-Answers.result.now in
    let found = c.in-Some-place-2.ensures.found in
    let inside : i < length w.answers.items = omega (arith, found.0) in
    let word_fits : FitsSigned w64 (word_at f c.place-in-Answers.result) = search rules in
    let least_fits : FitsSigned w64 w.least = search rules in
    let told_fits : FitsSigned w64 k.word = search rules in
    let at : word_at f w.slot.place ≡ w.least +ℤ pos i =
    ap (word_at f) (sym c.place-in-Answers.ensures.value) ∙ sym (to_z-of_z w64 (word_at f c.place-in-Answers.result) word_fits)
    ∙ found.1 ∙ ap (λ n. n +ℤ pos i) (to_z-of_z w64 w.least least_fits) in
    let is = ap word_routine w.is ∙ word_of_answers w.slot w.least w.answers w.otherwise in
    ap (λ n. Some n) (to_z-of_z w64 k.word told_fits)
    ∙ (constant_told valid f w.slot w.least w.answers.items (word_routine (arc_value w.otherwise)) (word_routine c.loop-piece.piece.now) i k _ _ at inside c.index-in-Answers.ensures (sym is) c.loop-piece.invariant).0

pub returns-in-Answers-clause-steps : goal.returns-in-Answers-clause-steps
returns-in-Answers-clause-steps c =
    let valid = c.args.valid.now in
    let f = c.loop-piece.frame in
    let w = c.in-Answers in
    let i = c.in-Some-place-2.place in
    let k = c.index-in-Answers.result.now in
    let found = c.in-Some-place-2.ensures.found in
    let inside : i < length w.answers.items = omega (arith, found.0) in
    let word_fits : FitsSigned w64 (word_at f c.place-in-Answers.result) = search rules in
    let least_fits : FitsSigned w64 w.least = search rules in
    let at : word_at f w.slot.place ≡ w.least +ℤ pos i =
    ap (word_at f) (sym c.place-in-Answers.ensures.value) ∙ sym (to_z-of_z w64 (word_at f c.place-in-Answers.result) word_fits)
    ∙ found.1 ∙ ap (λ n. n +ℤ pos i) (to_z-of_z w64 w.least least_fits) in
    let is = ap word_routine w.is ∙ word_of_answers w.slot w.least w.answers w.otherwise in
    (constant_told valid f w.slot w.least w.answers.items (word_routine (arc_value w.otherwise)) (word_routine c.loop-piece.piece.now) i k _ _ at inside c.index-in-Answers.ensures (sym is) c.loop-piece.invariant).1
