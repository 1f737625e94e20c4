use Rattle.std.proofs.Common.{◌≡◌, ◌<◌, ℕ, length, get_or}
use Rattle.std.specs.Prelude.{pos, ◌+ℤ◌}
use Rattle.std.specs.Arc.{arc_value}
use Rattle.mh_words.specs.RoutineOf.{word_routine, word_routines}
use Rattle.mh_words.specs.inner.Switches.{target_of}
use Rattle.mh_words.proofs.switching.table.Given as goal

-- each entry is what its key leads to
abbrev pub invariant-loop-place : goal.invariant-loop-place
invariant-loop-place l =
    let o = word_routine (arc_value l.tests.otherwise) in
    (length l.targets.items ≡ l.place)
    × ((i : ℕ) → i < length l.targets.items → get_or (word_routines l.targets.items) i o ≡ target_of (l.least +ℤ pos i) o l.tests.keyed.items)
