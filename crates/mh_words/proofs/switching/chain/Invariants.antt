use Rattle.std.proofs.Common.{◌≡◌}
use Rattle.std.specs.Arc.{arc_value}
use Rattle.mh_words.specs.RoutineOf.{word_routine}
use Rattle.mh_words.specs.inner.Switches.{tests}
use Rattle.mh_words.proofs.switching.chain.Given as goal

abbrev pub invariant-loop-key : goal.invariant-loop-key
invariant-loop-key l = word_routine (arc_value l.piece) ≡ tests l.slot (word_routine (arc_value l.initial.piece)) l.yielded
