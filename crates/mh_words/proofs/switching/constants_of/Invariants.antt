use Rattle.std.proofs.Common.{◌≡◌, take}
use Rattle.mh_words.specs.RoutineOf.{constants, word_routines}
use Rattle.mh_words.proofs.switching.constants_of.Given as goal

abbrev pub invariant-loop-target : goal.invariant-loop-target
invariant-loop-target l = constants l.answers.items ≡ word_routines (take l.target-index l.targets)
