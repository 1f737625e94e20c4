use Rattle.std.proofs.Common.{◌≡◌}
use Rattle.mh_words.specs.RoutineOf.{word_routine}
use Rattle.mh_words.specs.Running.{answer, answer_steps}
use Rattle.mh_words.proofs.running.run_words.Given as goal

-- what is left returns what the whole code returns
abbrev pub invariant-loop-piece : goal.invariant-loop-piece
invariant-loop-piece l =
    (answer l.valid (word_routine l.piece) l.frame ≡ answer l.valid (word_routine l.code.entry) l.initial.frame)
    × (answer_steps l.valid (word_routine l.piece) l.frame ≡ answer_steps l.valid (word_routine l.code.entry) l.initial.frame)
