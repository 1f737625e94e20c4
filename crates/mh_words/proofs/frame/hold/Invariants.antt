use Rattle.std.proofs.Common.{◌≡◌, ℕ, ◌<◌, length}
use Rattle.mh_tree.specs.Meaning.{argument}
use Rattle.mh_words.specs.Holds.{IsHeld}
use Rattle.mh_words.specs.Limits.{frame_length}
use Rattle.mh_words.specs.Running.{word_at}
use Rattle.mh_words.proofs.frame.hold.Given as goal

-- the arguments so far have their words
abbrev pub invariant-loop-place : goal.invariant-loop-place
invariant-loop-place l = (length l.frame ≡ frame_length) × ((i : ℕ) → i < l.place → IsHeld (argument l.arguments i) (word_at l.frame i))
