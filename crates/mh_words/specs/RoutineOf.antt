-- The routine of a piece of code over words, by a fold.
use Rattle.std.specs.Prelude.{ℤ, pos, ◌+ℤ◌, List, [], ◌∷◌, map}
use Rattle.std.specs.Arc.{arc_value}
use Rattle.std.specs.declared.alloc.Global.{Global}
use Rattle.std.specs.declared.sync.Arc.{Arc}
use Rattle.mh_words.specs.Routine.{WordRoutine, give, keep, pick, point}
use Rattle.mh_words.specs.declared.piece.WordPiece.{WordPiece}
use Rattle.mh_words.specs.declared.piece.WordPiece.TheOpen.{WordPiece-F}
use Rattle.mh_words.specs.declared.piece.WordPiece.TheOpen as open_piece
use Rattle.mh_words.specs.declared.piece.WordPiece.TheFolds.{fold-WordPiece}
use Rattle.mh_words.specs.declared.constant.Constant.{Constant as ConstantAnswer}
use Rattle.mh_words.specs.declared.slot.Slot.{Slot}
use Rattle.mh_words.specs.declared.word_source.WordSource.TheVariants.{Constant}
use Rattle.mh_words.specs.declared.word_test.WordTest.TheVariants.{Is}

-- the routines that a table leads to, one for each key from n on, and another one for all other words
abbrev pub table : Slot → ℤ → List WordRoutine → WordRoutine → WordRoutine
table s n [] o = o
table s n (p ∷ ps) o = pick (Is s n) p (table s (n +ℤ pos 1) ps o)

-- the routines that answer with constants
abbrev pub constants : List ConstantAnswer → List WordRoutine
constants [] = []
constants (c ∷ cs) = give c.steps (Constant c.word) ∷ constants cs

abbrev pub word_step : WordPiece-F WordRoutine → WordRoutine
word_step (open_piece.Answer source steps) = give steps source
word_step (open_piece.Let source slot then steps) = keep steps source slot.place then.value
word_step (open_piece.If test target fallback) = pick test target.value fallback.value
word_step (open_piece.Told slot word told steps fallback) = pick (Is slot word) (give steps (Constant told)) fallback.value
word_step (open_piece.Table slot least targets otherwise) = table slot least (map (λ t. t.value) targets.items) otherwise.value
word_step (open_piece.Answers slot least answers otherwise) = table slot least (constants answers.items) otherwise.value
word_step (open_piece.Point p target fallback) = point p target.value fallback.value

-- the routine of a piece
abbrev pub word_routine : WordPiece → WordRoutine
word_routine = fold-WordPiece WordRoutine word_step

-- those of some pieces
abbrev pub word_routines : List (Arc WordPiece Global) → List WordRoutine
word_routines = map (λ p. word_routine (arc_value p))
