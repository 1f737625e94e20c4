-- The height of a piece and of code: the number of pieces on the longest way through them.
use Rattle.std.specs.Prelude.{ℕ, ◌+◌, max, List, [], ◌∷◌, map}
use Rattle.mh_code.specs.declared.code.Code.{Code, fold-Code}
use Rattle.mh_code.specs.declared.code.Piece.{Piece}
use Rattle.mh_code.specs.declared.code.Piece.TheOpen.{Piece-F, Code-F}
use Rattle.mh_code.specs.declared.code.Piece.TheOpen as open_piece
use Rattle.mh_code.specs.declared.code.Piece.TheFolds.{fold-Piece}

-- the greatest of some heights
abbrev pub highest : List ℕ → ℕ
highest [] = 0
highest (n ∷ ns) = max n (highest ns)

abbrev pub height_step : Piece-F ℕ ℕ → ℕ
height_step (open_piece.Leaf o steps) = 1
height_step (open_piece.Apply op first second steps) = 1
height_step (open_piece.Invoke site operands steps) = 1
height_step (open_piece.Forward site count steps) = 1
height_step (open_piece.Put o place then steps) = 1 + then.value
height_step (open_piece.Let op first second place then steps) = 1 + then.value
height_step (open_piece.Call site operands place then steps) = 1 + then.value
height_step (open_piece.Truth o target fallback steps) = 1 + max target.value fallback.value
height_step (open_piece.Test op first second target fallback steps) = 1 + max target.value fallback.value
height_step (open_piece.Case test target fallback steps) = 1 + max target.value fallback.value
height_step (open_piece.Point point target fallback steps) = 1 + max target.value fallback.value
height_step (open_piece.Switch place index targets otherwise) = 1 + max (highest (map (λ t. t.value) targets.items)) otherwise.value
height_step (open_piece.Go code steps) = 1 + code.value

abbrev pub entry_height : Code-F ℕ ℕ → ℕ
entry_height code = code.entry.value

abbrev pub height : Piece → ℕ
height = fold-Piece ℕ ℕ height_step entry_height

abbrev pub code_height : Code → ℕ
code_height = fold-Code ℕ ℕ height_step entry_height
