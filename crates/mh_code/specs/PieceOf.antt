-- The routine of a piece and of code, by a fold.
use Rattle.std.specs.Prelude.{ℕ, List, [], ◌∷◌, map, drop, get_or}
use Rattle.std.specs.Arc.{arc_value}
use Rattle.std.specs.declared.alloc.Global.{Global}
use Rattle.std.specs.declared.sync.Arc.{Arc}
use Rattle.mh_type.specs.declared.operation.Op.TheVariants as Op
use Rattle.mh_type.specs.declared.value.Value.TheVariants.{Int}
use Rattle.mh_tree.specs.Prepared.{leading_arguments}
use Rattle.mh_tree.specs.declared.operand.Operand.TheVariants.{Argument, Constant}
use Rattle.mh_code.specs.Routine.{Source, operand, operation, invocation, Routine, give, keep, pick, point as routine_point}
use Rattle.mh_code.specs.RoutineOf.{after_steps}
use Rattle.mh_code.specs.declared.code.KeyTest.{KeyTest}
use Rattle.mh_code.specs.declared.index.Row.{Row}
use Rattle.mh_code.specs.declared.code.Code.{Code, fold-Code}
use Rattle.mh_code.specs.declared.code.Piece.{Piece}
use Rattle.mh_code.specs.declared.code.Piece.TheOpen.{Piece-F, Code-F}
use Rattle.mh_code.specs.declared.code.Piece.TheOpen as open_piece
use Rattle.mh_code.specs.declared.code.Piece.TheFolds.{fold-Piece}

-- the test of a key, on an argument
abbrev pub key_source : KeyTest → Source
key_source t = operation Op.Ieq (Argument t.place) (Constant (Int t.key))

-- A chain of tests of one argument, each with the target at its index. If there is none, and after all tests, the next target follows, or
-- otherwise another routine.
abbrev pub chain : ℕ → List Row → List Routine → Routine → Routine
chain place [] ts o = get_or ts 0 o
chain place (r ∷ rs) ts o = pick r.steps (key_source (record { place = place; key = r.key })) (get_or ts 0 o) (chain place rs (drop 1 ts) o)

abbrev pub piece_step : Piece-F Routine Routine → Routine
piece_step (open_piece.Leaf o steps) = give steps (operand o)
piece_step (open_piece.Apply op first second steps) = give steps (operation op first second)
piece_step (open_piece.Invoke site operands steps) = give steps (invocation site operands.items)
piece_step (open_piece.Forward site count steps) = give steps (invocation site (leading_arguments count))
piece_step (open_piece.Put o place then steps) = keep steps (operand o) place then.value
piece_step (open_piece.Let op first second place then steps) = keep steps (operation op first second) place then.value
piece_step (open_piece.Call site operands place then steps) = keep steps (invocation site operands.items) place then.value
piece_step (open_piece.Truth o target fallback steps) = pick steps (operand o) target.value fallback.value
piece_step (open_piece.Test op first second target fallback steps) = pick steps (operation op first second) target.value fallback.value
piece_step (open_piece.Case test target fallback steps) = pick steps (key_source test) target.value fallback.value
piece_step (open_piece.Point point target fallback steps) = routine_point steps point target.value fallback.value
piece_step (open_piece.Switch place index targets otherwise) = chain place index.value (map (λ t. t.value) targets.items) otherwise.value
piece_step (open_piece.Go code steps) = after_steps steps code.value

abbrev pub entry_step : Code-F Routine Routine → Routine
entry_step code = code.entry.value

abbrev pub routine_of : Piece → Routine
routine_of = fold-Piece Routine Routine piece_step entry_step

abbrev pub routine_of_code : Code → Routine
routine_of_code = fold-Code Routine Routine piece_step entry_step

-- those of some pieces
abbrev pub routines : List (Arc Piece Global) → List Routine
routines = map (λ p. routine_of (arc_value p))
