use Rattle.std.proofs.Common.{◌≡◌, ◌++◌, take}
use Rattle.mh_code.specs.PieceOf.{routines}
use Rattle.mh_code.proofs.switching.append.Given as goal

abbrev pub invariant-loop-piece : goal.invariant-loop-piece
invariant-loop-piece l = routines l.list.items ≡ routines l.initial.list.items ++ routines (take l.piece-index l.pieces)
