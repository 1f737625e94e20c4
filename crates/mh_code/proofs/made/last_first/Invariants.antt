use Rattle.std.proofs.Common.{length}
use Rattle.mh_code.proofs.made.last_first.Given as goal

abbrev pub decreases-loop-piece : goal.decreases-loop-piece
decreases-loop-piece l = length l.pieces.items
