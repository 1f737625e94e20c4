use Rattle.std.proofs.Common.{◌+◌, ◌*◌}
use Rattle.mh_words.proofs.lowering.+lower.Given as goal

-- what is left to do: three for each piece that may follow, and up to two for the call that has made its source
abbrev pub decreases-lower_piece : goal.decreases-lower_piece
decreases-lower_piece l = 3 * l.place.now.depth

abbrev pub decreases-lower_kept : goal.decreases-lower_kept
decreases-lower_kept l = 3 * l.place.now.depth + 1

abbrev pub decreases-lower_choice : goal.decreases-lower_choice
decreases-lower_choice l = 3 * l.place.now.depth + 1

abbrev pub decreases-lower_switch : goal.decreases-lower_switch
decreases-lower_switch l = 3 * l.place.now.depth + 2

abbrev pub decreases-lower_rows : goal.decreases-lower_rows
decreases-lower_rows l = 3 * l.place.now.depth + 1

abbrev pub decreases-lower_point : goal.decreases-lower_point
decreases-lower_point l = 3 * l.place.now.depth + 1
