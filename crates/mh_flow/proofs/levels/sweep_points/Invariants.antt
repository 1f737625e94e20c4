use Rattle.mh_flow.proofs.Sweeping.{IsPointsSwept}
use Rattle.mh_flow.proofs.levels.sweep_points.Given as goal

abbrev pub invariant-loop-row : goal.invariant-loop-row
invariant-loop-row l = IsPointsSwept l.rows l.gain_left l.links l.initial.points l.points l.lowered.items l.row
