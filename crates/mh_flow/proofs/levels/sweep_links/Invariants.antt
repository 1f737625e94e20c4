use Rattle.mh_flow.proofs.Sweeping.{IsLinksSwept}
use Rattle.mh_flow.proofs.levels.sweep_links.Given as goal

abbrev pub invariant-loop-row : goal.invariant-loop-row
invariant-loop-row l = IsLinksSwept l.rows l.gain_left l.points l.initial.links l.links l.lowered.items l.row
