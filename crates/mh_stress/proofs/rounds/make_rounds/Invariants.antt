use Rattle.mh_stress.specs.Rounds.{HasWorked}
use Rattle.mh_stress.proofs.rounds.make_rounds.Given as goal

abbrev pub invariant-loop-round : goal.invariant-loop-round
invariant-loop-round g l = HasWorked g.N.ListName.definition l.calls l.round l.fn.pass l.pass
