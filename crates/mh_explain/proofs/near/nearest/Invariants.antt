use Rattle.mh_explain.proofs.Names.{SoFar}
use Rattle.mh_explain.proofs.near.nearest.Given as goal

abbrev pub invariant-loop-name : goal.invariant-loop-name
invariant-loop-name l = SoFar l.word l.known l.name-index l.least l.found
