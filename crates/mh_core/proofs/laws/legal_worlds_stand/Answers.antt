use Rattle.mh_core.specs.Laws.StandingTrees.{stands}
use Rattle.mh_core.proofs.laws.legal_worlds_stand.Goals as goal

pub returns : goal.returns
returns c = record { trees = λ d l r is legal s h. stands d l r s is legal h }
