use Rattle.mh_cert.specs.Laws.Matching.{best_by_match}
use Rattle.mh_cert.proofs.laws.matching_is_best.Goals as goal

pub returns-clause-best : goal.returns-clause-best
returns-clause-best c = λ plan matches. best_by_match _ plan c.links.ensures.problem matches
