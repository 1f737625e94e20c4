use Rattle.std.proofs.Common.{subst, sym}
use Rattle.mh_cert.specs.Plans.{Matches}
use Rattle.mh_core.specs.Problems.{problem_at}
use Rattle.mh_core.specs.Runtimes.{RuntimeState}
use Rattle.mh_core.proofs.runtime.Runtime.publish_behind.Goals as goal

pub publish_for-requires-clause-matching : goal.publish_for-requires-clause-matching
publish_for-requires-clause-matching c =
    subst (λ (x : RuntimeState). Matches (problem_at x.book.definition x.book.records c.args.snapshot) c.args.plan) (sym c.self.view_is) c.requires.matching
