use Rattle.std.proofs.Common.{◌≡◌, rules}
use Rattle.mh_tree.specs.Tree.{point}
use Rattle.mh_tree.specs.Laws.Tests.{point_passes, limits_decide}
use Rattle.mh_tree.proofs.branches.point_type.Goals as goal

pub returns-clause-value : goal.returns-clause-value
returns-clause-value c =
    let same : c.copy.result ≡ c.args.target.now.signature = search rules in
    limits_decide _ _ _ _ _ (point_passes c.args.point c.args.target.now c.args.fallback.now (search rules)) same
    (c.within_limits.ensures.value (point c.args.point c.args.target.now.tree c.args.fallback.now.tree) (search rules) (search rules))
