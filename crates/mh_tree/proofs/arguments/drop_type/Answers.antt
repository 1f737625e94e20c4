use Rattle.std.proofs.Common.{◌≡◌, rules}
use Rattle.mh_tree.specs.Constructors.{dropped}
use Rattle.mh_tree.specs.Tree.{discard}
use Rattle.mh_tree.specs.Laws.Tests.{drop_passes, limits_decide}
use Rattle.mh_tree.proofs.arguments.drop_type.Goals as goal

pub returns-clause-value : goal.returns-clause-value
returns-clause-value c =
    let same : c.in-Ok.new_type ≡ (dropped c.args.target.now c.args.position c.args.kinds.now).signature = search rules in
    limits_decide _ _ _ _ _ (drop_passes c.args.target.now c.args.position c.args.kinds.now (search rules)) same
    (c.within_limits.ensures.value (discard c.args.target.now.tree c.args.position c.args.kinds.now) (search rules) (search rules))
