use Rattle.std.proofs.Common.{◌≡◌, rules}
use Rattle.mh_tree.specs.Tree.{guard}
use Rattle.mh_tree.proofs.Sound.{guard_typed}
use Rattle.mh_tree.specs.Laws.Tests.{guard_passes, limits_decide}
use Rattle.mh_tree.proofs.branches.guard_type.Goals as goal

pub returns-clause-value : goal.returns-clause-value
returns-clause-value c =
    let same : c.copy.result ≡ c.args.target.now.signature = search rules in
    limits_decide _ _ _ _ _ (guard_passes c.args.test.now c.args.target.now c.args.fallback.now (search rules) (search rules) (search rules)) same
    (c.within_limits.ensures.value (guard c.args.test.now.tree c.args.target.now.tree c.args.fallback.now.tree) (search rules) (search rules))

pub returns-clause-sound : goal.returns-clause-sound
returns-clause-sound c =
    let same : c.copy.result ≡ c.args.target.now.signature = search rules in
    c.within_limits.ensures.sound (guard c.args.test.now.tree c.args.target.now.tree c.args.fallback.now.tree) (search rules) (search rules)
    (guard_typed c.args.test.now c.args.target.now c.args.fallback.now c.copy.result same
    (search rules) (search rules) (search rules) (search rules) (search rules) (search rules))
