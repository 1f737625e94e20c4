use Rattle.std.proofs.Common.{◌≡◌, rules}
use Rattle.mh_tree.specs.Constructors.{folded}
use Rattle.mh_tree.specs.Tree.{fold}
use Rattle.mh_tree.proofs.Sound.{fold_typed}
use Rattle.mh_tree.specs.Laws.Tests.{fold_passes, limits_decide}
use Rattle.mh_tree.proofs.folding.fold_type.Goals as goal

pub returns-clause-value : goal.returns-clause-value
returns-clause-value c =
    let same : c.remove-new_type.result ≡ (folded c.args.target.now c.args.combiner.now).signature = search rules in
    limits_decide _ _ _ _ _ (fold_passes c.args.target.now c.args.combiner.now (search rules) (search rules)) same
    (c.within_limits.ensures.value (fold c.args.target.now.tree c.args.combiner.now.tree) (search rules) (search rules))

pub returns-clause-sound : goal.returns-clause-sound
returns-clause-sound c =
    let same : c.remove-new_type.result ≡ (folded c.args.target.now c.args.combiner.now).signature = search rules in
    c.within_limits.ensures.sound (fold c.args.target.now.tree c.args.combiner.now.tree) (search rules) (search rules)
    (fold_typed c.args.target.now c.args.combiner.now c.remove-new_type.result same (search rules) (search rules) (search rules) (search rules))
