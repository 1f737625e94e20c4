use Rattle.std.proofs.Common.{◌≡◌, rules, [], ◌∷◌}
use Rattle.mh_tree.specs.Constructors.{return_filtered}
use Rattle.mh_tree.specs.Tree.{filter_return}
use Rattle.mh_tree.proofs.Sound.{filter_return_typed}
use Rattle.mh_tree.specs.Laws.Tests.{filter_return_passes, limits_decide}
use Rattle.mh_tree.proofs.filters.filter_return_type.Goals as goal

pub returns-clause-value : goal.returns-clause-value
returns-clause-value c =
    let same : c.returning.result ≡ (return_filtered c.args.target.now c.args.filter.now).signature = search rules in
    limits_decide _ _ _ _ _ (filter_return_passes c.args.target.now c.args.filter.now (search rules) (search rules)) same
    (c.within_limits.ensures.value (filter_return c.args.target.now.tree c.args.filter.now.tree) (search rules) (search rules))

pub returns-clause-sound : goal.returns-clause-sound
returns-clause-sound c =
    let same : c.returning.result ≡ (return_filtered c.args.target.now c.args.filter.now).signature = search rules in
    let fits : c.args.filter.now.signature.parameters ≡ c.args.target.now.signature.ret ∷ [] = search rules in
    c.within_limits.ensures.sound (filter_return c.args.target.now.tree c.args.filter.now.tree) (search rules) (search rules)
    (filter_return_typed c.args.target.now c.args.filter.now c.returning.result same (search rules) (search rules) fits)
