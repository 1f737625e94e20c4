use Rattle.std.proofs.Common.{◌≡◌, rules}
use Rattle.mh_tree.specs.Tree.{permute}
use Rattle.mh_tree.proofs.Sound.{permute_typed}
use Rattle.mh_tree.specs.Laws.Tests.{permute_passes, permute_misfits, limits_decide}
use Rattle.mh_tree.proofs.reordering.permute_type.Goals as goal

pub returns-then-not-gives_kinds-clause-value : goal.returns-then-not-gives_kinds-clause-value
returns-then-not-gives_kinds-clause-value c =
    permute_misfits c.args.target.now c.args.new_type.now c.args.reorder.now (search rules) (search rules) (search rules) (search rules)

pub returns-clause-value : goal.returns-clause-value
returns-clause-value c =
    let same : c.copy.result ≡ c.args.new_type.now = search rules in
    limits_decide _ _ _ _ _ (permute_passes c.args.target.now c.args.new_type.now c.args.reorder.now (search rules) (search rules) (search rules) (search rules)) same
    (c.within_limits.ensures.value (permute c.args.target.now.tree c.args.new_type.now c.args.reorder.now) (search rules) (search rules))

pub returns-clause-sound : goal.returns-clause-sound
returns-clause-sound c =
    let same : c.copy.result ≡ c.args.new_type.now = search rules in
    c.within_limits.ensures.sound (permute c.args.target.now.tree c.args.new_type.now c.args.reorder.now) (search rules) (search rules)
    (permute_typed c.args.target.now c.args.new_type.now c.copy.result c.args.reorder.now same (search rules) (search rules) (search rules) (search rules) (search rules))
