use Rattle.std.proofs.Common.{◌≡◌, ◌+◌, ◌≤◌, rules, map, take, drop, length}
use Rattle.mh_type.specs.Kinds.{kind_of}
use Rattle.mh_tree.specs.Constructors.{inserted}
use Rattle.mh_tree.specs.Tree.{insert}
use Rattle.mh_tree.specs.Laws.Tests.{insert_passes, insert_misfits, limits_decide}
use Rattle.mh_tree.proofs.arguments.insert_type.Goals as goal

pub returns-then-not-have_kinds-clause-value : goal.returns-then-not-have_kinds-clause-value
returns-then-not-have_kinds-clause-value c =
    insert_misfits c.args.target.now c.args.position c.args.values.now (search rules) (search rules)

pub returns-clause-value : goal.returns-clause-value
returns-clause-value c =
    let inside : c.args.position + length c.args.values.now ≤ length c.args.target.now.signature.parameters = search rules in
    let kinds : map kind_of c.args.values.now ≡ take (length c.args.values.now) (drop c.args.position c.args.target.now.signature.parameters) = search rules in
    let same : c.remove-new_type.result ≡ (inserted c.args.target.now c.args.position c.args.values.now).signature = search rules in
    limits_decide _ _ _ _ _ (insert_passes c.args.target.now c.args.position c.args.values.now inside kinds) same
    (c.within_limits.ensures.value (insert c.args.target.now.tree c.args.position c.args.values.now) (search rules) (search rules))
