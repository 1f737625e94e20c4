use Rattle.std.proofs.Common.{◌≡◌, ◌+◌, ◌≤◌, true, rules, length, drop}
use Rattle.std.specs.List.{list_all}
use Rattle.mh_tree.specs.Constructors.{arguments_filtered, is_unary, return_kinds, plain_filters}
use Rattle.mh_tree.specs.Tree.{filter}
use Rattle.mh_tree.proofs.FilterKinds.{filter_typed, returns_behind}
use Rattle.mh_tree.specs.Laws.Tests.{filter_passes, limits_decide}
use Rattle.mh_tree.proofs.filters.filter_type.Goals as goal

pub returns-clause-value : goal.returns-clause-value
returns-clause-value c =
    let inside : c.args.position + length c.args.filters.now ≤ length c.args.target.now.signature.parameters = search rules in
    let unary : list_all is_unary c.args.filters.now ≡ true = search rules in
    let returns : return_kinds c.args.filters.now (drop c.args.position c.args.target.now.signature.parameters) ≡ true =
    returns_behind c.args.filters.now c.args.position c.args.target.now.signature.parameters c.parameters-parameters.result.now c.return_kinds.result (search rules) c.return_kinds.ensures.value (search rules) in
    let same : c.type_before.result ≡ (arguments_filtered c.args.target.now c.args.position c.args.filters.now).signature = search rules in
    limits_decide _ _ _ _ _ (filter_passes c.args.target.now c.args.position c.args.filters.now inside unary returns) same
    (c.within_limits.ensures.value (filter c.args.target.now.tree c.args.position (plain_filters c.args.filters.now)) (search rules) (search rules))

pub returns-clause-sound : goal.returns-clause-sound
returns-clause-sound c =
    let inside : c.args.position + length c.args.filters.now ≤ length c.args.target.now.signature.parameters = search rules in
    let unary : list_all is_unary c.args.filters.now ≡ true = search rules in
    let returns : return_kinds c.args.filters.now (drop c.args.position c.args.target.now.signature.parameters) ≡ true =
    returns_behind c.args.filters.now c.args.position c.args.target.now.signature.parameters c.parameters-parameters.result.now c.return_kinds.result (search rules) c.return_kinds.ensures.value (search rules) in
    let same : c.type_before.result ≡ (arguments_filtered c.args.target.now c.args.position c.args.filters.now).signature = search rules in
    c.within_limits.ensures.sound (filter c.args.target.now.tree c.args.position (plain_filters c.args.filters.now)) (search rules) (search rules)
    (filter_typed c.args.target.now c.args.position c.args.filters.now c.type_before.result same (search rules) inside c.type_before.ensures.sound unary returns)
