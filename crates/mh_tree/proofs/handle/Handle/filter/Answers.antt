use Rattle.std.proofs.Common.{◌≡◌, ◌+◌, ◌∙◌, ap, sym, subst, rules}
use Rattle.mh_tree.specs.Constructors.{plain_filters}
use Rattle.mh_tree.specs.Handle.{IsSound}
use Rattle.mh_tree.specs.Limits.{depth, size, point_bound, site_bound}
use Rattle.mh_tree.specs.Tree.{filter}
use Rattle.mh_tree.specs.Laws.Tests.{made_by}
use Rattle.mh_tree.specs.Laws.Trees.{tree_of_owners}
use Rattle.mh_tree.proofs.handle.Handle.filter.Goals as goal

pub of-requires-clause-sound : goal.of-requires-clause-sound
of-requires-clause-sound c =
    let tree = tree_of_owners c.in_ok-root_owner.field-0 c.args.position c.in_ok-owners.field-0 c.args.target.now.tree c.args.filters.now c.in_ok-root_owner.ensures.value c.in_ok-owners.ensures.value in
    subst (λ t. IsSound t c.in_ok-method_type.method_type) (sym tree) c.in_ok-method_type.ensures.sound

pub of-requires-clause-deep : goal.of-requires-clause-deep
of-requires-clause-deep c =
    let tree = tree_of_owners c.in_ok-root_owner.field-0 c.args.position c.in_ok-owners.field-0 c.args.target.now.tree c.args.filters.now c.in_ok-root_owner.ensures.value c.in_ok-owners.ensures.value in
    let whole : 1 + c.max-depth.result ≡ depth (filter c.args.target.now.tree c.args.position (plain_filters c.args.filters.now)) = search rules in
    whole ∙ ap depth (sym tree)

pub of-requires-clause-large : goal.of-requires-clause-large
of-requires-clause-large c =
    let tree = tree_of_owners c.in_ok-root_owner.field-0 c.args.position c.in_ok-owners.field-0 c.args.target.now.tree c.args.filters.now c.in_ok-root_owner.ensures.value c.in_ok-owners.ensures.value in
    let whole : 1 + (c.size.result + c.total_size.result) ≡ size (filter c.args.target.now.tree c.args.position (plain_filters c.args.filters.now)) = search rules in
    whole ∙ ap size (sym tree)

pub of-requires-clause-bound : goal.of-requires-clause-bound
of-requires-clause-bound c =
    let tree = tree_of_owners c.in_ok-root_owner.field-0 c.args.position c.in_ok-owners.field-0 c.args.target.now.tree c.args.filters.now c.in_ok-root_owner.ensures.value c.in_ok-owners.ensures.value in
    let whole : c.max-bound.result ≡ point_bound (filter c.args.target.now.tree c.args.position (plain_filters c.args.filters.now)) = search rules in
    whole ∙ ap point_bound (sym tree)

pub of-requires-clause-sites : goal.of-requires-clause-sites
of-requires-clause-sites c =
    let tree = tree_of_owners c.in_ok-root_owner.field-0 c.args.position c.in_ok-owners.field-0 c.args.target.now.tree c.args.filters.now c.in_ok-root_owner.ensures.value c.in_ok-owners.ensures.value in
    let whole : c.max-sites.result ≡ site_bound (filter c.args.target.now.tree c.args.position (plain_filters c.args.filters.now)) = search rules in
    whole ∙ ap site_bound (sym tree)

pub returns-clause-value : goal.returns-clause-value
returns-clause-value c =
    let tree = tree_of_owners c.in_ok-root_owner.field-0 c.args.position c.in_ok-owners.field-0 c.args.target.now.tree c.args.filters.now c.in_ok-root_owner.ensures.value c.in_ok-owners.ensures.value in
    made_by _ c.of.result _ _ _ tree c.in_ok-method_type.ensures.value c.of.ensures.value
