use Rattle.std.proofs.Common.{◌∙◌}
use Rattle.mh_tree.specs.Laws.{tree_of_filter}
use Rattle.mh_tree.specs.Tree.{filter, filters_of}
use Rattle.mh_tree.specs.TreeOf.{filter_trees}
use Rattle.mh_pic.proofs.ResolvedFilters.{if_ok}
use Rattle.mh_pic.proofs.rebuilding.filter.Goals as goal

pub returns-clause-value : goal.returns-clause-value
returns-clause-value c =
    if_ok _ _ c.root.result
    (λ o g some t. g t ∙ tree_of_filter c.in_ok-target.target c.args.position c.args.list.filters ∙ (λ i. filter (c.in_ok-target.ensures.value i) c.args.position (filters_of (filter_trees c.args.list.filters.items))))
    c.root.ensures.value
