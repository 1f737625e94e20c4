use Rattle.std.proofs.Common.{◌≡◌, ap, sym, ◌∙◌, arith, List, Option, true, Bool, ◌&&◌}
use Rattle.std.specs.declared.alloc.Global.{Global}
use Rattle.std.specs.declared.sync.Arc.{Arc}
use Rattle.mh_tree.specs.Tree.{filter, filters_of}
use Rattle.mh_tree.specs.TreeOf.{tree_of, filter_trees}
use Rattle.mh_tree.specs.declared.node.Node.{Node}
use Rattle.mh_tree.specs.Laws.Effort.{effort, total_effort}
use Rattle.mh_tree.specs.Laws.Trees.{tree_of_filter}
use Rattle.mh_tree.specs.Invocations.{each_invoke, each_invokes}
use Rattle.mh_tree.proofs.invocations.+invocations.Goals as goal

pub each_invocation-each_of_filters-there-requires : goal.each_invocation-each_of_filters-there-requires
each_invocation-each_of_filters-there-requires g t c =
    let e : tree_of c.args.node.now ≡ filter (tree_of c.in-Filter.target.value) c.in-Filter.position (filters_of (filter_trees c.in-Filter.filters.items)) =
    ap tree_of c.in-Filter.is ∙ tree_of_filter c.in-Filter.target c.in-Filter.position c.in-Filter.filters in
    let f : filters_of (filter_trees c.deref-in-Filter.result.now) ≡ filters_of (filter_trees c.in-Filter.filters.items) =
    ap (λ (fs : List (Option (Arc Node Global))). filters_of (filter_trees fs)) c.deref-in-Filter.ensures.value in
    λ κs lives. (omega (arith, ap effort e, ap total_effort f), lives)

pub each_invocation-returns-then-here : goal.each_invocation-returns-then-here
each_invocation-returns-then-here g t c =
    let f' = g.T.InvocationTest.holds c.args.test.now in
    let e : tree_of c.args.node.now ≡ filter (tree_of c.in-Filter.target.value) c.in-Filter.position (filters_of (filter_trees c.in-Filter.filters.items)) =
    ap tree_of c.in-Filter.is ∙ tree_of_filter c.in-Filter.target c.in-Filter.position c.in-Filter.filters in
    let f : filters_of (filter_trees c.deref-in-Filter.result.now) ≡ filters_of (filter_trees c.in-Filter.filters.items) =
    ap (λ (fs : List (Option (Arc Node Global))). filters_of (filter_trees fs)) c.deref-in-Filter.ensures.value in
    let n : tree_of c.deref.result.now ≡ tree_of c.in-Filter.target.value = ap tree_of c.deref.ensures in
    let here : each_invoke f' (tree_of c.in-Filter.target.value) ≡ true = ap (each_invoke f') (sym n) ∙ sym c.each_invocation-here.ensures.value ∙ c.if-here.true in
    let all = each_invokes f' (filters_of (filter_trees c.in-Filter.filters.items)) in
    record {
      value = c.each_of_filters-there.ensures.value ∙ ap (each_invokes f') f ∙ sym (ap (λ (b : Bool). b && all) here) ∙ sym (ap (each_invoke f') e);
    }
