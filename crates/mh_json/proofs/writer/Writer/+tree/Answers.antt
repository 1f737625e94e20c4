use Rattle.std.proofs.Common.{◌≡◌, ap, sym, ◌∙◌, arith, List, Option, map}
use Rattle.std.proofs.lemmas.List.{take_all}
use Rattle.std.proofs.lemmas.Result.{IfOk-weaker}
use Rattle.std.specs.declared.alloc.Global.{Global}
use Rattle.std.specs.declared.sync.Arc.{Arc}
use Rattle.mh_tree.specs.Laws.Effort.{effort, total_effort}
use Rattle.mh_tree.specs.Laws.Trees.{tree_of_filter}
use Rattle.mh_tree.specs.Tree.{filter, filters_of}
use Rattle.mh_tree.specs.TreeOf.{tree_of, filter_trees}
use Rattle.mh_tree.specs.declared.node.Node.{Node}
use Rattle.mh_json.specs.TreeData.{tree_data}
use Rattle.serde_json.proofs.Views.{view-Array}
use Rattle.serde_json.specs.Data.{array}
use Rattle.serde_json.specs.View.{view, items_of}
use Rattle.serde_json.specs.declared.value.Value.{Value}
use Rattle.mh_json.proofs.FilterItems.{owner_data, in_items, one_more, less_left}
use Rattle.mh_json.proofs.writer.Writer.+tree.Goals as goal

pub tree-filter-requires : goal.tree-filter-requires
tree-filter-requires t c =
    let e = ap tree_of c.in-Filter.is ∙ tree_of_filter c.in-Filter.target c.in-Filter.position c.in-Filter.filters in
    let n : tree_of c.deref-in-Filter.result.now ≡ tree_of c.in-Filter.target.value = ap tree_of c.deref-in-Filter.ensures in
    let f : filters_of (filter_trees c.deref-in-Filter-2.result.now) ≡ filters_of (filter_trees c.in-Filter.filters.items) =
    ap (λ (fs : List (Option (Arc Node Global))). filters_of (filter_trees fs)) c.deref-in-Filter-2.ensures.value in
    (omega (arith, ap effort e, ap effort n, ap total_effort f), tt)

pub tree-returns-in-Filter : goal.tree-returns-in-Filter
tree-returns-in-Filter t c =
    let e = ap tree_of c.in-Filter.is ∙ tree_of_filter c.in-Filter.target c.in-Filter.position c.in-Filter.filters in
    let n : tree_of c.deref-in-Filter.result.now ≡ tree_of c.in-Filter.target.value = ap tree_of c.deref-in-Filter.ensures in
    let f : filters_of (filter_trees c.deref-in-Filter-2.result.now) ≡ filters_of (filter_trees c.in-Filter.filters.items) =
    ap (λ (fs : List (Option (Arc Node Global))). filters_of (filter_trees fs)) c.deref-in-Filter-2.ensures.value in
    record {
      value = IfOk-weaker c.filter.result _ _
          (λ v h. h ∙ (λ i. tree_data c.args.self.now.definition.now (filter (n i) c.in-Filter.position (f i))) ∙ ap (tree_data c.args.self.now.definition.now) (sym e))
          c.filter.ensures.value;
    }

pub filters-loop-filter-preserved : goal.filters-loop-filter-preserved
filters-loop-filter-preserved t c =
    let more = one_more c.args.self.now.definition.now c.loop-filter.list.items c.in_ok-filter_or_null.field-0 c.args.filters.now c.loop-filter.filter-index c.filter-item.result c.loop-filter-test.true c.filter-item.is c.in_ok-filter_or_null.ensures.value c.loop-filter.invariant.value in
    let left = less_left c.args.filters.now c.loop-filter.filter-index c.filter-item.result c.loop-filter-test.true c.filter-item.is in
    record {
      value = ap (λ (vs : List Value). map view vs) c.in_ok-push.ensures.items ∙ more;
      small = omega (arith, left, c.loop-filter.invariant.small);
    }

pub filters-returns : goal.filters-returns
filters-returns t c =
    let all = ap (λ (fs : List (Option (Arc Node Global))). map (owner_data c.args.self.now.definition.now) fs) (take_all c.loop-filter.filter-index c.args.filters.now c.loop-filter-test.false) in
    record {
      value = view-Array c.loop-filter.list ∙ ap array (ap items_of (c.loop-filter.invariant.value ∙ all) ∙ in_items c.args.self.now.definition.now c.args.filters.now);
    }
