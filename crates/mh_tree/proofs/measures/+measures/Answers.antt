use Rattle.std.proofs.Common.{◌≡◌, ◌+◌, ◌∙◌, ap, sym, arith, List, Option}
use Rattle.std.specs.Prelude.{max}
use Rattle.std.specs.declared.alloc.Global.{Global}
use Rattle.std.specs.declared.sync.Arc.{Arc}
use Rattle.mh_tree.specs.Limits.{depth, size, point_bound, site_bound, deepest, total_size, greatest_bound, greatest_site}
use Rattle.mh_tree.specs.Tree.{filters_of}
use Rattle.mh_tree.specs.TreeOf.{tree_of, filter_trees}
use Rattle.mh_tree.specs.declared.measures.Measures.{Measures}
use Rattle.mh_tree.specs.declared.node.Node.{Node}
use Rattle.mh_tree.specs.Laws.Trees.{tree_of_filter}
use Rattle.mh_tree.proofs.measures.+measures.Goals as goal

pub measure-measure_filters-requires : goal.measure-measure_filters-requires
measure-measure_filters-requires t c =
    let e = ap tree_of c.in-Filter.is ∙ tree_of_filter c.in-Filter.target c.in-Filter.position c.in-Filter.filters in
    let f : filters_of (filter_trees c.deref-in-Filter.result.now) ≡ filters_of (filter_trees c.in-Filter.filters.items) =
    ap (λ (fs : List (Option (Arc Node Global))). filters_of (filter_trees fs)) c.deref-in-Filter.ensures.value in (
      omega (arith, ap size e, ap total_size f),
      (omega (arith, ap depth e, ap deepest f, c.requires.shallow), omega (arith, ap size e, ap total_size f, c.requires.small)),
    )

pub measure-and-requires : goal.measure-and-requires
measure-and-requires t c =
    let e = ap tree_of c.in-Filter.is ∙ tree_of_filter c.in-Filter.target c.in-Filter.position c.in-Filter.filters in
    let f : filters_of (filter_trees c.deref-in-Filter.result.now) ≡ filters_of (filter_trees c.in-Filter.filters.items) =
    ap (λ (fs : List (Option (Arc Node Global))). filters_of (filter_trees fs)) c.deref-in-Filter.ensures.value in
    let n : tree_of c.deref.result.now ≡ tree_of c.in-Filter.target.value = ap tree_of c.deref.ensures in
    let one = ap (λ (m : Measures). m.size) c.measure.ensures.value in
    let more = ap (λ (m : Measures). m.size) c.measure_filters.ensures.value in
    record { few = omega (arith, ap size e, ap total_size f, ap size n, one, more, c.requires.small) }

pub measure-over-requires-clause-few : goal.measure-over-requires-clause-few
measure-over-requires-clause-few t c =
    let e = ap tree_of c.in-Filter.is ∙ tree_of_filter c.in-Filter.target c.in-Filter.position c.in-Filter.filters in
    let f : filters_of (filter_trees c.deref-in-Filter.result.now) ≡ filters_of (filter_trees c.in-Filter.filters.items) =
    ap (λ (fs : List (Option (Arc Node Global))). filters_of (filter_trees fs)) c.deref-in-Filter.ensures.value in
    let n : tree_of c.deref.result.now ≡ tree_of c.in-Filter.target.value = ap tree_of c.deref.ensures in
    let one = ap (λ (m : Measures). m.size) c.measure.ensures.value in
    let more = ap (λ (m : Measures). m.size) c.measure_filters.ensures.value in
    let all = ap (λ (m : Measures). m.size) c.and.ensures.value in
    omega (arith, ap size e, ap total_size f, ap size n, one, more, all, c.requires.small)

pub measure-over-requires-clause-shallow : goal.measure-over-requires-clause-shallow
measure-over-requires-clause-shallow t c =
    let e = ap tree_of c.in-Filter.is ∙ tree_of_filter c.in-Filter.target c.in-Filter.position c.in-Filter.filters in
    let f : filters_of (filter_trees c.deref-in-Filter.result.now) ≡ filters_of (filter_trees c.in-Filter.filters.items) =
    ap (λ (fs : List (Option (Arc Node Global))). filters_of (filter_trees fs)) c.deref-in-Filter.ensures.value in
    let n : tree_of c.deref.result.now ≡ tree_of c.in-Filter.target.value = ap tree_of c.deref.ensures in
    let one = ap (λ (m : Measures). m.depth) c.measure.ensures.value in
    let more = ap (λ (m : Measures). m.depth) c.measure_filters.ensures.value in
    let all = ap (λ (m : Measures). m.depth) c.and.ensures.value in
    omega (arith, ap depth e, ap deepest f, ap depth n, one, more, all, c.requires.shallow)

pub measure-returns-in-Filter : goal.measure-returns-in-Filter
measure-returns-in-Filter t c =
    let e = ap tree_of c.in-Filter.is ∙ tree_of_filter c.in-Filter.target c.in-Filter.position c.in-Filter.filters in
    let f : filters_of (filter_trees c.deref-in-Filter.result.now) ≡ filters_of (filter_trees c.in-Filter.filters.items) =
    ap (λ (fs : List (Option (Arc Node Global))). filters_of (filter_trees fs)) c.deref-in-Filter.ensures.value in
    let n : tree_of c.deref.result.now ≡ tree_of c.in-Filter.target.value = ap tree_of c.deref.ensures in
    let one = c.measure.ensures.value ∙ (λ i. record { depth = depth (n i); size = size (n i); point_bound = point_bound (n i); site_bound = site_bound (n i) }) in
    let more = c.measure_filters.ensures.value ∙ (λ i. record { depth = deepest (f i); size = total_size (f i); point_bound = greatest_bound (f i); site_bound = greatest_site (f i) }) in
    let all = c.and.ensures.value ∙ (λ i. record { depth = max (one i).depth (more i).depth; size = (one i).size + (more i).size; point_bound = max (one i).point_bound (more i).point_bound; site_bound = max (one i).site_bound (more i).site_bound }) in
    record {
      value =
          c.over.ensures.value
          ∙ (λ i. record { depth = 1 + (all i).depth; size = 1 + (all i).size; point_bound = (all i).point_bound; site_bound = (all i).site_bound })
          ∙ (λ i. record { depth = depth (sym e i); size = size (sym e i); point_bound = point_bound (sym e i); site_bound = site_bound (sym e i) });
    }
