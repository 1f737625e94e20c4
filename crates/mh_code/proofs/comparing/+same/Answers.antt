use Rattle.std.proofs.Common.{◌≡◌, ap, sym, ◌∙◌, arith, List, Option, true, ◌==◌}
use Rattle.std.proofs.lemmas.Bool.Decides.{nat_tests}
use Rattle.std.specs.declared.alloc.Global.{Global}
use Rattle.std.specs.declared.sync.Arc.{Arc}
use Rattle.mh_tree.specs.Tree.{filter, filters_of}
use Rattle.mh_tree.specs.TreeOf.{tree_of, filter_trees}
use Rattle.mh_tree.specs.Laws.Effort.{effort, total_effort}
use Rattle.mh_tree.specs.Laws.Trees.{tree_of_filter}
use Rattle.mh_tree.specs.declared.node.Node.{Node}
use Rattle.mh_code.proofs.comparing.+same.Goals as goal
use Rattle.mh_code.proofs.comparing.+same.Goals.{same_composed-then-position-place, same_composed-else-position-place}

pub same_composed-same_filters-requires : goal.same_composed-same_filters-requires
same_composed-same_filters-requires t c =
    let e = ap tree_of c.in-Filter-Filter.is-0 ∙ tree_of_filter c.in-Filter-Filter.target c.in-Filter-Filter.position c.in-Filter-Filter.filters in
    let f : filters_of (filter_trees c.deref.result.now) ≡ filters_of (filter_trees c.in-Filter-Filter.filters.items) =
    ap (λ (fs : List (Option (Arc Node Global))). filters_of (filter_trees fs)) c.deref.ensures.value in
    (omega (arith, ap effort e, ap total_effort f), tt)

pub same_composed-returns-then-same_filters : goal.same_composed-returns-then-same_filters
same_composed-returns-then-same_filters t c =
    let x = c.in-Filter-Filter in
    let one = ap tree_of x.is-0 ∙ tree_of_filter x.target x.position x.filters in
    let other = ap tree_of x.is-1 ∙ tree_of_filter x.inner x.place x.others in
    record {
      same = λ held.
          let trees : tree_of x.target.value ≡ tree_of x.inner.value =
          sym (ap tree_of c.deref-then-same_filters.ensures) ∙ (c.same_tree.ensures.same held ∙ ap tree_of c.deref-then-same_filters-2.ensures) in
          elim c.if-position-place.branch [
            | same_composed-then-position-place w ↦
                let fs = w.same_filters.ensures.same (sym w.value-is ∙ c.if-same_filters.true) in
                let lists : filter_trees x.filters.items ≡ filter_trees x.others.items =
                sym (ap filter_trees w.deref.ensures.value) ∙ (fs ∙ ap filter_trees w.deref-then-position-place.ensures.value) in
                one ∙ (λ i. filter (trees i) (w.if-position-place.true i) (filters_of (lists i))) ∙ sym other
            | same_composed-else-position-place w ↦ let h : (x.position == x.place) ≡ true = sym w.value-is ∙ c.if-same_filters.true in
                absurd (w.if-position-place.false (grind (arith, nat_tests)))
          ];
    }
