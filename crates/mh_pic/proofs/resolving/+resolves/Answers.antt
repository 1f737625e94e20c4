use Rattle.std.proofs.Common.{length, ◌≡◌, ◌++◌, [], ◌∷◌, refl, ap, sym, subst, ◌∙◌, arith, IfOk, List, Option, Some, ◌||◌}
use Rattle.std.specs.Option.{is_some}
use Rattle.std.proofs.lemmas.Bool.Decides.{nat_tests}
use Rattle.mh_pic.proofs.resolving.+resolves.Goals.{resolve_filters-in-None, resolve_filters-in-Some+in_ok-made-in-Some+in_ok-owner-in-Some, resolve_filters-then-changed, resolve_filters-else-changed}
use Rattle.std.specs.declared.alloc.Global.{Global}
use Rattle.std.specs.declared.sync.Arc.{Arc}
use Rattle.mh_tree.specs.Laws.{tree_of_filter}
use Rattle.mh_tree.specs.Limits.{size, total_size}
use Rattle.mh_tree.specs.Tree.{Tree, filter, filters_of}
use Rattle.mh_tree.specs.TreeOf.{tree_of, filter_trees}
use Rattle.mh_tree.specs.declared.node.Node.{Node}
use Rattle.mh_pic.specs.Outcomes.{made_or}
use Rattle.mh_pic.specs.Specialised.{any_names, names, resolved, resolved_filters}
use Rattle.mh_pic.proofs.ResolvedFilters.{filter_resolved, if_both, member_size, named_at, or_false, pushed_at}
use Rattle.mh_pic.proofs.Unnamed.{names_empty, resolved_empty}
use Rattle.mh_pic.proofs.resolving.+resolves.Goals as goal

pub resolve-resolve_filter-requires : goal.resolve-resolve_filter-requires
resolve-resolve_filter-requires t c =
    let e = ap tree_of c.in-Filter.is ∙ tree_of_filter c.in-Filter.target c.in-Filter.position c.in-Filter.filters in
    let f : filters_of (filter_trees c.deref-in-Filter.result.now) ≡ filters_of (filter_trees c.in-Filter.filters.items) =
    ap (λ (fs : List (Option (Arc Node Global))). filters_of (filter_trees fs)) c.deref-in-Filter.ensures.value in
    (omega (arith, ap size e, ap total_size f), tt)

pub resolve-returns-in-Filter-clause-value : goal.resolve-returns-in-Filter-clause-value
resolve-returns-in-Filter-clause-value t c =
    let e = ap tree_of c.in-Filter.is ∙ tree_of_filter c.in-Filter.target c.in-Filter.position c.in-Filter.filters in
    let f : filters_of (filter_trees c.deref-in-Filter.result.now) ≡ filters_of (filter_trees c.in-Filter.filters.items) =
    ap (λ (fs : List (Option (Arc Node Global))). filters_of (filter_trees fs)) c.deref-in-Filter.ensures.value in
    let whole : filter (tree_of c.in-Filter.target.value) c.in-Filter.position (filters_of (filter_trees c.deref-in-Filter.result.now)) ≡ tree_of c.args.node.now =
    ap (filter (tree_of c.in-Filter.target.value) c.in-Filter.position) f ∙ sym e in
    subst (λ u. IfOk c.resolve_filter.result (λ o. made_or o u ≡ resolved c.args.valid c.args.points.now u)) whole c.resolve_filter.ensures.value

pub resolve_filters-resolve-requires : goal.resolve_filters-resolve-requires
resolve_filters-resolve-requires t c =
    let n : size (tree_of c.deref.result.now) ≡ size (tree_of c.in-Some.filter.value) = ap (λ (x : Node). size (tree_of x)) c.deref.ensures in
    let found : Some c.in-Some.filter ≡ _ = rw c.in-Some.is at c.filter-item.is in
    let part = member_size c.args.filters.now c.loop-filter.filter-index c.in-Some.filter c.loop-filter-test.true found in
    (omega (arith, n, part), tt)

pub resolve_filters-loop-filter-preserved : goal.resolve_filters-loop-filter-preserved
resolve_filters-loop-filter-preserved t c =
    let items : c.push.new.self.items ≡ c.loop-filter.resolved.items ++ (c.match-filter.filter ∷ []) = first_of (search (arith), grind (arith, c.push.ensures.items, c.in_ok-map_err.ensures.cases)) in
    let step : filters_of (filter_trees (c.match-filter.filter ∷ [])) ≡ resolved_filters c.args.valid c.args.points.now (filters_of (filter_trees (c.filter-item.result ∷ []))) =
    elim c.match-filter.branch [
      | resolve_filters-in-None w ↦ rw (w.filter-is, w.in-None.is) refl
      | resolve_filters-in-Some+in_ok-made-in-Some+in_ok-owner-in-Some w ↦
          let n : tree_of w.deref.result.now ≡ tree_of w.in-Some.filter.value = ap tree_of w.deref.ensures in
          let first : tree_of w.in_ok-owner-in-Some.field-0.value ≡ resolved c.args.valid c.args.points.now (tree_of w.in-Some.filter.value) =
          w.in_ok-owner-in-Some.ensures.value ∙ (rw n at w.in_ok-made-in-Some.ensures.value) in
          rw (w.filter-is, w.in-Some.is) (λ i. filters_of (Some (first i) ∷ []))
    ] in
    let changed : c.match-filter.changed ≡ (c.loop-filter.changed || any_names c.args.points.now (filters_of (filter_trees (c.filter-item.result ∷ [])))) =
    elim c.match-filter.branch [
      | resolve_filters-in-None w ↦ rw (w.changed-is, w.in-None.is) (sym (or_false c.loop-filter.changed))
      | resolve_filters-in-Some+in_ok-made-in-Some+in_ok-owner-in-Some w ↦
          let n : tree_of w.deref.result.now ≡ tree_of w.in-Some.filter.value = ap tree_of w.deref.ensures in
          let named : is_some w.in_ok-made-in-Some.made ≡ names c.args.points.now (tree_of w.in-Some.filter.value) = rw n at w.in_ok-made-in-Some.ensures.made in
          rw (w.changed-is, w.in-Some.is) (elim w.if-changed.branch [
            | resolve_filters-then-changed v ↦ rw (v.changed-is, v.if-changed.true) refl
            | resolve_filters-else-changed v ↦ rw (v.changed-is, v.if-changed.false) (v.is_some-changed.ensures ∙ named ∙ sym (or_false (names c.args.points.now (tree_of w.in-Some.filter.value))))
          ])
    ] in
    record {
      value = rw items (pushed_at c.args.valid c.args.points.now c.loop-filter.resolved.items c.args.filters.now c.loop-filter.filter-index c.match-filter.filter c.filter-item.result c.loop-filter-test.true c.filter-item.is c.loop-filter.invariant.value step);
      made = named_at c.args.points.now c.args.filters.now c.loop-filter.filter-index c.filter-item.result c.loop-filter.changed c.match-filter.changed c.loop-filter-test.true c.filter-item.is c.loop-filter.invariant.made changed;
    }

pub resolve-returns-then-is_empty-clause-value : goal.resolve-returns-then-is_empty-clause-value
resolve-returns-then-is_empty-clause-value t c =
    let nothing : length c.args.points.now ≡ 0 = grind (arith, nat_tests, c.is_empty.ensures, c.if-is_empty.true) in
    sym (resolved_empty c.args.valid c.args.points.now (tree_of c.args.node.now) nothing)

pub resolve-returns-then-is_empty-clause-made : goal.resolve-returns-then-is_empty-clause-made
resolve-returns-then-is_empty-clause-made t c =
    let nothing : length c.args.points.now ≡ 0 = grind (arith, nat_tests, c.is_empty.ensures, c.if-is_empty.true) in
    sym (names_empty c.args.points.now (tree_of c.args.node.now) nothing)

pub resolve-returns-in-Filter-clause-made : goal.resolve-returns-in-Filter-clause-made
resolve-returns-in-Filter-clause-made t c =
    let e = ap tree_of c.in-Filter.is ∙ tree_of_filter c.in-Filter.target c.in-Filter.position c.in-Filter.filters in
    let f : filters_of (filter_trees c.deref-in-Filter.result.now) ≡ filters_of (filter_trees c.in-Filter.filters.items) =
    ap (λ (fs : List (Option (Arc Node Global))). filters_of (filter_trees fs)) c.deref-in-Filter.ensures.value in
    let whole : filter (tree_of c.in-Filter.target.value) c.in-Filter.position (filters_of (filter_trees c.deref-in-Filter.result.now)) ≡ tree_of c.args.node.now =
    ap (filter (tree_of c.in-Filter.target.value) c.in-Filter.position) f ∙ sym e in
    subst (λ u. IfOk c.resolve_filter.result (λ o. is_some o ≡ names c.args.points.now u)) whole c.resolve_filter.ensures.made

pub resolve_filter-returns-clause-value : goal.resolve_filter-returns-clause-value
resolve_filter-returns-clause-value t c =
    let u : Tree = tree_of c.args.target.now.value in
    let n : tree_of c.deref.result.now ≡ u = ap tree_of c.deref.ensures in
    let first : made_or c.in_ok-made.made u ≡ resolved c.args.valid c.args.points.now u = rw n at c.in_ok-made.ensures.value in
    let named : is_some c.in_ok-made.made ≡ names c.args.points.now u = rw n at c.in_ok-made.ensures.made in
    if_both _ _ _ c.filter.result
    (λ o. filter_resolved c.args.valid c.args.points.now u c.args.position (filters_of (filter_trees c.args.filters.now)) (filters_of (filter_trees c.in_ok-list.list.filters.items)) c.in_ok-made.made o c.in_ok-list.list.changed
    first named c.in_ok-list.ensures.value c.in_ok-list.ensures.made)
    c.filter.ensures.value c.filter.ensures.made
