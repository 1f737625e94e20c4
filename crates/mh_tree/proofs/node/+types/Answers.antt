use Rattle.std.specs.Prelude.{slice_set}
use Rattle.std.proofs.Math.ListN.{length-set}
use Rattle.std.proofs.Common.{◌≡◌, subst, ◌+◌, ◌∙◌, ap, sym, arith, List, length, drop, Option}
use Rattle.mh_type.specs.declared.kind.Kind.{Kind}
use Rattle.mh_type.specs.Signature.{Signature}
use Rattle.mh_tree.specs.Limits.{size, total_size}
use Rattle.mh_tree.specs.Tree.{Filters, filters_of}
use Rattle.mh_tree.specs.TreeOf.{tree_of, filter_trees}
use Rattle.mh_tree.specs.TypeOf.{type_of, filtered_kinds}
use Rattle.mh_tree.specs.Typing.{AreTyped}
use Rattle.mh_tree.specs.declared.node.Node.{Node}
use Rattle.std.specs.declared.alloc.Global.{Global}
use Rattle.std.specs.declared.sync.Arc.{Arc}
use Rattle.mh_tree.specs.Laws.Trees.{tree_of_filter, tree_of_insert, tree_of_fold, tree_of_drop, filter_found, none_found}
use Rattle.mh_tree.specs.Laws.Types.{insert_inside, drop_inside, fold_inside, filter_inside, filter_at, none_at, first_kind}
use Rattle.mh_tree.proofs.node.+types.Goals.{filtered_type-in-Some, filtered_type-in_default}
use Rattle.mh_tree.proofs.node.+types.Goals as goal

pub Node::computed_type-remove-requires : goal.Node::computed_type-remove-requires
Node::computed_type-remove-requires t c =
    let e = ap tree_of c.in-Insert.is ∙ tree_of_insert c.in-Insert.target c.in-Insert.position c.in-Insert.values in
    let typed = rw e at c.requires.typed.1 in
    let same = ap (λ (s : Signature). length s.parameters) (c.computed_type.ensures.value ∙ ap (λ (n : Node). type_of (tree_of n)) c.deref.ensures) in
    record { inside = omega (arith, insert_inside _ _ _ _ typed, same, c.len.ensures) }

pub Node::computed_type-insert-requires : goal.Node::computed_type-insert-requires
Node::computed_type-insert-requires t c =
    let e = ap tree_of c.in-Drop.is ∙ tree_of_drop c.in-Drop.target c.in-Drop.position c.in-Drop.kinds in
    let typed = rw e at c.requires.typed.1 in
    let same = ap (λ (s : Signature). length s.parameters) (c.computed_type-in-Drop.ensures.value ∙ ap (λ (n : Node). type_of (tree_of n)) c.deref-in-Drop.ensures) in
    record { inside = omega (arith, (drop_inside _ _ _ _ typed).0, same) }

pub Node::computed_type-unreachable-requires : goal.Node::computed_type-unreachable-requires
Node::computed_type-unreachable-requires t c =
    let e = ap tree_of c.in-Drop.is ∙ tree_of_drop c.in-Drop.target c.in-Drop.position c.in-Drop.kinds in
    let typed = rw e at c.requires.typed.1 in
    let same = ap (λ (s : Signature). length s.parameters) (c.computed_type-in-Drop.ensures.value ∙ ap (λ (n : Node). type_of (tree_of n)) c.deref-in-Drop.ensures) in
    let kinds = ap (λ (ks : List Kind). length ks) c.deref-in-Drop-2.ensures.value in
    omega (arith, (drop_inside _ _ _ _ typed).1, same, kinds, c.in_default.ensures.refused.1)

pub Node::computed_type-remove-requires-in-Fold : goal.Node::computed_type-remove-requires-in-Fold
Node::computed_type-remove-requires-in-Fold t c =
    let e = ap tree_of c.in-Fold.is ∙ tree_of_fold c.in-Fold.target c.in-Fold.combiner in
    let typed = rw e at c.requires.typed.1 in
    let same = ap (λ (s : Signature). length s.parameters) (c.computed_type-in-Fold.ensures.value ∙ ap (λ (n : Node). type_of (tree_of n)) c.deref-in-Fold.ensures) in
    record { inside = omega (arith, fold_inside _ _ _ typed, same) }

pub Node::computed_type-filtered_type-requires : goal.Node::computed_type-filtered_type-requires
Node::computed_type-filtered_type-requires t c =
    let e = ap tree_of c.in-Filter.is ∙ tree_of_filter c.in-Filter.target c.in-Filter.position c.in-Filter.filters in
    let typed = rw e at c.requires.typed.1 in
    let whole : c.computed_type-in-Filter.result ≡ type_of (tree_of c.in-Filter.target.value) =
    c.computed_type-in-Filter.ensures.value ∙ ap (λ (n : Node). type_of (tree_of n)) c.deref-in-Filter.ensures in
    let f : filters_of (filter_trees c.deref-in-Filter-2.result.now) ≡ filters_of (filter_trees c.in-Filter.filters.items) =
    ap (λ (fs : List (Option (Arc Node Global))). filters_of (filter_trees fs)) c.deref-in-Filter-2.ensures.value in
    let both = filter_inside _ _ _ _ typed in
    (omega (arith, ap size e, ap total_size f), (rw (f, whole) both.0, rw whole both.1))

pub Node::computed_type-returns-in-Filter : goal.Node::computed_type-returns-in-Filter
Node::computed_type-returns-in-Filter t c =
    let e = ap tree_of c.in-Filter.is ∙ tree_of_filter c.in-Filter.target c.in-Filter.position c.in-Filter.filters in
    let whole : c.computed_type-in-Filter.result ≡ type_of (tree_of c.in-Filter.target.value) =
    c.computed_type-in-Filter.ensures.value ∙ ap (λ (n : Node). type_of (tree_of n)) c.deref-in-Filter.ensures in
    let f : filters_of (filter_trees c.deref-in-Filter-2.result.now) ≡ filters_of (filter_trees c.in-Filter.filters.items) =
    ap (λ (fs : List (Option (Arc Node Global))). filters_of (filter_trees fs)) c.deref-in-Filter-2.ensures.value in
    record {
      value =
          c.filtered_type.ensures.value
          ∙ (λ i. record { ret = (whole i).ret; parameters = filtered_kinds (f i) c.in-Filter.position (whole i).parameters })
          ∙ ap type_of (sym e);
    }

pub filtered_type-computed_type-requires : goal.filtered_type-computed_type-requires
filtered_type-computed_type-requires t c =
    let left = filter_found c.args.filters.now c.loop-index.index c.in-Some.filter (omega arith) (rw c.in-Some.is at c.index-filters-index.is) in
    let here = filter_at (tree_of c.in-Some.filter.value) (filters_of (filter_trees (drop (c.loop-index.index + 1) c.args.filters.now))) (c.args.position + c.loop-index.index) c.loop-index.made.parameters c.loop-index.invariant.typed.0 (rw left at c.loop-index.invariant.typed.1) in
    let node : tree_of c.deref.result.now ≡ tree_of c.in-Some.filter.value = ap tree_of c.deref.ensures in
    (omega (arith, ap total_size left, ap size node), rw node here.typed)

pub filtered_type-parameter-kind-requires : goal.filtered_type-parameter-kind-requires
filtered_type-parameter-kind-requires t c =
    let left = filter_found c.args.filters.now c.loop-index.index c.in-Some.filter (omega arith) (rw c.in-Some.is at c.index-filters-index.is) in
    let here = filter_at (tree_of c.in-Some.filter.value) (filters_of (filter_trees (drop (c.loop-index.index + 1) c.args.filters.now))) (c.args.position + c.loop-index.index) c.loop-index.made.parameters c.loop-index.invariant.typed.0 (rw left at c.loop-index.invariant.typed.1) in
    let same = ap (λ (s : Signature). length s.parameters) (c.computed_type.ensures.value ∙ ap (λ (n : Node). type_of (tree_of n)) c.deref.ensures) in
    record { inside = omega (arith, here.unary, same) }

pub filtered_type-loop-index-preserved : goal.filtered_type-loop-index-preserved
filtered_type-loop-index-preserved t c =
    let next : c.args.position + (c.loop-index.index + 1) ≡ (c.args.position + c.loop-index.index) + 1 = omega arith in
    let rest = filters_of (filter_trees (drop (c.loop-index.index + 1) c.args.filters.now)) in
    elim c.match-filter.branch [
      | filtered_type-in-Some w ↦
          let left = filter_found c.args.filters.now c.loop-index.index w.in-Some.filter (omega arith) (rw w.in-Some.is at c.index-filters-index.is) in
          let here = filter_at (tree_of w.in-Some.filter.value) rest (c.args.position + c.loop-index.index) c.loop-index.made.parameters c.loop-index.invariant.typed.0 (rw left at c.loop-index.invariant.typed.1) in
          let kind = first_kind (type_of (tree_of w.in-Some.filter.value)).parameters w.parameter-kind.result here.unary (rw (w.computed_type.ensures.value ∙ ap (λ (n : Node). type_of (tree_of n)) w.deref.ensures) at w.parameter-kind.ensures.value) in
          let made : c.match-filter.made ≡ record { ret = c.loop-index.made.ret; parameters = slice_set c.loop-index.made.parameters (c.args.position + c.loop-index.index) w.parameter-kind.result } =
          w.made-is ∙ w.with_parameter-made.ensures.value in
          let behind = here.behind w.parameter-kind.result (c.args.position + (c.loop-index.index + 1)) next in
          record {
            ret = ap (λ (s : Signature). s.ret) made ∙ c.loop-index.invariant.ret;
            same = (λ j. filtered_kinds rest (next j) (made j).parameters)
                ∙ (λ j. filtered_kinds rest ((c.args.position + c.loop-index.index) + 1) (slice_set c.loop-index.made.parameters (c.args.position + c.loop-index.index) (kind j)))
                ∙ ap (λ (fs : Filters). filtered_kinds fs (c.args.position + c.loop-index.index) c.loop-index.made.parameters) (sym left)
                ∙ c.loop-index.invariant.same;
            typed = (behind.0, subst (λ (s : Signature). AreTyped rest (drop (c.args.position + (c.loop-index.index + 1)) s.parameters) behind.0) (sym made) behind.1);
            few = omega (arith, ap (λ (s : Signature). length s.parameters) made, length-set {A = Kind}, c.loop-index.invariant.few);
            small = omega (arith, ap total_size left, c.loop-index.invariant.small);
          }
      | filtered_type-in_default w ↦
          let left = none_found c.args.filters.now c.loop-index.index (omega arith) (rw w.in_default.is at c.index-filters-index.is) in
          let made : c.match-filter.made ≡ c.loop-index.made = w.made-is in
          let behind = none_at rest (c.args.position + c.loop-index.index) (c.args.position + (c.loop-index.index + 1)) c.loop-index.made.parameters c.loop-index.invariant.typed.0 next (rw left at c.loop-index.invariant.typed.1) in
          record {
            ret = ap (λ (s : Signature). s.ret) made ∙ c.loop-index.invariant.ret;
            same = (λ j. filtered_kinds rest (next j) (made j).parameters)
                ∙ ap (λ (fs : Filters). filtered_kinds fs (c.args.position + c.loop-index.index) c.loop-index.made.parameters) (sym left)
                ∙ c.loop-index.invariant.same;
            typed = (behind.0, subst (λ (s : Signature). AreTyped rest (drop (c.args.position + (c.loop-index.index + 1)) s.parameters) behind.0) (sym made) behind.1);
            few = omega (arith, ap (λ (s : Signature). length s.parameters) made, c.loop-index.invariant.few);
            small = omega (arith, ap total_size left, c.loop-index.invariant.small);
          }
    ]
