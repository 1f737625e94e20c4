use Rattle.std.proofs.Common.{◌≡◌, ◌+◌, ◌∷◌, [], ◌<◌, false, length-set, ap, sym, subst, ◌∙◌, rules, arith, List, Option, drop, take, length, length-drop, length-take, length-append}
use Rattle.std.specs.Prelude.{slice_index_or}
use Rattle.std.proofs.lemmas.List.{drop-take, get_or_default, get_or-drop}
use Rattle.mh_type.specs.Signature.{Signature}
use Rattle.mh_type.specs.declared.value.Value.TheVariants.{Boolean}
use Rattle.std.proofs.Math.Seq.{take-length}
use Rattle.mh_tree.specs.Limits.{most_steps}
use Rattle.mh_tree.specs.Meaning.{argument, is_valid}
use Rattle.mh_tree.specs.Tree.{identity, operation, filter, filters_of}
use Rattle.mh_tree.specs.TreeOf.{tree_of, filter_trees}
use Rattle.mh_tree.specs.declared.node.Node.{Node}
use Rattle.std.specs.declared.alloc.Global.{Global}
use Rattle.std.specs.declared.sync.Arc.{Arc}
use Rattle.mh_tree.specs.Handle.{TypedTree, IsSound}
use Rattle.mh_tree.specs.Laws.{tree_of_filter, effort, total_effort, few_efforts, filtered_length}
use Rattle.mh_eval.proofs.Invocations.{reached, site_runs, site_walks}
use Rattle.mh_eval.proofs.Extending.{top_of, one_copy}
use Rattle.mh_eval.proofs.FilterRuns.{runs_filters, target_runs}
use Rattle.mh_eval.proofs.FilterWalks.{filter_refused, filter_ends, filter_goes_on, present_ends, present_goes}
use Rattle.mh_eval.proofs.Walks.{ends, still_answered, tree_of_identity, tree_of_operation, one_effort, insert_walks, insert_refused, discard_walks, discard_refused, permute_walks, permute_refused, return_goes, fold_ends, fold_goes, guard_ends, guard_goes, fold_refused, return_refused, point_walks, one_runs, one_of, one_size, within, sixteen_runs, first_sixteen, identity_walks, operation_walks}
use Rattle.mh_eval.proofs.evaluator.+run.Goals as goal
use Rattle.mh_tree.specs.Sites.{setting, env, target_at, most_at}

pub run_insert-returns-in_default-clause-walked : goal.run_insert-returns-in_default-clause-walked
run_insert-returns-in_default-clause-walked t c =
    insert_refused (setting c.args.level c.args.here.now.valid.now c.args.here.now.targets.now) (tree_of c.args.target.now) c.args.position c.args.values.now (drop c.args.from c.args.stack.now.items) c.requires.can_run c.args.stack.now.items _ _ _ c.in_default.field-0 (omega (arith, c.requires.narrow, c.requires.inside, length-drop c.args.from c.args.stack.now.items)) c.in_default.ensures.extends

pub run_insert-returns-clause-walked : goal.run_insert-returns-clause-walked
run_insert-returns-clause-walked t c =
    let old = c.args.stack.now.items in
    let whole : c.len-base.result ≡ length old = search rules in
    let top = top_of old _ _ c.len-base.result whole c.in-Ok.ensures.extends.value in
    insert_walks (setting c.args.level c.args.here.now.valid.now c.args.here.now.targets.now) (tree_of c.args.target.now) c.args.position c.args.values.now (drop c.args.from old) c.requires.can_run _ _ _ _ _ _ (rw (top) at c.run_above-answer.ensures.walked) (omega (arith, whole)) c.in-Ok.ensures.extends.room

pub run_drop-returns-in_default-clause-walked : goal.run_drop-returns-in_default-clause-walked
run_drop-returns-in_default-clause-walked t c =
    discard_refused (setting c.args.level c.args.here.now.valid.now c.args.here.now.targets.now) (tree_of c.args.target.now) c.args.position c.args.kinds.now (drop c.args.from c.args.stack.now.items) c.requires.can_run c.args.stack.now.items _ _ _ c.in_default.field-0 (omega (arith, c.requires.narrow, c.requires.inside, length-drop c.args.from c.args.stack.now.items)) c.in_default.ensures.extends

pub run_drop-returns-clause-walked : goal.run_drop-returns-clause-walked
run_drop-returns-clause-walked t c =
    let old = c.args.stack.now.items in
    let whole : c.len-base.result ≡ length old = search rules in
    let top = top_of old _ _ c.len-base.result whole c.in-Ok.ensures.extends.value in
    discard_walks (setting c.args.level c.args.here.now.valid.now c.args.here.now.targets.now) (tree_of c.args.target.now) c.args.position c.args.kinds.now (drop c.args.from old) c.requires.can_run _ _ _ _ _ _ (rw (top) at c.run_above-answer.ensures.walked) (omega (arith, whole)) c.in-Ok.ensures.extends.room

pub run_permute-returns-in_default-clause-walked : goal.run_permute-returns-in_default-clause-walked
run_permute-returns-in_default-clause-walked t c =
    permute_refused (setting c.args.level c.args.here.now.valid.now c.args.here.now.targets.now) (tree_of c.args.target.now) c.args.new_type.now c.args.reorder.now (drop c.args.from c.args.stack.now.items) c.requires.can_run c.args.stack.now.items _ _ _ c.in_default.field-0 c.in_default.ensures.extends

pub run_permute-returns-clause-walked : goal.run_permute-returns-clause-walked
run_permute-returns-clause-walked t c =
    let old = c.args.stack.now.items in
    let whole : c.len-base.result ≡ length old = search rules in
    let top = top_of old _ _ c.len-base.result whole c.in-Ok.ensures.extends.value in
    permute_walks (setting c.args.level c.args.here.now.valid.now c.args.here.now.targets.now) (tree_of c.args.target.now) c.args.new_type.now c.args.reorder.now (drop c.args.from old) c.requires.can_run _ _ _ _ _ _ (rw (top) at c.run_above-answer.ensures.walked) (omega (arith, whole)) c.in-Ok.ensures.extends.room

pub run-returns-in-Identity-clause-walked : goal.run-returns-in-Identity-clause-walked
run-returns-in-Identity-clause-walked t c =
    let old = c.args.stack.now.items in
    let e : tree_of c.args.node.now ≡ identity c.in-Identity.field-0 = ap tree_of c.in-Identity.is ∙ tree_of_identity c.in-Identity.field-0 in
    let runs = rw e at c.requires.can_run in
    let one = ap (λ (s : Signature). length s.parameters) runs.typed in
    let inside : c.args.from < length old = omega (arith, runs.wide, one, length-drop c.args.from old) in
    let zero : c.args.from + 0 ≡ c.args.from = omega arith in
    let is : c.index.result.now ≡ argument (drop c.args.from old) 0 =
    c.index.ensures ∙ get_or_default old c.args.from c.index.result.now (Boolean false) inside ∙ sym (get_or-drop c.args.from old 0 (Boolean false) ∙ ap (argument old) zero) in
    rw e (identity_walks (setting c.args.level c.args.here.now.valid.now c.args.here.now.targets.now) c.in-Identity.field-0 (drop c.args.from old) _ _ _ _ _ runs is c.share-in-Identity.ensures.value c.share-in-Identity.ensures.quiet)

pub run-returns-in-Operation-clause-walked : goal.run-returns-in-Operation-clause-walked
run-returns-in-Operation-clause-walked t c =
    let e : tree_of c.args.node.now ≡ operation c.in-Operation.op = ap tree_of c.in-Operation.is ∙ tree_of_operation c.in-Operation.op in
    rw e (operation_walks (setting c.args.level c.args.here.now.valid.now c.args.here.now.targets.now) c.in-Operation.op (drop c.args.from c.args.stack.now.items) _ _ _ (rw (c.arguments_from.ensures.value) at c.run_operation.ensures.value) c.run_operation.ensures.quiet)

pub run_above-run-answer-requires : goal.run_above-run-answer-requires
run_above-run-answer-requires t c =
    let old = c.args.stack.now.items in
    let first : drop c.args.from c.truncate.new.self.items ≡ take 16 (drop c.args.from old) = ap (drop c.args.from) c.truncate.ensures.items ∙ drop-take c.args.from 16 old in
    let few = ap (λ l. length l) c.truncate.ensures.items in (
      omega arith,
      (
        omega (arith, few, length-take (c.args.from + 16) old, c.requires.inside),
        (omega (arith, few, length-take (c.args.from + 16) old), rw first (sixteen_runs _ _ _ c.requires.can_run)),
      ),
    )

pub run_above-returns-clause-walked : goal.run_above-returns-clause-walked
run_above-returns-clause-walked t c =
    let old = c.args.stack.now.items in
    let first : drop c.args.from c.truncate.new.self.items ≡ take 16 (drop c.args.from old) = ap (drop c.args.from) c.truncate.ensures.items ∙ drop-take c.args.from 16 old in
    let few = ap (λ l. length l) c.truncate.ensures.items in
    let h = rw (first) at c.run-answer.ensures.walked in
    let narrow = first_sixteen _ _ _ _ (drop c.args.from old) _ _ _ c.requires.can_run h in
    within _ _ _ _ _ _ _ _ _ narrow (omega (arith, few, length-take (c.args.from + 16) old)) (omega (arith, c.truncate.ensures.capacity))

pub run-run_filter-requires : goal.run-run_filter-requires
run-run_filter-requires t c =
    let e : tree_of c.args.node.now ≡ filter (tree_of c.in-Filter.target.value) c.in-Filter.position (filters_of (filter_trees c.in-Filter.filters.items)) =
    ap tree_of c.in-Filter.is ∙ tree_of_filter c.in-Filter.target c.in-Filter.position c.in-Filter.filters in
    let f : filters_of (filter_trees c.deref-in-Filter-2.result.now) ≡ filters_of (filter_trees c.in-Filter.filters.items) =
    ap (λ (fs : List (Option (Arc Node Global))). filters_of (filter_trees fs)) c.deref-in-Filter-2.ensures.value in
    let g : tree_of c.deref-in-Filter.result.now ≡ tree_of c.in-Filter.target.value = ap tree_of c.deref-in-Filter.ensures in
    (omega (arith, ap effort e, ap effort g, ap total_effort f), (c.requires.inside, (c.requires.narrow, rw (g, f) (rw e at c.requires.can_run))))

pub run-returns-in-Filter-clause-walked : goal.run-returns-in-Filter-clause-walked
run-returns-in-Filter-clause-walked t c =
    let e : tree_of c.args.node.now ≡ filter (tree_of c.in-Filter.target.value) c.in-Filter.position (filters_of (filter_trees c.in-Filter.filters.items)) =
    ap tree_of c.in-Filter.is ∙ tree_of_filter c.in-Filter.target c.in-Filter.position c.in-Filter.filters in
    let f : filters_of (filter_trees c.deref-in-Filter-2.result.now) ≡ filters_of (filter_trees c.in-Filter.filters.items) =
    ap (λ (fs : List (Option (Arc Node Global))). filters_of (filter_trees fs)) c.deref-in-Filter-2.ensures.value in
    let g : tree_of c.deref-in-Filter.result.now ≡ tree_of c.in-Filter.target.value = ap tree_of c.deref-in-Filter.ensures in
    rw e (rw (g, f) at c.run_filter.ensures.walked)

pub run_filter-returns-in_default-clause-walked : goal.run_filter-returns-in_default-clause-walked
run_filter-returns-in_default-clause-walked t c =
    let old = c.args.stack.now.items in
    let a = drop c.args.from old in
    let fs = filters_of (filter_trees c.args.filters.now) in
    let whole : c.len-base.result ≡ length old = search rules in
    let copied : drop c.args.from (take c.len-base.result old) ≡ a = ap (drop c.args.from) (ap (λ n. take n old) whole ∙ take-length old) in
    filter_refused (setting c.args.level c.args.here.now.valid.now c.args.here.now.targets.now) (tree_of c.args.target.now) c.args.position fs a c.requires.can_run old _ _ _ _ c.in_default.field-0 copied (omega (arith, c.requires.narrow, c.requires.inside, length-drop c.args.from old)) c.in_default.ensures.extends

pub run_filter-run_filters-passed-requires : goal.run_filter-run_filters-passed-requires
run_filter-run_filters-passed-requires t c =
    let old = c.args.stack.now.items in
    let a = drop c.args.from old in
    let fs = filters_of (filter_trees c.args.filters.now) in
    let whole : c.len-base.result ≡ length old = search rules in
    let copied : drop c.args.from (take c.len-base.result old) ≡ a = ap (drop c.args.from) (ap (λ n. take n old) whole ∙ take-length old) in
    let frame : drop c.len-base.result c.put_copies.new.stack.items ≡ a = top_of old _ _ c.len-base.result whole c.in-Ok.ensures.extends.value ∙ copied in
    let many = ap (λ l. length l) c.in-Ok.ensures.extends.value ∙ length-append old (drop c.args.from (take c.len-base.result old)) in
    let width = ap (λ l. length l) copied in
    let both = runs_filters _ _ _ _ _ c.requires.can_run in
    (omega arith, (omega (arith, many, whole), (rw frame both.0, both.1)))

pub run_filter-returns-in-Err-clause-walked : goal.run_filter-returns-in-Err-clause-walked
run_filter-returns-in-Err-clause-walked t c =
    let old = c.args.stack.now.items in
    let a = drop c.args.from old in
    let fs = filters_of (filter_trees c.args.filters.now) in
    let whole : c.len-base.result ≡ length old = search rules in
    let copied : drop c.args.from (take c.len-base.result old) ≡ a = ap (drop c.args.from) (ap (λ n. take n old) whole ∙ take-length old) in
    let frame : drop c.len-base.result c.put_copies.new.stack.items ≡ a = top_of old _ _ c.len-base.result whole c.in-Ok.ensures.extends.value ∙ copied in
    let many = ap (λ l. length l) c.in-Ok.ensures.extends.value ∙ length-append old (drop c.args.from (take c.len-base.result old)) in
    let width = ap (λ l. length l) copied in
    let passed = rw (frame, c.in-Err.is) at c.run_filters-passed.ensures.passed in
    filter_ends (setting c.args.level c.args.here.now.valid.now c.args.here.now.targets.now) (tree_of c.args.target.now) c.args.position fs a c.requires.can_run c.in-Err.answer _ _ _ _ passed _ _
    (omega (arith, many, width, c.requires.narrow, c.requires.inside, length-drop c.args.from old)) c.in-Ok.ensures.extends.room

pub run_filter-run_above-answer-requires : goal.run_filter-run_above-answer-requires
run_filter-run_above-answer-requires t c =
    let old = c.args.stack.now.items in
    let a = drop c.args.from old in
    let fs = filters_of (filter_trees c.args.filters.now) in
    let whole : c.len-base.result ≡ length old = search rules in
    let copied : drop c.args.from (take c.len-base.result old) ≡ a = ap (drop c.args.from) (ap (λ n. take n old) whole ∙ take-length old) in
    let frame : drop c.len-base.result c.put_copies.new.stack.items ≡ a = top_of old _ _ c.len-base.result whole c.in-Ok.ensures.extends.value ∙ copied in
    let many = ap (λ l. length l) c.in-Ok.ensures.extends.value ∙ length-append old (drop c.args.from (take c.len-base.result old)) in
    let width = ap (λ l. length l) copied in
    let passed = rw (frame, c.in_default-passed.is) at c.run_filters-passed.ensures.passed in
    let same = filtered_length _ fs c.args.position a _ passed.value.0 in
    let kept = ap (λ l. length l) c.run_filters-passed.ensures.stack in (
      omega arith,
      (
        omega (arith, kept, many, whole, length-take c.len-base.result c.run_filters-passed.new.stack.items, length-take c.len-base.result c.put_copies.new.stack.items),
        rw same (target_runs _ _ _ _ _ c.requires.can_run),
      ),
    )

pub run_filter-returns-clause-walked : goal.run_filter-returns-clause-walked
run_filter-returns-clause-walked t c =
    let old = c.args.stack.now.items in
    let a = drop c.args.from old in
    let fs = filters_of (filter_trees c.args.filters.now) in
    let whole : c.len-base.result ≡ length old = search rules in
    let copied : drop c.args.from (take c.len-base.result old) ≡ a = ap (drop c.args.from) (ap (λ n. take n old) whole ∙ take-length old) in
    let frame : drop c.len-base.result c.put_copies.new.stack.items ≡ a = top_of old _ _ c.len-base.result whole c.in-Ok.ensures.extends.value ∙ copied in
    let many = ap (λ l. length l) c.in-Ok.ensures.extends.value ∙ length-append old (drop c.args.from (take c.len-base.result old)) in
    let width = ap (λ l. length l) copied in
    let passed = rw (frame, c.in_default-passed.is) at c.run_filters-passed.ensures.passed in
    filter_goes_on (setting c.args.level c.args.here.now.valid.now c.args.here.now.targets.now) (tree_of c.args.target.now) c.args.position fs a c.requires.can_run _ _ _ _ _ passed _ _ _ _ _ _ c.run_above-answer.ensures.walked
    (omega (arith, whole)) (omega (arith, c.in-Ok.ensures.extends.room, c.run_filters-passed.ensures.room))

pub run_filter_return-returns-in_default-clause-walked : goal.run_filter_return-returns-in_default-clause-walked
run_filter_return-returns-in_default-clause-walked t c =
    let a = drop c.args.from c.args.stack.now.items in
    let same = c.run-first.ensures.stack in
    let many = ap (λ l. length l) same in
    return_refused (setting c.args.level c.args.here.now.valid.now c.args.here.now.targets.now) (tree_of c.args.target.now) (tree_of c.args.last.now) a c.requires.can_run _ _ _ _ c.run-first.ensures.walked c.in-Ok.value (sym c.in-Ok.ensures.value) c.run-first.new.stack.items _ _ _ c.in_default.field-0
    (c.in_default.ensures.extends) (omega (arith, many)) c.run-first.ensures.room

pub run_filter_return-returns-clause-walked : goal.run_filter_return-returns-clause-walked
run_filter_return-returns-clause-walked t c =
    let a = drop c.args.from c.args.stack.now.items in
    let same = c.run-first.ensures.stack in
    let many = ap (λ l. length l) same in
    let whole : c.len-base.result ≡ length c.run-first.new.stack.items = search rules in
    let top = top_of c.run-first.new.stack.items _ _ c.len-base.result whole c.in-Ok-put.ensures.extends.value in
    return_goes (setting c.args.level c.args.here.now.valid.now c.args.here.now.targets.now) (tree_of c.args.target.now) (tree_of c.args.last.now) a c.requires.can_run _ _ _ _ c.run-first.ensures.walked c.in-Ok.value (sym c.in-Ok.ensures.value) _ _ _ _
    (rw (top) at c.run_above-answer.ensures.walked) (omega (arith, many, whole)) (omega (arith, c.run-first.ensures.room, c.in-Ok-put.ensures.extends.room))

pub run_fold-returns-in-Err-clause-walked : goal.run_fold-returns-in-Err-clause-walked
run_fold-returns-in-Err-clause-walked t c =
    fold_ends (setting c.args.level c.args.here.now.valid.now c.args.here.now.targets.now) (tree_of c.args.target.now) (tree_of c.args.combiner.now) (drop c.args.from c.args.stack.now.items) c.requires.can_run _ _ _ _ c.run-first.ensures.walked c.in-Err.answer (sym c.in-Err.ensures.value)

pub run_fold-returns-in_default-clause-walked : goal.run_fold-returns-in_default-clause-walked
run_fold-returns-in_default-clause-walked t c =
    let a = drop c.args.from c.args.stack.now.items in
    let same = c.run-first.ensures.stack in
    let many = ap (λ l. length l) same in
    fold_refused (setting c.args.level c.args.here.now.valid.now c.args.here.now.targets.now) (tree_of c.args.target.now) (tree_of c.args.combiner.now) a c.requires.can_run _ _ _ _ c.run-first.ensures.walked c.in-Ok.value (sym c.in-Ok.ensures.value) c.run-first.new.stack.items _ _ _ c.in_default.field-0
    (rw (ap (drop c.args.from) same) at c.in_default.ensures.extends) (omega (arith, c.requires.narrow, c.requires.inside, length-drop c.args.from c.args.stack.now.items)) (omega (arith, many)) c.run-first.ensures.room

pub run_fold-returns-clause-walked : goal.run_fold-returns-clause-walked
run_fold-returns-clause-walked t c =
    let a = drop c.args.from c.args.stack.now.items in
    let same = c.run-first.ensures.stack in
    let many = ap (λ l. length l) same in
    let whole : c.len-base.result ≡ length c.run-first.new.stack.items = search rules in
    let top = top_of c.run-first.new.stack.items _ _ c.len-base.result whole c.in-Ok-put_first.ensures.extends.value ∙ ap (λ l. c.in-Ok.value ∷ drop c.args.from l) same in
    fold_goes (setting c.args.level c.args.here.now.valid.now c.args.here.now.targets.now) (tree_of c.args.target.now) (tree_of c.args.combiner.now) a c.requires.can_run _ _ _ _ c.run-first.ensures.walked c.in-Ok.value (sym c.in-Ok.ensures.value) _ _ _ _
    (rw (top) at c.run_above-answer.ensures.walked) (omega (arith, many, whole)) (omega (arith, c.run-first.ensures.room, c.in-Ok-put_first.ensures.extends.room))

pub run_guard-returns-in-Err-clause-walked : goal.run_guard-returns-in-Err-clause-walked
run_guard-returns-in-Err-clause-walked t c =
    guard_ends (setting c.args.level c.args.here.now.valid.now c.args.here.now.targets.now) (tree_of c.args.test.now) (tree_of c.args.target.now) (tree_of c.args.fallback.now) (drop c.args.from c.args.stack.now.items) c.requires.can_run _ _ _ _ c.run-choice.ensures.walked c.in-Err.answer (sym c.in-Err.ensures.value)

pub run_guard-returns-clause-walked : goal.run_guard-returns-clause-walked
run_guard-returns-clause-walked t c =
    let branch = c.branch_by-branch.ensures.value ∙ ap (λ q. one_of q (tree_of c.args.target.now) (tree_of c.args.fallback.now)) c.holds.ensures.value in
    guard_goes (setting c.args.level c.args.here.now.valid.now c.args.here.now.targets.now) (tree_of c.args.test.now) (tree_of c.args.target.now) (tree_of c.args.fallback.now) (drop c.args.from c.args.stack.now.items) c.requires.can_run _ _ _ _ c.run-choice.ensures.walked c.in-Ok.value (sym c.in-Ok.ensures.value) _ _ _ _
    (rw (branch, c.run-choice.ensures.stack) at c.run-answer.ensures.walked) (omega arith) c.run-choice.ensures.room

pub run_place-returns-in-Err-clause-placed : goal.run_place-returns-in-Err-clause-placed
run_place-returns-in-Err-clause-placed t c =
    let old = c.args.stack.now.items in
    let whole : c.len-top.result ≡ length old = search rules in
    let copied : drop c.args.place (take (c.args.place + 1) old) ≡ argument old c.args.place ∷ [] = one_copy old c.args.place c.requires.inside in
    let top = top_of old _ _ c.len-top.result whole c.in-Ok.ensures.extends.value ∙ copied in
    let h = rw (top) at c.run_above-answer.ensures.walked in
    let same : c.run_above-answer.new.stack.items ≡ old = search rules in
    let is = sym c.in-Err.ensures.value in
    record {
      value = (ends c.run_above-answer.result.0 c.in-Err.answer is _ _ _ h.ran, same);
      few = h.few;
      quiet = λ plain none room. still_answered c.run_above-answer.result.0 c.in-Err.answer is (h.quiet [] plain none (omega (arith, whole, room, c.in-Ok.ensures.extends.room)));
    }

pub run_point-run-answer-requires : goal.run_point-run-answer-requires
run_point-run-answer-requires t c =
    let x = tree_of c.args.target.now in
    let y = tree_of c.args.fallback.now in
    let valid = is_valid (env (setting c.args.level c.args.here.now.valid.now c.args.here.now.targets.now)) c.args.point in
    let branch : tree_of c.branch_by-branch.result.now ≡ one_of valid x y = c.branch_by-branch.ensures.value in
    let runs = c.requires.can_run in (
      omega (arith, ap effort branch, one_effort valid x y),
      (c.requires.inside, (c.requires.narrow, rw branch (one_runs valid x y runs.signature _ _ runs.typed.0 runs.typed.1 runs.wide (omega (arith, runs.known)) (omega (arith, runs.known)) (omega (arith, runs.small)) runs.invokes.0 runs.invokes.1))),
    )

pub run_point-overflow_add-result : goal.run_point-overflow_add-result
run_point-overflow_add-result t c =
    let x = tree_of c.args.target.now in
    let y = tree_of c.args.fallback.now in
    let valid = is_valid (env (setting c.args.level c.args.here.now.valid.now c.args.here.now.targets.now)) c.args.point in
    let branch : tree_of c.branch_by-branch.result.now ≡ one_of valid x y = c.branch_by-branch.ensures.value in
    omega (arith, c.run-answer.ensures.walked.few, ap (most_steps (most_at c.args.level)) branch, one_size (most_at c.args.level) valid x y, c.requires.can_run.small)

pub run_point-returns-clause-walked : goal.run_point-returns-clause-walked
run_point-returns-clause-walked t c =
    let x = tree_of c.args.target.now in
    let y = tree_of c.args.fallback.now in
    let valid = is_valid (env (setting c.args.level c.args.here.now.valid.now c.args.here.now.targets.now)) c.args.point in
    let branch : tree_of c.branch_by-branch.result.now ≡ one_of valid x y = c.branch_by-branch.ensures.value in
    point_walks (setting c.args.level c.args.here.now.valid.now c.args.here.now.targets.now) c.args.point x y (drop c.args.from c.args.stack.now.items) _ _ _ _ _ _ (rw (branch) at c.run-answer.ensures.walked) (omega arith) (omega arith)

pub run_present-returns-in-Err-clause-passed : goal.run_present-returns-in-Err-clause-passed
run_present-returns-in-Err-clause-passed t c =
    present_ends (setting c.args.level c.args.here.now.valid.now c.args.here.now.targets.now) (tree_of c.args.node.now) (filters_of (filter_trees c.args.rest.now)) c.args.base c.args.position c.args.stack.now.items _ _ _ c.requires.fits
    c.in-Err.answer _ (rw (c.in-Err.is) at c.run_place-placed.ensures.placed)

pub run_present-returns-clause-passed : goal.run_present-returns-clause-passed
run_present-returns-clause-passed t c =
    let placed = rw (c.in_default.is) at c.run_place-placed.ensures.placed in
    let many = ap (λ l. length l) placed.value.2 in
    present_goes (setting c.args.level c.args.here.now.valid.now c.args.here.now.targets.now) (tree_of c.args.node.now) (filters_of (filter_trees c.args.rest.now)) c.args.base c.args.position c.args.stack.now.items _ _ _ c.requires.fits
    _ _ _ _ _ _ placed c.run_filters-passed.ensures.passed (omega (arith, many, length-set c.args.stack.now.items (c.args.base + c.args.position) (argument c.run_place-placed.new.stack.items (c.args.base + c.args.position)))) c.run_place-placed.ensures.room

pub run_invoke-run-answer-requires : goal.run_invoke-run-answer-requires
run_invoke-run-answer-requires t c =
    let ts = c.args.here.now.targets.now in
    let known = reached c.args.level ts (length c.args.here.now.valid.now) c.args.site c.args.method_type.now c.requires.can_run.invokes in
    let same : slice_index_or ts c.args.site c.index-here-site.result ≡ target_at ts c.args.site = get_or_default ts c.args.site c.index-here-site.result _ known.known in
    let sound = subst (λ (h : TypedTree). IsSound h.tree h.signature) same c.root.ensures.sound in
    let tree : tree_of c.root.result.now ≡ (target_at ts c.args.site).tree = c.root.ensures.value ∙ ap (λ (h : TypedTree). h.tree) same in
    let few = few_efforts (target_at ts c.args.site).tree (target_at ts c.args.site).signature sound.typed in (
      omega (arith, ap effort tree, few, sound.small, known.deep),
      (c.requires.inside, (c.requires.narrow, rw tree (site_runs c.args.level c.args.here.now.valid.now ts c.args.site c.args.method_type.now _ sound c.requires.can_run))),
    )

pub run_invoke-overflow_add-result : goal.run_invoke-overflow_add-result
run_invoke-overflow_add-result t c =
    let ts = c.args.here.now.targets.now in
    let known = reached c.args.level ts (length c.args.here.now.valid.now) c.args.site c.args.method_type.now c.requires.can_run.invokes in
    let same : slice_index_or ts c.args.site c.index-here-site.result ≡ target_at ts c.args.site = get_or_default ts c.args.site c.index-here-site.result _ known.known in
    let sound = subst (λ (h : TypedTree). IsSound h.tree h.signature) same c.root.ensures.sound in
    let tree : tree_of c.root.result.now ≡ (target_at ts c.args.site).tree = c.root.ensures.value ∙ ap (λ (h : TypedTree). h.tree) same in
    let walked = site_walks c.args.level c.args.here.now.valid.now ts c.args.site c.args.method_type.now (drop c.args.from c.args.stack.now.items) sound c.requires.can_run _ _ _ _ (rw (tree) at c.run-answer.ensures.walked) in
    omega (arith, walked.few, c.requires.can_run.small)

pub run_invoke-returns-clause-walked : goal.run_invoke-returns-clause-walked
run_invoke-returns-clause-walked t c =
    let ts = c.args.here.now.targets.now in
    let known = reached c.args.level ts (length c.args.here.now.valid.now) c.args.site c.args.method_type.now c.requires.can_run.invokes in
    let same : slice_index_or ts c.args.site c.index-here-site.result ≡ target_at ts c.args.site = get_or_default ts c.args.site c.index-here-site.result _ known.known in
    let sound = subst (λ (h : TypedTree). IsSound h.tree h.signature) same c.root.ensures.sound in
    let tree : tree_of c.root.result.now ≡ (target_at ts c.args.site).tree = c.root.ensures.value ∙ ap (λ (h : TypedTree). h.tree) same in
    site_walks c.args.level c.args.here.now.valid.now ts c.args.site c.args.method_type.now (drop c.args.from c.args.stack.now.items) sound c.requires.can_run _ _ _ _ (rw (tree) at c.run-answer.ensures.walked)
