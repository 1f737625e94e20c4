use Rattle.std.proofs.lemmas.Result.{err_from_is_err_and}
use Rattle.serde_json.specs.View.{view}
use Rattle.mh_json.specs.declared.key.Key.TheVariants.{Item}
use Rattle.mh_json.specs.Misreads.{under}
use Rattle.mh_json.specs.Trees.{filter_of}
use Rattle.mh_json.proofs.Forms.{form_at, filters_of_array}
use Rattle.mh_json.proofs.Loop.{one_more, stops_or}
use Rattle.mh_json.proofs.json.trees.+tree.Goals as goal

pub read_filters-loop-i-init : goal.read_filters-loop-i-init
read_filters-loop-i-init t c =
    rw (c.in-Array.is, c.new-filters.ensures.items) (filters_of_array c.args.scope.now c.in-Array.items c.as_slice-items.result.now c.as_slice-items.ensures.value)

pub read_filters-returns-in_err-at : goal.read_filters-returns-in_err-at
read_filters-returns-in_err-at t c =
    let p = err_from_is_err_and c.from_residual.result c.from_residual.ensures.1 in
    let gives = c.in_err-at.ensures.value (filter_of c.args.scope.now (view c.index-items-i.result)) c.read_filter_or_none.ensures.value in
    record {
      value = rw (p.1, p.2) (stops_or (λ i d. under (Item i) (filter_of c.args.scope.now d)) c.loop-i.filters.items c.as_slice-items.result.now c.loop-i.i c.loop-i.i c.index-items-i.result c.in_err-at.field-0.0 _ c.loop-i-test.true c.index-items-i.is gives c.loop-i.invariant);
    }

pub read_filters-loop-i-preserved : goal.read_filters-loop-i-preserved
read_filters-loop-i-preserved t c =
    let gives = c.in_ok-at.ensures.value (filter_of c.args.scope.now (view c.index-items-i.result)) c.read_filter_or_none.ensures.value in
    rw c.in_ok-push.ensures.items (one_more (λ i d. under (Item i) (filter_of c.args.scope.now d)) c.loop-i.filters.items c.as_slice-items.result.now c.loop-i.i c.loop-i.i c.index-items-i.result c.in_ok-at.field-0 _ c.loop-i-test.true c.index-items-i.is gives c.loop-i.invariant)

pub read_tree-returns-in-Ok : goal.read_tree-returns-in-Ok
read_tree-returns-in-Ok t c =
    let e = form_at c.args.scope.now c.in-Array.items c.as_slice.result.now c.head-item.result c.in-Ok.word.now c.as_slice.ensures.value c.in-len1-up.len_at_least c.head-item.is c.in-Ok.ensures.value in
    record { value = rw (c.in-Array.is, e) c.read_form.ensures.value }
