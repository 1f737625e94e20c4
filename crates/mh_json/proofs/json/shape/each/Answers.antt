use Rattle.std.proofs.Common.{refl}
use Rattle.std.proofs.lemmas.Fn.{says_at}
use Rattle.std.proofs.lemmas.Result.{err_from_is_err_and}
use Rattle.serde_json.specs.View.{view}
use Rattle.mh_json.specs.declared.key.Key.TheVariants.{Item}
use Rattle.mh_json.specs.Misreads.{under}
use Rattle.mh_json.proofs.Loop.{one_more, stops_or}
use Rattle.mh_json.proofs.json.shape.each.Goals as goal

pub returns-in_err-at : goal.returns-in_err-at
returns-in_err-at g c = record {
  value = λ f reads.
      let p = err_from_is_err_and c.from_residual-in_err-at.result c.from_residual-in_err-at.ensures.1 in
      let gives = c.in_err-at.ensures.value (f (view c.index-values-i.result)) (reads _ _ (says_at _ c.read.ensures refl)) in
      rw (p.1, p.2, c.in_ok-values.ensures.value) (stops_or (λ i d. under (Item i) (f d)) c.loop-i.items.items c.in_ok-values.values.now c.loop-i.i c.loop-i.i c.index-values-i.result c.in_err-at.field-0.0 _ c.loop-i-test.true c.index-values-i.is gives (c.loop-i.invariant f reads));
}

pub loop-i-preserved : goal.loop-i-preserved
loop-i-preserved g c = λ f reads.
    let gives = c.in_ok-at.ensures.value (f (view c.index-values-i.result)) (reads _ _ (says_at _ c.read.ensures refl)) in
    rw c.in_ok-push.ensures.items (one_more (λ i d. under (Item i) (f d)) c.loop-i.items.items c.in_ok-values.values.now c.loop-i.i c.loop-i.i c.index-values-i.result c.in_ok-at.field-0 _ c.loop-i-test.true c.index-values-i.is gives (c.loop-i.invariant f reads))
