use Rattle.std.proofs.Common.{arith, ◌∙◌, false}
use Rattle.std.proofs.lemmas.List.{get_or_default}
use Rattle.mh_type.specs.declared.value.Value.TheVariants.{Boolean}
use Rattle.std.proofs.lemmas.Result.{err_from_is_err_and}
use Rattle.mh_eval.proofs.Extending.{stops}
use Rattle.mh_eval.proofs.frames.put_values.Goals as goal

pub returns-in_err-put_owner : goal.returns-in_err-put_owner
returns-in_err-put_owner c =
    let p = err_from_is_err_and c.from_residual.result c.from_residual.ensures.1 in
    record { extends = rw (p.1) (stops c.args.stack.now.items c.args.values.now c.loop-value.stack.items _ c.loop-value.value-index _ _ _ _ (omega arith) c.loop-value.invariant.0 c.loop-value.invariant.1 (c.value-item.is ∙ get_or_default c.args.values.now c.loop-value.value-index c.value-item.result (Boolean false) (omega arith)) _ _ c.in_err-put_owner.ensures.extends) }
