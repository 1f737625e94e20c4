use Rattle.std.proofs.Common.{◌≡◌, ◌∙◌, ◌<◌, ap, sym, subst, arith, map, length, false}
use Rattle.std.proofs.lemmas.Result.{err_from_is_err_and}
use Rattle.std.proofs.lemmas.List.{get_or_default, get_or-map, length-map}
use Rattle.mh_type.specs.declared.value.Value.TheVariants.{Boolean}
use Rattle.mh_tree.specs.Meaning.{argument}
use Rattle.mh_tree.specs.Prepared.{operand_at}
use Rattle.mh_tree.specs.Running.{value_of}
use Rattle.mh_tree.specs.inner.Scoped.{IsIn}
use Rattle.mh_tree.specs.declared.operand.Operand.TheVariants.{Constant}
use Rattle.mh_tree.specs.Laws.{in_at}
use Rattle.mh_eval.proofs.Extending.{goes, stops}
use Rattle.mh_run.proofs.locals.pass.Goals as goal

pub read-requires : goal.read-requires
read-requires c =
    let os = c.args.operands.now in
    let i = c.loop-operand.operand-index in
    let below : i < length os = omega (arith, c.loop-operand-test.true) in
    let is : c.operand-item.result ≡ operand_at os i = c.operand-item.is ∙ get_or_default os i c.operand-item.result (Constant (Boolean false)) below in
    record { inside = subst (IsIn (length c.args.arguments.now) (length c.args.locals.now)) (sym is) (in_at (length c.args.arguments.now) (length c.args.locals.now) i os c.requires.inside) }

pub returns-in_err-put_owner : goal.returns-in_err-put_owner
returns-in_err-put_owner c =
    let p = err_from_is_err_and c.from_residual.result c.from_residual.ensures.1 in
    let os = c.args.operands.now in
    let i = c.loop-operand.operand-index in
    let f = value_of c.args.arguments.now c.args.locals.now in
    let below : i < length os = omega (arith, c.loop-operand-test.true) in
    let inside : i < length (map f os) = omega (arith, below, length-map os f) in
    let is : c.read.result.now ≡ argument (map f os) i =
    c.read.ensures.value ∙ ap f (c.operand-item.is ∙ get_or_default os i c.operand-item.result (Constant (Boolean false)) below) ∙ sym (get_or-map f os i (Constant (Boolean false)) (Boolean false) below) in
    record { extends = rw (p.1) (stops c.args.passed.now.items (map f os) c.loop-operand.passed.items _ i _ _ _ _ inside c.loop-operand.invariant.0 c.loop-operand.invariant.1 is _ _ c.in_err-put_owner.ensures.extends) }

pub loop-operand-preserved : goal.loop-operand-preserved
loop-operand-preserved c =
    let os = c.args.operands.now in
    let i = c.loop-operand.operand-index in
    let f = value_of c.args.arguments.now c.args.locals.now in
    let below : i < length os = omega (arith, c.loop-operand-test.true) in
    let inside : i < length (map f os) = omega (arith, below, length-map os f) in
    let is : c.read.result.now ≡ argument (map f os) i =
    c.read.ensures.value ∙ ap f (c.operand-item.is ∙ get_or_default os i c.operand-item.result (Constant (Boolean false)) below) ∙ sym (get_or-map f os i (Constant (Boolean false)) (Boolean false) below) in
    let more = goes c.args.passed.now.items (map f os) c.loop-operand.passed.items _ i _ _ _ _ inside c.loop-operand.invariant.0 c.loop-operand.invariant.1 is _ c.in_ok-put_owner.ensures.extends in
    (more, omega (arith, c.loop-operand.invariant.1, c.put_owner.ensures.extends.room))
