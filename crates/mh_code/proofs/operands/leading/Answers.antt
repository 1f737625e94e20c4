use Rattle.std.proofs.Common.{◌≡◌, ◌∙◌, ◌<◌, ◌++◌, [], ◌∷◌, ap, sym, arith, length, false}
use Rattle.std.proofs.lemmas.List.{get_or_default, take_more}
use Rattle.std.proofs.lemmas.List.FromFn.{map-range_with_len_more}
use Rattle.mh_type.specs.declared.value.Value.TheVariants.{Boolean}
use Rattle.mh_tree.specs.Prepared.{operand_at}
use Rattle.mh_tree.specs.declared.operand.Operand.TheVariants.{Argument, Constant}
use Rattle.mh_code.proofs.operands.leading.Goals as goal

pub loop-operand-preserved : goal.loop-operand-preserved
loop-operand-preserved c =
    let os = c.args.operands.now in
    let i = c.loop-operand.operand-index in
    let n = c.loop-operand.count in
    let below : i < length os = omega (arith, c.loop-operand-test.true) in
    let item : c.operand-item.result ≡ operand_at os i = c.operand-item.is ∙ get_or_default os i c.operand-item.result (Constant (Boolean false)) below in
    let place : c.in-Argument.place ≡ n = omega (arith, c.if-place-count.true) in
    let is : operand_at os i ≡ Argument n = sym item ∙ c.in-Argument.is ∙ ap (λ k. Argument k) place in
    let more = map-range_with_len_more (λ x. Argument x) 0 n n (omega arith) in
    let first = c.loop-operand.invariant.0 in
    (take_more os i (Constant (Boolean false)) below ∙ (λ j. first j ++ is j ∷ []) ∙ sym more, omega (arith, c.loop-operand.invariant.1))
