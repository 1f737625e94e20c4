use Rattle.std.proofs.Common.{rules, arith}
use Rattle.std.proofs.lemmas.List.FromFn.{map-range_with_len_more}
use Rattle.mh_tree.specs.declared.operand.Operand.TheVariants.{Argument}
use Rattle.mh_code.proofs.operands.arguments.Goals as goal

pub loop-place-preserved : goal.loop-place-preserved
loop-place-preserved c =
    let more = map-range_with_len_more (λ x. Argument x) 0 c.loop-place.place c.loop-place.place (omega arith) in
    rw more (search rules)
