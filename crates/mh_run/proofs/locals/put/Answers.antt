use Rattle.std.proofs.Common.{◌+◌, ◌∙◌, ap, sym, arith}
use Rattle.std.proofs.Math.Seq.{take-set-lt}
use Rattle.std.proofs.lemmas.List.{take_more_set}
use Rattle.std.specs.Prelude.{slice_set}
use Rattle.mh_run.proofs.locals.put.Goals as goal

pub returns-clause-value : goal.returns-clause-value
returns-clause-value c =
    let l = c.args.locals.now.items in
    let i = c.args.place in
    ap (λ k. slice_set k i c.args.value) c.cut.ensures.rest
    ∙ sym (take-set-lt (i + 1) l i c.args.value (omega arith))
    ∙ take_more_set l i c.args.value (omega (arith, c.len.ensures, c.if-len-place.false, c.requires.inside))
