use Rattle.std.proofs.Common.{◌≡◌, ◌-◌, ◌∷◌, [], ◌∙◌, ap, sym, subst, refl, arith}
use Rattle.mh_code.specs.PieceOf.{routine_of}
use Rattle.mh_code.specs.Routine.{give, operation}
use Rattle.mh_run.specs.inner.Runs.{Ends, Answers}
use Rattle.mh_run.proofs.Pieces.{routine_of_apply}
use Rattle.mh_run.proofs.Sources.{gives, plain_answers, told_ends}
use Rattle.mh_run.proofs.calls.run_any.Goals as goal
use Rattle.mh_tree.specs.Sites.{setting}
use Rattle.mh_type.specs.Operations.{operate}

pub returns-in-Apply : goal.returns-in-Apply
returns-in-Apply c =
    let v = setting (4 - c.args.depth) c.args.here.now.valid.now c.args.here.now.targets.now in
    let a = c.args.arguments.now in
    let x = operation c.in-Apply.op c.in-Apply.first c.in-Apply.second in
    let is : routine_of c.args.piece.now ≡ give c.in-Apply.steps x = ap routine_of c.in-Apply.is ∙ routine_of_apply c.in-Apply.op c.in-Apply.first c.in-Apply.second c.in-Apply.steps in
    let h : Answers v a [] x c.operate-answer.result 0 = plain_answers v a [] x c.operate-answer.result _ c.operate-answer.ensures.value (λ i. operate c.in-Apply.op (c.read-first.ensures.value i ∷ c.read-second.ensures.value i ∷ [])) refl c.operate-answer.ensures.quiet in
    let ends = subst (λ r. Ends v a [] r c.args.before c.operate-answer.result c.from-total.result) (sym is)
    (gives v a [] x c.in-Apply.steps c.args.before c.operate-answer.result 0 _ (omega (arith, c.from.ensures, c.from-total.ensures)) h) in
    record {
      told = told_ends c.outcome_of.result v a (routine_of c.args.piece.now) c.args.before c.operate-answer.result c.from-total.result ends c.outcome_of.ensures.outcome c.outcome_of.ensures.steps c.outcome_of.ensures.few c.outcome_of.ensures.memory;
      stack = refl;
    }
