use Rattle.std.proofs.Common.{◌≡◌, ◌∙◌, ◌+◌, ap, sym, subst, refl, arith, length, [], ◌∷◌}
use Rattle.mh_code.specs.PieceOf.{routine_of, routines}
use Rattle.mh_code.specs.Rows.{row_of, steps_to}
use Rattle.mh_tree.specs.Meaning.{argument}
use Rattle.std.specs.Arc.{arc_value}
use Rattle.std.specs.Prelude.{get_or, map, max, ◌≤◌}
use Rattle.mh_code.specs.Routine.{give, keep, operand, operation, invocation}
use Rattle.mh_code.specs.Height.{code_height, height, highest}
use Rattle.mh_code.specs.declared.code.Piece.{Piece}
use Rattle.std.specs.declared.sync.Arc.{Arc}
use Rattle.mh_eval.specs.Quiet.{IsAnswered}
use Rattle.mh_run.specs.inner.Runs.{Answers, Ends, Leaves, MayRun}
use Rattle.mh_run.proofs.Pieces.{err_given, if_err, if_ok, lower_go, routine_of_call, routine_of_forward, routine_of_let, routine_of_put}
use Rattle.mh_run.proofs.Sites.{leading_many}
use Rattle.mh_run.proofs.Sources.{gives, keep_ends, keeps, plain_answers}
use Rattle.mh_run.proofs.Switches.{leaves_switch, lower_switch}
use Rattle.mh_run.proofs.running.enter.Goals as goal
use Rattle.mh_tree.specs.Laws.Scope.{in_arguments}
use Rattle.mh_tree.specs.Prepared.{leading_arguments}
use Rattle.mh_tree.specs.Running.{value_of}
use Rattle.mh_tree.specs.Sites.{MayCall, setting}
use Rattle.mh_code.specs.inner.Runs.{put}
use Rattle.mh_type.specs.Kinds.{kind_of}
use Rattle.mh_type.specs.Operations.{operate}
use Rattle.mh_type.specs.declared.kind.Kind.TheVariants as kind
use Rattle.mh_type.specs.declared.outcome.Outcome.TheVariants as outcome
use Rattle.mh_type.specs.declared.value.Value.{Value}
use Rattle.std.specs.Prelude.{◌<◌, Vec, vec_capacity}
use Rattle.std.specs.declared.alloc.Global.{Global}

pub forward-answer-requires-clause-scoped : goal.forward-answer-requires-clause-scoped
forward-answer-requires-clause-scoped g c =
    let is : routine_of c.args.piece.now ≡ give c.in-Forward.steps (invocation c.in-Forward.site (leading_arguments c.in-Forward.count)) = ap routine_of c.in-Forward.is ∙ routine_of_forward c.in-Forward.site c.in-Forward.count c.in-Forward.steps in
    let v = setting g.L.Lower.deep c.args.here.now.valid.now c.args.here.now.targets.now in
    let may = subst (λ r. MayRun v c.args.arguments.now c.args.level.now.locals.items r c.args.before) is c.requires.may in
    (may.scoped.0, in_arguments (length c.args.arguments.now) c.in-Forward.count 0 (omega (arith, leading_many (MayCall g.L.Lower.deep c.args.here.now.targets.now (length c.args.here.now.valid.now)) c.in-Forward.site (length c.args.arguments.now) (length c.args.level.now.locals.items) c.in-Forward.count may.scoped)))

pub overflow_add-result-in-Forward-2 : goal.overflow_add-result-in-Forward-2
overflow_add-result-in-Forward-2 g c =
    let is : routine_of c.args.piece.now ≡ give c.in-Forward.steps (invocation c.in-Forward.site (leading_arguments c.in-Forward.count)) = ap routine_of c.in-Forward.is ∙ routine_of_forward c.in-Forward.site c.in-Forward.count c.in-Forward.steps in
    let v = setting g.L.Lower.deep c.args.here.now.valid.now c.args.here.now.targets.now in
    let may = subst (λ r. MayRun v c.args.arguments.now c.args.level.now.locals.items r c.args.before) is c.requires.may in
    omega (arith, may.few, (c.forward-answer.ensures.answers []).few, c.from-in-Forward.ensures)

pub returns-in-Forward-clause-ends : goal.returns-in-Forward-clause-ends
returns-in-Forward-clause-ends g c =
    let is : routine_of c.args.piece.now ≡ give c.in-Forward.steps (invocation c.in-Forward.site (leading_arguments c.in-Forward.count)) = ap routine_of c.in-Forward.is ∙ routine_of_forward c.in-Forward.site c.in-Forward.count c.in-Forward.steps in
    let v = setting g.L.Lower.deep c.args.here.now.valid.now c.args.here.now.targets.now in
    let l = c.args.level.now.locals.items in
    subst (λ r. Ends v c.args.arguments.now l r c.args.before c.forward-answer.result.0 (c.args.before + c.from-in-Forward.result + c.forward-answer.result.1)) (sym is)
    (gives v c.args.arguments.now l (invocation c.in-Forward.site (leading_arguments c.in-Forward.count)) c.in-Forward.steps c.args.before c.forward-answer.result.0 c.forward-answer.result.1 _ (omega (arith, c.from-in-Forward.ensures)) (c.forward-answer.ensures.answers l))

pub returns-in-Put-clause-left : goal.returns-in-Put-clause-left
returns-in-Put-clause-left g c =
    let v = setting g.L.Lower.deep c.args.here.now.valid.now c.args.here.now.targets.now in
    let a = c.args.arguments.now in
    let l = c.args.level.now.locals.items in
    let x = operand c.in-Put.operand in
    let is : routine_of c.args.piece.now ≡ keep c.in-Put.steps x c.in-Put.local (routine_of c.in-Put.then.value) = ap routine_of c.in-Put.is ∙ routine_of_put c.in-Put.operand c.in-Put.local c.in-Put.then c.in-Put.steps in
    let may = subst (λ r. MayRun v a l r c.args.before) is c.requires.may in
    let at : c.read-in-Put.result.now ≡ value_of a l c.in-Put.operand = c.read-in-Put.ensures.value ∙ ap (λ k. value_of a k c.in-Put.operand) c.as_slice-locals.ensures.value in
    let h : Answers v a l x c.share-answer-in-Put.result 0 = plain_answers v a l x c.share-answer-in-Put.result _ c.share-answer-in-Put.ensures.value (ap outcome.Value at) refl (λ q. c.share-answer-in-Put.ensures.quiet (subst (λ y. kind_of y ≡ kind.Text → ⊥) (sym at) q)) in
    if_ok c.kept-next.result _ _ (λ p e.
    subst (λ r. Leaves v a l r c.args.before c.kept-next.new.locals.items (routine_of p.now) (c.args.before + c.from-in-Put.result)) (sym is)
    (subst (λ r. Leaves v a l (keep c.in-Put.steps x c.in-Put.local (routine_of c.in-Put.then.value)) c.args.before c.kept-next.new.locals.items r (c.args.before + c.from-in-Put.result)) (sym (ap routine_of (e.0 ∙ c.deref-in-Put.ensures)))
    (keeps v a l x c.in-Put.steps c.args.before c.share-answer-in-Put.result 0 _ (omega (arith, c.from-in-Put.ensures)) h c.in-Put.local (routine_of c.in-Put.then.value) may c.kept-next.new.locals.items e.1))) c.kept-next.ensures.value

pub returns-in-Let-clause-left : goal.returns-in-Let-clause-left
returns-in-Let-clause-left g c =
    let v = setting g.L.Lower.deep c.args.here.now.valid.now c.args.here.now.targets.now in
    let a = c.args.arguments.now in
    let l = c.args.level.now.locals.items in
    let x = operation c.in-Let.op c.in-Let.first c.in-Let.second in
    let q = routine_of c.in-Let.then.value in
    let is : routine_of c.args.piece.now ≡ keep c.in-Let.steps x c.in-Let.local q = ap routine_of c.in-Let.is ∙ routine_of_let c.in-Let.op c.in-Let.first c.in-Let.second c.in-Let.local c.in-Let.then c.in-Let.steps in
    let may = subst (λ r. MayRun v a l r c.args.before) is c.requires.may in
    let one : c.read-first-in-Let.result.now ≡ value_of a l c.in-Let.first = c.read-first-in-Let.ensures.value ∙ ap (λ k. value_of a k c.in-Let.first) c.as_slice-locals.ensures.value in
    let other : c.read-second-in-Let.result.now ≡ value_of a l c.in-Let.second = c.read-second-in-Let.ensures.value ∙ ap (λ k. value_of a k c.in-Let.second) c.as_slice-locals.ensures.value in
    let h : Answers v a l x c.operate-answer-in-Let.result 0 = plain_answers v a l x c.operate-answer-in-Let.result _ c.operate-answer-in-Let.ensures.value (λ i. operate c.in-Let.op (one i ∷ other i ∷ [])) refl c.operate-answer-in-Let.ensures.quiet in
    if_ok c.kept-next-in-Let.result _ _ (λ p e.
    subst (λ r. Leaves v a l r c.args.before c.kept-next-in-Let.new.locals.items (routine_of p.now) (c.args.before + c.from-in-Let.result)) (sym is)
    (subst (λ r. Leaves v a l (keep c.in-Let.steps x c.in-Let.local q) c.args.before c.kept-next-in-Let.new.locals.items r (c.args.before + c.from-in-Let.result)) (sym (ap routine_of (e.0 ∙ c.deref-in-Let.ensures)))
    (keeps v a l x c.in-Let.steps c.args.before c.operate-answer-in-Let.result 0 _ (omega (arith, c.from-in-Let.ensures)) h c.in-Let.local q may c.kept-next-in-Let.new.locals.items e.1))) c.kept-next-in-Let.ensures.value

pub returns-in-Call-clause-left : goal.returns-in-Call-clause-left
returns-in-Call-clause-left g c =
    let v = setting g.L.Lower.deep c.args.here.now.valid.now c.args.here.now.targets.now in
    let a = c.args.arguments.now in
    let l = c.args.level.now.locals.items in
    let x = invocation c.in-Call.site c.in-Call.operands.items in
    let q = routine_of c.in-Call.then.value in
    let is : routine_of c.args.piece.now ≡ keep c.in-Call.steps x c.in-Call.local q = ap routine_of c.in-Call.is ∙ routine_of_call c.in-Call.site c.in-Call.operands c.in-Call.local c.in-Call.then c.in-Call.steps in
    let may = subst (λ r. MayRun v a l r c.args.before) is c.requires.may in
    let h = subst (λ os. Answers v a l (invocation c.in-Call.site os) c.invoke-answer-in-Call.result.0 c.invoke-answer-in-Call.result.1) c.deref-in-Call.ensures.value c.invoke-answer-in-Call.ensures.answers in
    let same : c.invoke-answer-in-Call.new.level.locals.items ≡ l = ap (λ (k : Vec Value Global). k.items) c.invoke-answer-in-Call.ensures.locals in
    let total = c.args.before + c.from-in-Call.result + c.invoke-answer-in-Call.result.1 in
    let k = c.kept-next-in-Call.new.locals.items in
    if_ok c.kept-next-in-Call.result _ _ (λ p e.
    subst (λ r. Leaves v a l r c.args.before k (routine_of p.now) total) (sym is)
    (subst (λ r. Leaves v a l (keep c.in-Call.steps x c.in-Call.local q) c.args.before k r total) (sym (ap routine_of (e.0 ∙ c.deref-in-Call-2.ensures)))
    (keeps v a l x c.in-Call.steps c.args.before c.invoke-answer-in-Call.result.0 c.invoke-answer-in-Call.result.1 _ (omega (arith, c.from-in-Call.ensures)) h c.in-Call.local q may k
    (λ o given. let found = e.1 o given in (found.0, found.1, found.2 ∙ ap (λ t. put t c.in-Call.local found.0) same))))) c.kept-next-in-Call.ensures.value

pub returns-in-Call-clause-ends : goal.returns-in-Call-clause-ends
returns-in-Call-clause-ends g c =
    let v = setting g.L.Lower.deep c.args.here.now.valid.now c.args.here.now.targets.now in
    let a = c.args.arguments.now in
    let l = c.args.level.now.locals.items in
    let x = invocation c.in-Call.site c.in-Call.operands.items in
    let q = routine_of c.in-Call.then.value in
    let is : routine_of c.args.piece.now ≡ keep c.in-Call.steps x c.in-Call.local q = ap routine_of c.in-Call.is ∙ routine_of_call c.in-Call.site c.in-Call.operands c.in-Call.local c.in-Call.then c.in-Call.steps in
    let may = subst (λ r. MayRun v a l r c.args.before) is c.requires.may in
    let h = subst (λ os. Answers v a l (invocation c.in-Call.site os) c.invoke-answer-in-Call.result.0 c.invoke-answer-in-Call.result.1) c.deref-in-Call.ensures.value c.invoke-answer-in-Call.ensures.answers in
    let total = c.args.before + c.from-in-Call.result + c.invoke-answer-in-Call.result.1 in
    let room = vec_capacity c.invoke-answer-in-Call.new.level.locals in
    let X : Type 0 = (c.in-Call.local < room) × IsAnswered c.invoke-answer-in-Call.result.0 in
    if_err c.kept-next-in-Call.result _ (λ t. X → IsAnswered t) _ (λ t ended memory.
    subst (λ r. Ends v a l r c.args.before t total) (sym is)
    (keep_ends v a l x c.in-Call.steps c.args.before c.invoke-answer-in-Call.result.0 c.invoke-answer-in-Call.result.1 _ (omega (arith, c.from-in-Call.ensures)) h c.in-Call.local q may t room c.invoke-answer-in-Call.ensures.open.room ended (λ below given. memory (below, given))))
    c.kept-next-in-Call.ensures.ended
    (err_given c.kept-next-in-Call.result X (λ t. IsAnswered t) (λ both. c.kept-next-in-Call.ensures.memory both.0 both.1))

pub returns-in-Go-clause-lower : goal.returns-in-Go-clause-lower
returns-in-Go-clause-lower g c =
    omega (arith, ap height c.in-Go.is ∙ lower_go c.in-Go.code c.in-Go.steps, c.entry.ensures.height ∙ ap code_height c.deref-in-Go.ensures)

pub returns-in-Switch-clause-left : goal.returns-in-Switch-clause-left
returns-in-Switch-clause-left g c =
    let v = setting g.L.Lower.deep c.args.here.now.valid.now c.args.here.now.targets.now in
    let w = c.in-Switch in
    let ts = routines w.targets.items in
    let o = routine_of (arc_value w.otherwise) in
    let q = routine_of c.switched-steps.result.0.now in
    let n = c.args.before + c.from-in-Switch.result in
    let x = argument c.args.arguments.now w.place in
    let target : q ≡ get_or ts (row_of x (arc_value w.index)) o =
    c.switched-steps.ensures.piece ∙ (λ j. get_or (routines (c.deref-in-Switch-2.ensures.value j)) (row_of x (c.deref-in-Switch.ensures j)) (routine_of (c.deref-in-Switch-3.ensures j))) in
    let steps : c.switched-steps.result.1 ≡ steps_to x (arc_value w.index) = c.switched-steps.ensures.steps ∙ ap (steps_to x) c.deref-in-Switch.ensures in
    leaves_switch c.args.piece.now w.place w.index w.targets w.otherwise w.is v c.args.arguments.now c.args.level.now.locals.items c.args.before c.requires.may q n target (omega (arith, steps, c.from-in-Switch.ensures))

pub returns-in-Switch-clause-lower : goal.returns-in-Switch-clause-lower
returns-in-Switch-clause-lower g c =
    let w = c.in-Switch in
    let h = height c.switched-steps.result.0.now in
    lower_switch c.args.piece.now w.place w.index w.targets w.otherwise w.is h
    (subst (λ n. h ≤ n) (λ j. max (highest (map (λ (t : Arc Piece Global). height (arc_value t)) (c.deref-in-Switch-2.ensures.value j))) (height (c.deref-in-Switch-3.ensures j))) c.switched-steps.ensures.lower)
