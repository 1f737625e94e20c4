use Rattle.std.proofs.Common.{◌≡◌, ◌+◌, ◌∷◌, [], ◌∙◌, ap, sym, subst, refl, arith}
use Rattle.mh_code.specs.PieceOf.{routine_of, routines}
use Rattle.mh_code.specs.Rows.{row_of, steps_to}
use Rattle.mh_tree.specs.Meaning.{argument}
use Rattle.std.specs.Arc.{arc_value}
use Rattle.std.specs.Prelude.{get_or, map, max, ◌≤◌}
use Rattle.std.specs.declared.alloc.Global.{Global}
use Rattle.std.specs.declared.sync.Arc.{Arc}
use Rattle.mh_type.specs.declared.outcome.Outcome.TheVariants as outcome
use Rattle.mh_code.specs.Height.{height, highest}
use Rattle.mh_code.specs.Routine.{keep, operand, operation}
use Rattle.mh_code.specs.declared.code.Piece.{Piece}
use Rattle.mh_run.specs.inner.Runs.{Goes, MayGo}
use Rattle.mh_run.proofs.Pieces.{routine_of_let, routine_of_put}
use Rattle.mh_run.proofs.Sources.{goes_put}
use Rattle.mh_run.proofs.Switches.{goes_switch, lower_switch, own_switch}
use Rattle.mh_run.proofs.advancing.advance.Goals as goal
use Rattle.mh_tree.specs.Running.{value_of}
use Rattle.mh_tree.specs.Sites.{setting}
use Rattle.mh_type.specs.Operations.{operate}

pub returns-else-not-calculate-clause-on : goal.returns-else-not-calculate-clause-on
returns-else-not-calculate-clause-on g c =
    let v = setting g.level c.args.here.now.valid.now c.args.here.now.targets.now in
    let a = c.args.arguments.now in
    let l = c.args.locals.now.items in
    let q = routine_of c.in-Let.then.value in
    let x = operation c.in-Let.op c.in-Let.first c.in-Let.second in
    let k = c.calculate.new.locals.items in
    let n = c.args.before + c.from-in-Let.result in
    let is : routine_of c.args.piece.now ≡ keep c.in-Let.steps x c.in-Let.local q = ap routine_of c.in-Let.is ∙ routine_of_let c.in-Let.op c.in-Let.first c.in-Let.second c.in-Let.local c.in-Let.then c.in-Let.steps in
    let may = subst (λ r. MayGo v a l r c.args.before) is c.requires.0 in
    subst (λ r. Goes v a l r c.args.before k (routine_of c.deref-in-Let.result.now) n) (sym is)
    (subst (λ r. Goes v a l (keep c.in-Let.steps x c.in-Let.local q) c.args.before k r n) (sym (ap routine_of c.deref-in-Let.ensures))
    (goes_put v a l x c.in-Let.steps c.args.before c.in-Let.local q k n (omega (arith, c.from-in-Let.ensures)) refl
    (operate c.in-Let.op (value_of a l c.in-Let.first ∷ value_of a l c.in-Let.second ∷ [])) refl (c.if-not-calculate.ensures.value refl) may))

pub returns-else-not-copy-clause-on : goal.returns-else-not-copy-clause-on
returns-else-not-copy-clause-on g c =
    let v = setting g.level c.args.here.now.valid.now c.args.here.now.targets.now in
    let a = c.args.arguments.now in
    let l = c.args.locals.now.items in
    let q = routine_of c.in-Put.then.value in
    let x = operand c.in-Put.operand in
    let k = c.copy.new.locals.items in
    let n = c.args.before + c.from-in-Put.result in
    let is : routine_of c.args.piece.now ≡ keep c.in-Put.steps x c.in-Put.local q = ap routine_of c.in-Put.is ∙ routine_of_put c.in-Put.operand c.in-Put.local c.in-Put.then c.in-Put.steps in
    let may = subst (λ r. MayGo v a l r c.args.before) is c.requires.0 in
    subst (λ r. Goes v a l r c.args.before k (routine_of c.deref-in-Put.result.now) n) (sym is)
    (subst (λ r. Goes v a l (keep c.in-Put.steps x c.in-Put.local q) c.args.before k r n) (sym (ap routine_of c.deref-in-Put.ensures))
    (goes_put v a l x c.in-Put.steps c.args.before c.in-Put.local q k n (omega (arith, c.from-in-Put.ensures)) refl
    (outcome.Value (value_of a l c.in-Put.operand)) refl (c.if-not-copy.ensures.value refl) may))

pub overflow_add-result-in-Switch : goal.overflow_add-result-in-Switch
overflow_add-result-in-Switch g c =
    let v = setting g.level c.args.here.now.valid.now c.args.here.now.targets.now in
    let w = c.in-Switch in
    let x = argument c.args.arguments.now w.place in
    let steps : c.switched-steps.result.1 ≡ steps_to x (arc_value w.index) = c.switched-steps.ensures.steps ∙ ap (steps_to x) c.deref.ensures in
    omega (arith, steps, own_switch c.args.piece.now w.place w.index w.targets w.otherwise w.is v c.args.arguments.now c.args.locals.now.items c.args.before c.requires.0)

pub returns-in-Switch-clause-on : goal.returns-in-Switch-clause-on
returns-in-Switch-clause-on g c =
    let v = setting g.level c.args.here.now.valid.now c.args.here.now.targets.now in
    let w = c.in-Switch in
    let ts = routines w.targets.items in
    let o = routine_of (arc_value w.otherwise) in
    let q = routine_of c.switched-steps.result.0.now in
    let n = c.args.before + c.switched-steps.result.1 in
    let x = argument c.args.arguments.now w.place in
    let target : q ≡ get_or ts (row_of x (arc_value w.index)) o =
    c.switched-steps.ensures.piece ∙ (λ j. get_or (routines (c.deref-in-Switch.ensures.value j)) (row_of x (c.deref.ensures j)) (routine_of (c.deref-in-Switch-2.ensures j))) in
    let steps : c.switched-steps.result.1 ≡ steps_to x (arc_value w.index) = c.switched-steps.ensures.steps ∙ ap (steps_to x) c.deref.ensures in
    goes_switch c.args.piece.now w.place w.index w.targets w.otherwise w.is v c.args.arguments.now c.args.locals.now.items c.args.before c.requires.0 q n target (omega (arith, steps))

pub returns-in-Switch-clause-lower : goal.returns-in-Switch-clause-lower
returns-in-Switch-clause-lower g c =
    let w = c.in-Switch in
    let h = height c.switched-steps.result.0.now in
    lower_switch c.args.piece.now w.place w.index w.targets w.otherwise w.is h
    (subst (λ n. h ≤ n) (λ j. max (highest (map (λ (t : Arc Piece Global). height (arc_value t)) (c.deref-in-Switch.ensures.value j))) (height (c.deref-in-Switch-2.ensures j))) c.switched-steps.ensures.lower)
