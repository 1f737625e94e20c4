use Rattle.std.proofs.Common.{◌≡◌, ◌+◌, ◌-◌, ◌∙◌, ap, subst, arith, []}
use Rattle.std.specs.Prelude.{get_or, map, max, ◌≤◌}
use Rattle.std.specs.Arc.{arc_value}
use Rattle.std.specs.declared.alloc.Global.{Global}
use Rattle.std.specs.declared.sync.Arc.{Arc}
use Rattle.mh_code.specs.Height.{height, highest}
use Rattle.mh_code.specs.PieceOf.{routine_of, routines}
use Rattle.mh_code.specs.Rows.{row_of, steps_to}
use Rattle.mh_code.specs.declared.code.Piece.{Piece}
use Rattle.mh_run.proofs.Switches.{goes_switch, lower_switch, own_switch}
use Rattle.mh_run.proofs.advancing.choose.Goals as goal
use Rattle.mh_tree.specs.Meaning.{argument}
use Rattle.mh_tree.specs.Sites.{setting}

pub overflow_add-result-in-Switch : goal.overflow_add-result-in-Switch
overflow_add-result-in-Switch c =
    let v = setting (4 - c.args.reached.depth) c.args.here.now.valid.now c.args.here.now.targets.now in
    let w = c.in-Switch in
    let x = argument c.args.reached.arguments.now w.place in
    let steps : c.switched-steps.result.1 ≡ steps_to x (arc_value w.index) = c.switched-steps.ensures.steps ∙ ap (steps_to x) c.deref.ensures in
    omega (arith, steps, own_switch c.args.reached.piece.now w.place w.index w.targets w.otherwise w.is v c.args.reached.arguments.now [] c.args.reached.total c.requires.may)

pub returns-in-Switch-clause-on : goal.returns-in-Switch-clause-on
returns-in-Switch-clause-on c =
    let v = setting (4 - c.args.reached.depth) c.args.here.now.valid.now c.args.here.now.targets.now in
    let w = c.in-Switch in
    let ts = routines w.targets.items in
    let o = routine_of (arc_value w.otherwise) in
    let q = routine_of c.switched-steps.result.0.now in
    let n = c.args.reached.total + c.switched-steps.result.1 in
    let x = argument c.args.reached.arguments.now w.place in
    let target : q ≡ get_or ts (row_of x (arc_value w.index)) o =
    c.switched-steps.ensures.piece ∙ (λ j. get_or (routines (c.deref-in-Switch.ensures.value j)) (row_of x (c.deref.ensures j)) (routine_of (c.deref-in-Switch-2.ensures j))) in
    let steps : c.switched-steps.result.1 ≡ steps_to x (arc_value w.index) = c.switched-steps.ensures.steps ∙ ap (steps_to x) c.deref.ensures in
    goes_switch c.args.reached.piece.now w.place w.index w.targets w.otherwise w.is v c.args.reached.arguments.now [] c.args.reached.total c.requires.may q n target (omega (arith, steps))

pub returns-in-Switch-clause-lower : goal.returns-in-Switch-clause-lower
returns-in-Switch-clause-lower c =
    let w = c.in-Switch in
    let h = height c.switched-steps.result.0.now in
    lower_switch c.args.reached.piece.now w.place w.index w.targets w.otherwise w.is h
    (subst (λ n. h ≤ n) (λ j. max (highest (map (λ (t : Arc Piece Global). height (arc_value t)) (c.deref-in-Switch.ensures.value j))) (height (c.deref-in-Switch-2.ensures j))) c.switched-steps.ensures.lower)
