use Rattle.std.proofs.Common.{◌≡◌, ◌+◌, ◌-◌, ◌≤◌, ◌∙◌, ap, sym, subst, arith, length, [], take, ℕ, List, Bor}
use Rattle.std.proofs.lemmas.List.{get_or_default}
use Rattle.std.specs.Prelude.{slice_index_or}
use Rattle.mh_code.specs.PieceOf.{routine_of}
use Rattle.mh_code.specs.Routine.{Routine, give, invocation}
use Rattle.mh_code.specs.RoutineOf.{handle_routine}
use Rattle.mh_code.specs.inner.Runs.{weight}
use Rattle.mh_run.specs.inner.Runs.{Goes, GoesOn}
use Rattle.mh_run.proofs.Pieces.{routine_of_forward}
use Rattle.mh_run.proofs.Reaching.{reach_bounds, reach_deep, reach_room, reach_site, reach_there}
use Rattle.mh_run.proofs.forwarding.reach.Goals as goal
use Rattle.mh_tree.specs.Handle.{TypedTree, IsSound}
use Rattle.mh_tree.specs.Prepared.{leading_arguments}
use Rattle.mh_tree.specs.Sites.{setting, target_at}
use Rattle.mh_type.specs.declared.value.Value.{Value}

pub slice_bounds-left-end : goal.slice_bounds-left-end
slice_bounds-left-end c =
    let valid = c.args.here.now.valid.now in
    let ts = c.args.here.now.targets.now in
    let left = c.loop-site.left in
    let last = c.lead-reached.result in
    let f = c.in-Forward in
    let is : routine_of last.piece.now ≡ give f.steps (invocation f.site (leading_arguments f.count)) = ap routine_of f.is ∙ routine_of_forward f.site f.count f.steps in
    let d = 4 - left.depth in
    let goes = subst (λ r. Goes (setting d valid ts) left.arguments.now [] (routine_of left.piece.now) left.total [] r last.total) is c.lead-reached.ensures.on in
    subst (λ (b : Bor (List Value)). f.count ≡ length (take f.count b.now)) (sym c.lead-reached.ensures.arguments)
    (reach_bounds (setting 4 valid ts) c.args.arguments.now (routine_of c.args.piece.now) 0 d valid ts left.arguments.now (routine_of left.piece.now) left.total c.loop-site.invariant.1
    f.steps f.site f.count last.total (last.total + f.steps) goes (omega arith) c.loop-site.invariant.2)

pub loop-site-preserved : goal.loop-site-preserved
loop-site-preserved c =
    let valid = c.args.here.now.valid.now in
    let ts = c.args.here.now.targets.now in
    let left = c.loop-site.left in
    let last = c.lead-reached.result in
    let f = c.in-Forward in
    let is : routine_of last.piece.now ≡ give f.steps (invocation f.site (leading_arguments f.count)) = ap routine_of f.is ∙ routine_of_forward f.site f.count f.steps in
    let d = 4 - left.depth in
    let goes = subst (λ r. Goes (setting d valid ts) left.arguments.now [] (routine_of left.piece.now) left.total [] r last.total) is c.lead-reached.ensures.on in
    let total : last.total + c.from.result ≡ last.total + f.steps = omega (arith, c.from.ensures) in
    let there = reach_there (setting 4 valid ts) c.args.arguments.now (routine_of c.args.piece.now) 0 d valid ts left.arguments.now (routine_of left.piece.now) left.total c.loop-site.invariant.1 f.steps f.site f.count last.total (last.total + c.from.result) goes total c.loop-site.invariant.2 in
    let deep : 1 ≤ d = reach_deep (setting 4 valid ts) c.args.arguments.now (routine_of c.args.piece.now) 0 d valid ts left.arguments.now (routine_of left.piece.now) left.total c.loop-site.invariant.1 f.steps f.site f.count last.total (last.total + c.from.result) goes total c.loop-site.invariant.2 in
    let same : slice_index_or ts f.site c.index-here-site.result ≡ target_at ts f.site = get_or_default ts f.site c.index-here-site.result _ there in
    let sound = subst (λ (h : TypedTree). IsSound h.tree h.signature) same c.code.ensures.sound in
    let kept : routine_of c.entry.result.now ≡ handle_routine (target_at ts f.site) = c.entry.ensures.value ∙ c.code.ensures.value ∙ ap handle_routine same in
    let level : d - 1 ≡ 4 - (last.depth + 1) = omega (arith, c.lead-reached.ensures.depth) in
    let on = reach_site (setting 4 valid ts) c.args.arguments.now (routine_of c.args.piece.now) 0 d valid ts left.arguments.now (routine_of left.piece.now) left.total c.loop-site.invariant.1 f.steps f.site f.count last.total (last.total + c.from.result) goes total c.loop-site.invariant.2 sound in
    let room = reach_room (setting 4 valid ts) c.args.arguments.now (routine_of c.args.piece.now) 0 d valid ts left.arguments.now (routine_of left.piece.now) left.total c.loop-site.invariant.1 f.steps f.site f.count last.total (last.total + c.from.result) goes total c.loop-site.invariant.2 sound in
    let Reaches : ℕ → List Value → Routine → Type 0 = λ e b r. GoesOn (setting 4 valid ts) c.args.arguments.now (routine_of c.args.piece.now) 0 (setting e valid ts) b r (last.total + c.from.result) in (
      omega (arith, deep, c.lead-reached.ensures.depth),
      subst (λ (b : Bor (List Value)). Reaches (4 - (last.depth + 1)) (take f.count b.now) (routine_of c.entry.result.now)) (sym c.lead-reached.ensures.arguments)
          (subst (Reaches (4 - (last.depth + 1)) (take f.count left.arguments.now)) (sym kept)
          (subst (λ e. Reaches e (take f.count left.arguments.now) (handle_routine (target_at ts f.site))) level on)),
      omega (arith, ap (weight 0) kept, level, room),
    )
