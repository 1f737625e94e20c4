use Rattle.std.proofs.Common.{◌≡◌, ◌<◌, ℕ, List, [], ◌∷◌, ◌++◌, length, arith, sym, subst}
use Rattle.std.proofs.lemmas.Bool.{OnTrue_at, OnFalse_at}
use Rattle.mh_flow.specs.Carried.{row_at}
use Rattle.mh_flow.specs.Spreads.{IsSpread}
use Rattle.mh_flow.proofs.Spreading.{spread_more, spread_same}
use Rattle.mh_flow.proofs.Sweeping.{points_swept_on}
use Rattle.mh_flow.proofs.levels.sweep_points.Goals as goal
use Rattle.mh_flow.proofs.levels.sweep_points.Goals.{then-settle_point+in_ok-push, else-settle_point}

pub loop-row-preserved : goal.loop-row-preserved
loop-row-preserved c =
    let inside : c.loop-row.row < length c.args.rows.now = omega (arith, c.loop-row-test.true, c.loop-row.auto.row-end) in
    let spread : IsSpread c.args.points.now c.settle_point.new.points [] c.if-settle_point.lowered.items =
    elim c.if-settle_point.branch [
      | then-settle_point+in_ok-push w ↦
          let items : c.if-settle_point.lowered.items ≡ c.loop-row.lowered.items ++ (row_at c.args.rows.now c.loop-row.row).point ∷ [] = rw w.lowered-is w.in_ok-push.ensures.items in
          subst (λ (xs : List ℕ). IsSpread c.args.points.now c.settle_point.new.points [] xs) (sym items)
          (spread_more _ _ _ _ _ (row_at c.args.rows.now c.loop-row.row).point c.loop-row.invariant.spread c.settle_point.ensures.points (OnTrue_at w.if-settle_point.true c.settle_point.ensures.less)
          c.settle_point.ensures.others (c.loop-row.invariant.levels.range.point_range c.loop-row.row _ inside))
      | else-settle_point w ↦ rw w.lowered-is (spread_same _ _ _ _ _ c.loop-row.invariant.spread (OnFalse_at w.if-settle_point.false c.settle_point.ensures.same))
    ] in
    points_swept_on _ _ _ _ _ _ _ _ _ c.loop-row.invariant
    c.settle_point.ensures.levels c.settle_point.ensures.points c.settle_point.ensures.settled spread
