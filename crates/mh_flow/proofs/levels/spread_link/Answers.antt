use Rattle.std.proofs.Common.{◌≡◌, ◌<◌, ◌-◌, ℕ, List, [], ◌∷◌, ◌++◌, length, arith, sym, subst}
use Rattle.std.proofs.lemmas.Bool.{OnTrue_at, OnFalse_at}
use Rattle.mh_flow.specs.Carried.{row_at}
use Rattle.mh_flow.specs.Chains.{IsLastBelow}
use Rattle.mh_flow.specs.Spreads.{link_key, IsSpread}
use Rattle.mh_flow.proofs.Chaining.{before_read}
use Rattle.mh_flow.proofs.Spreading.{link_spread_on, spread_more, spread_same}
use Rattle.mh_flow.proofs.levels.spread_link.Goals as goal
use Rattle.mh_flow.proofs.levels.spread_link.Goals.{then-settle_point+in_ok-push, else-settle_point}

pub loop-at-preserved : goal.loop-at-preserved
loop-at-preserved c =
    let inside : c.loop-at.at - 1 < length c.args.rows.now = omega (arith, c.loop-at.invariant.walked.within, c.loop-at-test.true) in
    let next : IsLastBelow (link_key c.args.rows.now) (link_key c.args.rows.now (c.loop-at.at - 1)) (c.loop-at.at - 1) c.index-at-in-loop-at.result.now =
    before_read _ _ _ _ _ _ _ c.requires.indexed.by_link inside c.index-at-in-loop-at.ensures in
    let spread : IsSpread c.args.points.now c.settle_point.new.points c.args.lowered.now.items c.if-settle_point.lowered.items =
    elim c.if-settle_point.branch [
      | then-settle_point+in_ok-push w ↦
          let items : c.if-settle_point.lowered.items ≡ c.loop-at.lowered.items ++ (row_at c.args.rows.now (c.loop-at.at - 1)).point ∷ [] = rw w.lowered-is w.in_ok-push.ensures.items in
          subst (λ (xs : List ℕ). IsSpread c.args.points.now c.settle_point.new.points c.args.lowered.now.items xs) (sym items)
          (spread_more _ _ _ _ _ (row_at c.args.rows.now (c.loop-at.at - 1)).point c.loop-at.invariant.spread c.settle_point.ensures.points (OnTrue_at w.if-settle_point.true c.settle_point.ensures.less)
          c.settle_point.ensures.others (c.loop-at.invariant.levels.range.point_range (c.loop-at.at - 1) _ inside))
      | else-settle_point w ↦ rw w.lowered-is (spread_same _ _ _ _ _ c.loop-at.invariant.spread (OnFalse_at w.if-settle_point.false c.settle_point.ensures.same))
    ] in
    link_spread_on _ _ _ _ _ _ _ _ _ _ _ _ c.loop-at.invariant c.loop-at-test.true next
    c.settle_point.ensures.levels c.settle_point.ensures.points c.settle_point.ensures.settled spread
