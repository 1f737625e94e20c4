use Rattle.std.proofs.Common.{◌≡◌, ◌<◌, ◌-◌, ℕ, List, [], ◌∷◌, ◌++◌, length, arith, sym, subst}
use Rattle.std.proofs.lemmas.Bool.{OnTrue_at, OnFalse_at}
use Rattle.mh_flow.specs.Carried.{row_at}
use Rattle.mh_flow.specs.Chains.{IsLastBelow}
use Rattle.mh_flow.specs.Spreads.{point_key, IsSpread}
use Rattle.mh_flow.proofs.Chaining.{before_read}
use Rattle.mh_flow.proofs.Spreading.{point_spread_on, spread_more, spread_same}
use Rattle.mh_flow.proofs.levels.spread_point.Goals as goal
use Rattle.mh_flow.proofs.levels.spread_point.Goals.{then-settle_link+in_ok-push, else-settle_link}

pub loop-at-preserved : goal.loop-at-preserved
loop-at-preserved c =
    let inside : c.loop-at.at - 1 < length c.args.rows.now = omega (arith, c.loop-at.invariant.walked.within, c.loop-at-test.true) in
    let next : IsLastBelow (point_key c.args.rows.now) (point_key c.args.rows.now (c.loop-at.at - 1)) (c.loop-at.at - 1) c.index-at-in-loop-at.result.now =
    before_read _ _ _ _ _ _ _ c.requires.indexed.by_point inside c.index-at-in-loop-at.ensures in
    let spread : IsSpread c.args.links.now c.settle_link.new.links c.args.lowered.now.items c.if-settle_link.lowered.items =
    elim c.if-settle_link.branch [
      | then-settle_link+in_ok-push w ↦
          let items : c.if-settle_link.lowered.items ≡ c.loop-at.lowered.items ++ (row_at c.args.rows.now (c.loop-at.at - 1)).link ∷ [] = rw w.lowered-is w.in_ok-push.ensures.items in
          subst (λ (xs : List ℕ). IsSpread c.args.links.now c.settle_link.new.links c.args.lowered.now.items xs) (sym items)
          (spread_more _ _ _ _ _ (row_at c.args.rows.now (c.loop-at.at - 1)).link c.loop-at.invariant.spread c.settle_link.ensures.links (OnTrue_at w.if-settle_link.true c.settle_link.ensures.less)
          c.settle_link.ensures.others (c.loop-at.invariant.levels.range.link_range (c.loop-at.at - 1) _ inside))
      | else-settle_link w ↦ rw w.lowered-is (spread_same _ _ _ _ _ c.loop-at.invariant.spread (OnFalse_at w.if-settle_link.false c.settle_link.ensures.same))
    ] in
    point_spread_on _ _ _ _ _ _ _ _ _ _ _ _ c.loop-at.invariant c.loop-at-test.true next
    c.settle_link.ensures.levels c.settle_link.ensures.links c.settle_link.ensures.settled spread
