use Rattle.std.proofs.Common.{◌≡◌, ◌<◌, ℕ, List, [], ◌∷◌, ◌++◌, length, arith, sym, subst}
use Rattle.std.proofs.lemmas.Bool.{OnTrue_at, OnFalse_at}
use Rattle.mh_flow.specs.Carried.{row_at}
use Rattle.mh_flow.specs.Spreads.{IsSpread}
use Rattle.mh_flow.proofs.Spreading.{spread_more, spread_same}
use Rattle.mh_flow.proofs.Sweeping.{links_swept_on}
use Rattle.mh_flow.proofs.levels.sweep_links.Goals as goal
use Rattle.mh_flow.proofs.levels.sweep_links.Goals.{then-settle_link+in_ok-push, else-settle_link}

pub loop-row-preserved : goal.loop-row-preserved
loop-row-preserved c =
    let inside : c.loop-row.row < length c.args.rows.now = omega (arith, c.loop-row-test.true, c.loop-row.auto.row-end) in
    let spread : IsSpread c.args.links.now c.settle_link.new.links [] c.if-settle_link.lowered.items =
    elim c.if-settle_link.branch [
      | then-settle_link+in_ok-push w ↦
          let items : c.if-settle_link.lowered.items ≡ c.loop-row.lowered.items ++ (row_at c.args.rows.now c.loop-row.row).link ∷ [] = rw w.lowered-is w.in_ok-push.ensures.items in
          subst (λ (xs : List ℕ). IsSpread c.args.links.now c.settle_link.new.links [] xs) (sym items)
          (spread_more _ _ _ _ _ (row_at c.args.rows.now c.loop-row.row).link c.loop-row.invariant.spread c.settle_link.ensures.links (OnTrue_at w.if-settle_link.true c.settle_link.ensures.less)
          c.settle_link.ensures.others (c.loop-row.invariant.levels.range.link_range c.loop-row.row _ inside))
      | else-settle_link w ↦ rw w.lowered-is (spread_same _ _ _ _ _ c.loop-row.invariant.spread (OnFalse_at w.if-settle_link.false c.settle_link.ensures.same))
    ] in
    links_swept_on _ _ _ _ _ _ _ _ _ c.loop-row.invariant
    c.settle_link.ensures.levels c.settle_link.ensures.links c.settle_link.ensures.settled spread
