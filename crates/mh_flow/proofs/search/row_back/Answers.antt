use Rattle.std.proofs.Common.{◌≡◌, ◌<◌, ◌+◌, ◌-◌, ℕ, length, arith, sym, ap, inl, inr}
use Rattle.mh_flow.specs.Carried.{number_at, row_at}
use Rattle.mh_flow.specs.inner.Spent.{IsSpentBack}
use Rattle.mh_flow.proofs.Chaining.{before_read}
use Rattle.mh_flow.proofs.Searching.{spent_link}
use Rattle.mh_flow.proofs.search.row_back.Goals as goal
use Rattle.mh_flow.proofs.search.row_back.Goals.{else-row-gt0-via-then-row-gt0+then-points-point+else-point_rows-point-gt0, else-row-gt0-via-then-row-gt0+else-points-point, else-row-gt0-via-else-row-gt0}

pub loop-link_rows-preserved : goal.loop-link_rows-preserved
loop-link_rows-preserved c =
    let back : ℕ = number_at c.loop-link_rows.link_rows c.args.link - 1 in
    let place : number_at c.loop-link_rows.link_rows c.args.link ≡ back + 1 = omega (arith, c.loop-link_rows-test.true) in
    let this = c.loop-link_rows.invariant.link_place c.args.link back (sym place) in
    let level : number_at c.args.links.now (row_at c.args.rows.now back).link ≡ number_at c.args.links.now c.args.link = ap (number_at c.args.links.now) this.1 in
    let spent : IsSpentBack c.args.rows.now c.args.links.now c.args.points.now c.args.point_rows.now back = elim c.else-row-gt0.branch [
      | else-row-gt0-via-then-row-gt0+then-points-point+else-point_rows-point-gt0 w ↦ inr (inr (omega (arith, w.if-point_rows-point-gt0.false)))
      | else-row-gt0-via-then-row-gt0+else-points-point w ↦ inr (inl (omega (arith, w.if-points-point.false, level)))
      | else-row-gt0-via-else-row-gt0 w ↦ inl (omega (arith, w.if-row-gt0.false))
    ] in
    let inside : c.args.link < length c.loop-link_rows.link_rows = omega (arith, c.requires.link, c.loop-link_rows.invariant.link_count) in
    spent_link _ _ _ _ _ _ c.args.link back c.index.result.now c.loop-link_rows.invariant inside place spent
    (before_read _ _ _ _ _ back _ c.requires.indexed.by_link this.0 c.index.ensures)
