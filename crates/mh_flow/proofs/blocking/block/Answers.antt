use Rattle.std.proofs.Common.{◌≡◌, ◌<◌, ◌∙◌, ap, length, arith, ℕ, suc, sym, refl, subst, List}
use Rattle.mh_flow.specs.LayerData.{IsEnd}
use Rattle.mh_flow.proofs.Blocked.{blocking_searched, blocking_pushed}
use Rattle.mh_flow.proofs.blocking.block.Goals as goal

pub loop-run-preserved : goal.loop-run-preserved
loop-run-preserved c =
    let same : c.search.new.path.point ≡ c.loop-point.point = c.search.ensures.point ∙ c.loop-run.invariant.point in
    let inside : c.search.new.path.point < length c.loop-run.run.points =
    omega (arith, same, c.loop-point-test.true, c.points-point-end.ensures.count, ap (λ (xs : List ℕ). length xs) c.loop-run.invariant.blocking.same.points) in
    record {
      blocking = blocking_pushed _ _ _ _ _ _ _ (blocking_searched _ _ _ _ _ _ _ c.loop-run.invariant.blocking c.in_ok-search.ensures.spent c.in_ok-search.ensures.lower)
          c.push_path.ensures.pushed c.push_path.ensures.kept inside;
      point = same;
      pushes = (
        suc c.loop-run.invariant.pushes.0,
        (
          c.loop-run.run,
          c.loop-run.invariant.pushes.1,
          record {
            point = c.search.new.path.point;
            turns = c.search.new.path.turns.items;
            first = c.search.new.path.first;
            path = rw c.search.ensures.point (rw c.if-branch.true at c.in_ok-search.ensures.found);
            end = subst (λ (q : ℕ). IsEnd c.loop-run.run q) (sym same) (c.loop-run-test.ensures.value.0 refl);
            sent = c.push_path.ensures.sent;
          },
        ),
      );
    }
