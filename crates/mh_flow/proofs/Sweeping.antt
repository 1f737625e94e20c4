-- Levels go down along all rows, one after another.
use Rattle.std.proofs.Common.{◌≡◌, ◌<◌, ◌+◌, ℕ, List, [], arith, sym, subst, inl, inr}
use Rattle.std.proofs.lemmas.Bool.{cases_lt}
use Rattle.mh_flow.specs.declared.need_row.NeedRow.{NeedRow}
use Rattle.mh_flow.specs.Carried.{row_at}
use Rattle.mh_flow.specs.Levels.{ArePathLevels, IsSettledForth, IsSettledBack, IsLower}
use Rattle.mh_flow.specs.Spreads.{IsSpread}
use Rattle.mh_flow.proofs.Spreading.{forth_lower, back_lower}

-- the rows below n are settled
pub record IsPointsSwept (rows : List NeedRow) (left links p0 p1 lowered : List ℕ) (n : ℕ) : Type 0 where
  pub levels : ArePathLevels rows left links p1
  pub spread : IsSpread p0 p1 [] lowered
  pub passed : (k : ℕ) → k < n → IsSettledForth (row_at rows k) links p1

pub record IsLinksSwept (rows : List NeedRow) (left points p0 p1 lowered : List ℕ) (n : ℕ) : Type 0 where
  pub levels : ArePathLevels rows left p1 points
  pub spread : IsSpread p0 p1 [] lowered
  pub passed : (k : ℕ) → k < n → IsSettledBack (row_at rows k) p1 points

pub points_swept_on : (rows : List NeedRow) (left links p0 p1 p2 l1 l2 : List ℕ) (n : ℕ) → IsPointsSwept rows left links p0 p1 l1 n →
    ArePathLevels rows left links p2 → IsLower p1 p2 → IsSettledForth (row_at rows n) links p2 → IsSpread p0 p2 [] l2 → IsPointsSwept rows left links p0 p2 l2 (n + 1)
points_swept_on rows left links p0 p1 p2 l1 l2 n h levels lower settled spread = record {
  levels = levels;
  spread = spread;
  passed = λ k l. elim (cases_lt k n) [
    | inl m ↦ forth_lower (row_at rows k) links p1 p2 lower (h.passed k m)
    | inr m ↦ let e : k ≡ n = omega (arith, l, m) in subst (λ (i : ℕ). IsSettledForth (row_at rows i) links p2) (sym e) settled
  ];
}

pub links_swept_on : (rows : List NeedRow) (left points p0 p1 p2 l1 l2 : List ℕ) (n : ℕ) → IsLinksSwept rows left points p0 p1 l1 n →
    ArePathLevels rows left p2 points → IsLower p1 p2 → IsSettledBack (row_at rows n) p2 points → IsSpread p0 p2 [] l2 → IsLinksSwept rows left points p0 p2 l2 (n + 1)
links_swept_on rows left points p0 p1 p2 l1 l2 n h levels lower settled spread = record {
  levels = levels;
  spread = spread;
  passed = λ k l. elim (cases_lt k n) [
    | inl m ↦ back_lower (row_at rows k) p1 p2 points lower (h.passed k m)
    | inr m ↦ let e : k ≡ n = omega (arith, l, m) in subst (λ (i : ℕ). IsSettledBack (row_at rows i) p2 points) (sym e) settled
  ];
}
