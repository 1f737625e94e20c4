-- The invariant of a run of the flow, from its start to its end.
use Rattle.std.specs.Prelude.{ℕ, zero, suc, ◌+◌, ◌≡◌, ◌≤◌, ◌<◌, List, [], ◌++◌, length, true, Bool, ◌&&◌, nat_lt, cond, map, filter, AllPairs, All}
use Rattle.mh_network.specs.Problems.{ProblemData, needs_point, gain_of, cost_of, link_at}
use Rattle.mh_network.specs.Selection.{Row, IsBefore}
use Rattle.mh_flow.specs.declared.need_row.NeedRow.{NeedRow}
use Rattle.mh_flow.specs.Carried.{row_at, number_at, out_of_link, into_point}
use Rattle.mh_flow.specs.Charged.{paid_of}
use Rattle.mh_flow.specs.Levels.{far, ArePathLevels, IsSettledRow}

-- the needs of the links below n, by link and then point, with the amount 0
abbrev pub needs_below : ProblemData → ℕ → List NeedRow
needs_below P zero = []
needs_below P (suc n) = needs_below P n ++ map (λ p. record { link = n; point = p; amount = 0 }) (link_at P n).needs

abbrev pub row_of : NeedRow → Row
row_of r = (r.link, r.point, r.amount)

-- ordered by link, and then by point
abbrev pub IsOrdered : List NeedRow → Type 0
IsOrdered rows = AllPairs (λ r s. IsBefore (row_of r) (row_of s)) rows

-- the invariant of a run of the flow
pub record IsRun (P : ProblemData) (rows : List NeedRow) (gain_left cost_left : List ℕ) : Type 0 where
  pub needed : All (λ r. needs_point P r.link r.point ≡ true) rows
  pub ordered : IsOrdered rows
  pub complete : (j p : ℕ) → needs_point P j p ≡ true → (k : ℕ) × (k < length rows) × ((row_at rows k).link ≡ j) × ((row_at rows k).point ≡ p)
  pub link_count : length gain_left ≡ length P.links
  pub point_count : length cost_left ≡ length P.costs
  pub gains : (j : ℕ) → number_at gain_left j + (out_of_link rows j + paid_of P j) ≡ gain_of P j
  pub costs : (p : ℕ) → number_at cost_left p + into_point rows p ≡ cost_of P p

-- levels of the links and points that the source reaches over edges with residual capacity
pub record IsLayered (rows : List NeedRow) (gain_left links points : List ℕ) : Type 0 where
  pub link_count : length gain_left ≡ length links
  pub levels : ArePathLevels rows gain_left links points
  pub settled : (k : ℕ) → k < length rows → IsSettledRow (row_at rows k) links points
  pub spare : (j : ℕ) → 0 < number_at gain_left j → number_at links j ≤ 1

abbrev pub start_level : ℕ → ℕ
start_level left = cond (nat_lt 0 left) 1 far

-- the links that are reached
abbrev pub is_reached : List ℕ → ℕ → Bool
is_reached levels j = nat_lt j (length levels) && nat_lt (number_at levels j) far

-- the rows with a positive amount
abbrev pub positive_rows : List NeedRow → List Row
positive_rows rows = map row_of (filter (λ r. nat_lt 0 r.amount) rows)
