-- Levels: the distances of links and points from the source.
use Rattle.std.specs.Prelude.{ℕ, ◌+◌, ◌≡◌, ◌≤◌, ◌<◌, List, length, ◌⊎◌}
use Rattle.std.specs.Prelude.{count_by, nat_lt}
use Rattle.std.specs.List.{All}
use Rattle.mh_flow.specs.declared.need_row.NeedRow.{NeedRow}
use Rattle.mh_flow.specs.Carried.{row_at, number_at}

-- the level of a node that is not reached
abbrev pub far : ℕ
far = 4294967295

-- each level but the first has a row that leads to it from a lower one
pub record IsSupported (rows : List NeedRow) (gain_left links points : List ℕ) : Type 0 where
  pub link_rows : (j : ℕ) → j < length links → number_at links j < far →
      ((number_at links j ≡ 1) × (0 < number_at gain_left j))
      ⊎ ((k : ℕ) × (k < length rows) × ((row_at rows k).link ≡ j) × (0 < (row_at rows k).amount) × (number_at points (row_at rows k).point + 1 ≤ number_at links j))
  pub point_rows : (p : ℕ) → p < length points → number_at points p < far →
      ((k : ℕ) × (k < length rows) × ((row_at rows k).point ≡ p) × (number_at links (row_at rows k).link + 1 ≤ number_at points p))

-- no row leads up by more than one level
abbrev pub IsSettledForth : NeedRow → List ℕ → List ℕ → Type 0
IsSettledForth row links points = number_at links row.link < far → number_at points row.point ≤ number_at links row.link + 1

abbrev pub IsSettledBack : NeedRow → List ℕ → List ℕ → Type 0
IsSettledBack row links points = 0 < row.amount → number_at points row.point < far → number_at links row.link ≤ number_at points row.point + 1

pub record IsSettledRow (row : NeedRow) (links points : List ℕ) : Type 0 where
  pub forth : IsSettledForth row links points
  pub back : IsSettledBack row links points

pub record IsLower (old new : List ℕ) : Type 0 where
  pub length : length new ≡ length old
  pub lower : (k : ℕ) → number_at new k ≤ number_at old k

pub record IsInRange (rows : List NeedRow) (links points : List ℕ) : Type 0 where
  pub link_range : All (λ r. r.link < length links) rows
  pub point_range : All (λ r. r.point < length points) rows

abbrev pub reached_count : List ℕ → ℕ
reached_count levels = count_by (λ v. nat_lt v far) levels

-- no level is above the number of nodes that are reached
pub record IsBounded (links points : List ℕ) : Type 0 where
  pub link_levels : (j : ℕ) → number_at links j < far → number_at links j ≤ reached_count links + reached_count points
  pub point_levels : (p : ℕ) → number_at points p < far → number_at points p ≤ reached_count links + reached_count points

-- levels that paths from the source have
pub record ArePathLevels (rows : List NeedRow) (gain_left links points : List ℕ) : Type 0 where
  pub range : IsInRange rows links points
  pub supported : IsSupported rows gain_left links points
  pub bounded : IsBounded links points
