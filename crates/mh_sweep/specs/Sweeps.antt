-- The links that are open between two scales of costs, and the scale up to which each is chosen.
use Rattle.std.specs.Prelude.{ℕ, ◌+◌, ◌*◌, ◌≡◌, ◌≤◌, ◌<◌, List, Bool, true, slice_index_or}
use Rattle.mh_network.specs.declared.part.Part.{Part}
use Rattle.mh_network.specs.Limits.{greatest_sum}
use Rattle.mh_network.specs.Problems.{ProblemData, sum_of_costs}
use Rattle.mh_network.specs.Selection.{IsLeast, member}
use Rattle.mh_network.specs.Blocks.{IsBlock, IsEnd}
use Rattle.mh_network.specs.Scales.{scaled}

-- the number of a list at a place, 0 past its end
abbrev pub number_at : List ℕ → ℕ → ℕ
number_at xs j = slice_index_or xs j 0

-- the block between the least best links of two scales
pub record IsOpen (P : ProblemData) (first last : ℕ) (part : Part) (low high : ℕ → Bool) : Type 0 where
  pub least : IsLeast (scaled P first) low
  pub end : IsEnd P last high
  pub within : (j : ℕ) → high j ≡ true → low j ≡ true
  pub block : IsBlock P low high part

-- each link of a list has a number past the first and at most the last
abbrev pub AreBetween : ℕ → ℕ → List ℕ → List ℕ → Type 0
AreBetween first last links until = (j : ℕ) → member links j ≡ true → (first < number_at until j) × (number_at until j ≤ last)

-- the greatest scale, up to a thousand times the costs, at which this sum of costs is within the greatest sum
pub record IsMostFor (costs most : ℕ) : Type 0 where
  pub bound : most ≤ 1000000
  pub within : most * costs ≤ greatest_sum
  pub greatest : most < 1000000 → greatest_sum < (most + 1) * costs

abbrev pub IsMost : ProblemData → ℕ → Type 0
IsMost P most = IsMostFor (sum_of_costs P) most
