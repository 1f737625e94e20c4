-- Costs at each scale: problems that ask less, and the scale up to which each link is chosen.
use Rattle.std.specs.Prelude.{ℕ, ◌-◌, ◌*◌, ◌≡◌, ◌≤◌, Bool, true, length, map, nat_lt}
use Rattle.mh_network.specs.declared.link_row.LinkRow.{LinkRow}
use Rattle.mh_network.specs.Sums.{kept, sum_below}
use Rattle.mh_network.specs.Problems.{ProblemData, cost_of, kept_gain, link_at, needs_point}
use Rattle.mh_network.specs.Selection.{IsBest, IsLeast, cost_sum, union_of_needs}

-- the gain of a link beyond its charge, which is 0 if it is not eligible
abbrev pub net_gain : LinkRow → ℕ
net_gain r = kept_gain r - r.charge

abbrev pub net_of : ProblemData → ℕ → ℕ
net_of P j = net_gain (link_at P j)

-- the gains of the links of S beyond their charges, and the costs of the points that they need
abbrev pub net_sum : ProblemData → (ℕ → Bool) → ℕ
net_sum P S = sum_below (length P.links) (kept S (net_of P))

abbrev pub paid : ProblemData → (ℕ → Bool) → ℕ
paid P S = cost_sum P (union_of_needs P S)

-- P asks no more than Q for the gains of its links: the same needs, net gains at least as great, costs at most as great
pub record IsCheaper (P Q : ProblemData) : Type 0 where
  pub links : length P.links ≡ length Q.links
  pub points : length P.costs ≡ length Q.costs
  pub needs : (j p : ℕ) → needs_point P j p ≡ needs_point Q j p
  pub gains : (j : ℕ) → net_of Q j ≤ net_of P j
  pub costs : (p : ℕ) → cost_of P p ≤ cost_of Q p

-- the links that are chosen if more is asked are chosen in each best set if less is asked
abbrev pub DearerNest : ProblemData → ProblemData → Type 0
DearerNest P Q = (S T : ℕ → Bool) → IsBest P S → IsLeast Q T → (j : ℕ) → T j ≡ true → S j ≡ true

-- the problem with a times its net gains, with no charges, and b times its costs
abbrev pub weighed_row : ℕ → LinkRow → LinkRow
weighed_row a r = record { gain = a * net_gain r; eligible = r.eligible; needs = r.needs; charge = 0 }

abbrev pub weighed : ProblemData → ℕ → ℕ → ProblemData
weighed P a b = record { links = map (weighed_row a) P.links; costs = map (λ c. b * c) P.costs }

-- the problem at k thousandths of its costs
abbrev pub scaled : ProblemData → ℕ → ProblemData
scaled P k = weighed P 1000 k

-- the scale up to which each link is chosen: at each scale up to the greatest, the links with a greater number are least best
abbrev pub IsUntil : ProblemData → ℕ → (ℕ → ℕ) → Type 0
IsUntil P most until = (k : ℕ) → k ≤ most → IsLeast (scaled P k) (λ j. nat_lt k (until j))

-- no links whose points cost no more have a greater gain beyond their charges
abbrev pub IsMostForCost : ProblemData → (ℕ → Bool) → Type 0
IsMostForCost P S = (T : ℕ → Bool) → paid P T ≤ paid P S → net_sum P T ≤ net_sum P S
