-- Gains and costs that may be wrong by a factor.
use Rattle.std.specs.Prelude.{ℕ, ◌*◌, ◌≡◌, ◌≤◌, Bool, true, false, length}
use Rattle.mh_network.specs.Problems.{ProblemData, cost_of, needs_point}
use Rattle.mh_network.specs.Selection.{IsBest, IsLeast}
use Rattle.mh_network.specs.Scales.{net_of, scaled}

-- net gains and costs that differ from others by at most a factor, in thousandths, each on its own
pub record IsWithinFactor (gain_factor cost_factor : ℕ) (P Q : ProblemData) : Type 0 where
  pub links : length P.links ≡ length Q.links
  pub points : length P.costs ≡ length Q.costs
  pub needs : (j p : ℕ) → needs_point P j p ≡ needs_point Q j p
  pub gains : (j : ℕ) → (1000 * net_of P j ≤ gain_factor * net_of Q j) × (1000 * net_of Q j ≤ gain_factor * net_of P j)
  pub costs : (p : ℕ) → (1000 * cost_of P p ≤ cost_factor * cost_of Q p) × (1000 * cost_of Q p ≤ cost_factor * cost_of P p)

-- links that P chooses at a scale of both factors, Q chooses; those that P leaves out at costs as many times smaller, Q leaves out
pub record AreSure (gain_factor cost_factor : ℕ) (P Q : ProblemData) : Type 0 where
  pub chosen : (k : ℕ) → gain_factor * cost_factor ≤ 1000 * k → (S T : ℕ → Bool) → IsLeast (scaled P k) S → IsBest Q T → (j : ℕ) → S j ≡ true → T j ≡ true
  pub left : (k : ℕ) → gain_factor * cost_factor * k ≤ 1000000000 → (S T : ℕ → Bool) → IsBest (scaled P k) S → IsLeast Q T → (j : ℕ) → S j ≡ false → T j ≡ false
