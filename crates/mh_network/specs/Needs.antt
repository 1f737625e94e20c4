-- The needs of links.
use Rattle.std.specs.Prelude.{ℕ, ◌≡◌, ◌<◌, Bool, true, length}
use Rattle.mh_network.specs.Problems.{ProblemData, needs_point}
use Rattle.mh_network.specs.Selection.{union_of_needs}

-- only links of the problem need a point, and the needs of a set of links are those of the links in it
pub record AreNeeds (P : ProblemData) : Type 0 where
  pub inside : (j p : ℕ) → needs_point P j p ≡ true → j < length P.links
  pub some : (S : ℕ → Bool) (p : ℕ) → union_of_needs P S p ≡ true → (j : ℕ) × (S j ≡ true) × (needs_point P j p ≡ true)
  pub each : (S : ℕ → Bool) (j p : ℕ) → S j ≡ true → needs_point P j p ≡ true → union_of_needs P S p ≡ true
