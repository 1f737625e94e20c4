-- Sets of links that a flow cuts off.
use Rattle.std.specs.Prelude.{ℕ, ◌+◌, ◌≡◌, ◌<◌, List, Bool, true, false, All, length, pos, ◌+ℤ◌}
use Rattle.mh_network.specs.Problems.{ProblemData, gain_of, charge_of, cost_of, needs_point, sum_of_gains}
use Rattle.mh_network.specs.Selection.{Row, Charge, AllEligible, IsFlow, IsLeast, from_link, into_charge, into_point, union_of_needs, value_of, worth}

-- the links and points that can be reached: links with a gain left over, points that a link in the set needs, and links that pay for a
-- point in the set
pub record IsClosed (P : ProblemData) (rows : List Row) (charges : List Charge) (links points : ℕ → Bool) : Type 0 where
  pub spare : (j : ℕ) → j < length P.links → from_link rows j + into_charge charges j < gain_of P j → links j ≡ true
  pub forward : (j p : ℕ) → needs_point P j p ≡ true → links j ≡ true → points p ≡ true
  pub backward : All (λ r. 0 < r.2 → points r.1 ≡ true → links r.0 ≡ true) rows

-- and all costs of the points and all charges of the links are paid
pub record IsCut (P : ProblemData) (rows : List Row) (charges : List Charge) (links : ℕ → Bool) : Type 0 where
  pub eligible : AllEligible P links
  pub closed : IsClosed P rows charges links (union_of_needs P links)
  pub full : (p : ℕ) → union_of_needs P links p ≡ true → into_point rows p ≡ cost_of P p
  pub charged : (j : ℕ) → links j ≡ true → into_charge charges j ≡ charge_of P j

-- a cut that is in every closed set is worth what the flow leaves of all gains, and is least best
abbrev pub CutsAreLeast : ProblemData → Type 0
CutsAreLeast P = (rows : List Row) → (charges : List Charge) → IsFlow P rows charges → (S : ℕ → Bool) → IsCut P rows charges S →
    ((links points : ℕ → Bool) → IsClosed P rows charges links points → (j : ℕ) → S j ≡ true → links j ≡ true) →
    (worth P S +ℤ pos (value_of rows charges) ≡ pos (sum_of_gains P)) × IsLeast P S

-- if links and a flow add up to all gains, a link that is left out spends its whole gain on its charge and on points
abbrev pub LeftSpendAll : ProblemData → Type 0
LeftSpendAll P = (rows : List Row) → (charges : List Charge) → IsFlow P rows charges → (S : ℕ → Bool) → worth P S +ℤ pos (value_of rows charges) ≡ pos (sum_of_gains P) →
    (j : ℕ) → S j ≡ false → from_link rows j + into_charge charges j ≡ gain_of P j
