-- Weak duality: no set of links gains more, beyond what its points cost, than a flow leaves.
use Rattle.std.proofs.Common.{◌≡◌, ℕ, ◌+◌, ◌≤◌, List, Bool, true, false, cond, refl, arith, sym}
use Rattle.std.specs.List.{sum_by, All}
use Rattle.std.specs.Prelude.{not}
use Rattle.std.proofs.lemmas.Bool.{true≢false}
use Rattle.mh_network.specs.Sums.{sum_below, kept}
use Rattle.mh_network.specs.Laws.Net.{Net, out_of, into, value, IsFeasible}
use Rattle.mh_network.specs.Laws.SumLaws.{sum_below-le, sum_below-split, sum_by-le-All, sum_by-split, sum_by_keys}

-- every row of a link of S leads to a point of U
pub record IsCover {X : Type 0} (n : Net X) (rows : List X) (S U : ℕ → Bool) : Type 0 where
  pub covers : All (λ r. S (n.link r) ≡ true → U (n.point r) ≡ true) rows

cond-le : (b c : Bool) (a : ℕ) → (b ≡ true → c ≡ true) → cond b a 0 ≤ cond c a 0
cond-le true true a h = omega arith
cond-le true false a h = absurd (true≢false (sym (h refl)))
cond-le false c a h = omega arith

kept-le : (S : ℕ → Bool) (f g : ℕ → ℕ) (k : ℕ) → f k ≤ g k → kept S f k ≤ kept S g k
kept-le S f g k h = elim (S k) as (λ b. cond b (f k) 0 ≤ cond b (g k) 0) [ true ↦ h | false ↦ omega arith ]

-- the value, split by the links of S
pub value-parts : {X : Type 0} (n : Net X) (rows : List X) (S U : ℕ → Bool) → IsFeasible n rows →
    (sum_by (λ r. cond (S (n.link r)) (n.amount r) 0) rows + sum_below n.links (kept (λ k. not (S k)) (out_of n rows)) ≡ value n rows)
    × (sum_by (λ r. cond (U (n.point r)) (n.amount r) 0) rows ≡ sum_below n.points (kept U (into n rows)))
value-parts n rows S U f = (
  omega (arith, sum_by-split (λ r. S (n.link r)) n.amount rows, sum_by_keys n.link n.amount (λ k. not (S k)) n.links rows f.links),
  sum_by_keys n.point n.amount U n.points rows f.points,
)

pub weak_duality : {X : Type 0} (n : Net X) (rows : List X) (S U : ℕ → Bool) → IsFeasible n rows → IsCover n rows S U →
    sum_below n.links (kept S n.gain) + value n rows ≤ sum_below n.links n.gain + sum_below n.points (kept U n.cost)
weak_duality n rows S U f c =
    let parts = value-parts n rows S U f in
    let first : sum_by (λ r. cond (S (n.link r)) (n.amount r) 0) rows ≤ sum_by (λ r. cond (U (n.point r)) (n.amount r) 0) rows =
    sum_by-le-All _ _ rows (λ k d l. cond-le _ _ _ (c.covers k d l)) in
    let second : sum_below n.points (kept U (into n rows)) ≤ sum_below n.points (kept U n.cost) =
    sum_below-le n.points _ _ (λ p l. kept-le U (into n rows) n.cost p (f.costs p l)) in
    let third : sum_below n.links (kept (λ k. not (S k)) (out_of n rows)) ≤ sum_below n.links (kept (λ k. not (S k)) n.gain) =
    sum_below-le n.links _ _ (λ k l. kept-le (λ i. not (S i)) (out_of n rows) n.gain k (f.gains k l)) in
    let whole : sum_below n.links (kept S n.gain) + sum_below n.links (kept (λ k. not (S k)) n.gain) ≡ sum_below n.links n.gain =
    sum_below-split n.links S n.gain in
    let one = parts.0 in
    let two = parts.1 in
    omega (arith, one, two)
