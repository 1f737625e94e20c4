-- What one link gains and one point costs is within the sums of all.
use Rattle.std.proofs.Common.{◌≡◌, ℕ, suc, ◌≤◌, ◌<◌, ◌-◌, ◌*◌, List, Bool, true, false, cond, refl, arith, sym, ap, inl, inr, length, map, [], ◌∷◌}
use Rattle.std.proofs.lemmas.Bool.{cases_Bool}
use Rattle.mh_network.specs.declared.link_row.LinkRow.{LinkRow}
use Rattle.mh_network.specs.declared.part.Part.{Part}
use Rattle.mh_network.specs.Sums.{sum_below}
use Rattle.mh_network.specs.Problems.{IsProblem, ProblemData, cost_of, gain_of, kept_gain, kept_row, link_at, problem_of, sum_of_costs, sum_of_gains}
use Rattle.mh_network.specs.Scales.{net_of}
use Rattle.mh_network.specs.Blocks.{block_row, scaled_block}
use Rattle.mh_network.specs.Laws.SumLaws.{sum_below-up}

term_within : (n : ℕ) (f : ℕ → ℕ) (i : ℕ) → i < n → f i ≤ sum_below n f
term_within n f i l =
    let upto : sum_below (suc i) f ≤ sum_below n f = sum_below-up n (suc i) f (omega arith) in
    omega (arith, upto)

pub cost_within : (P : ProblemData) (p : ℕ) → p < length P.costs → cost_of P p ≤ sum_of_costs P
cost_within P p l = term_within (length P.costs) (cost_of P) p l

pub gain_within : (P : ProblemData) (j : ℕ) → j < length P.links → gain_of P j ≤ sum_of_gains P
gain_within P j l = term_within (length P.links) (gain_of P) j l

gain_kept : (r : LinkRow) → (r.eligible ≡ false → r.gain ≡ 0) → kept_gain r ≡ r.gain
gain_kept r none = elim (cases_Bool r.eligible) [
  | inl e ↦ rw e refl
  | inr e ↦ rw e (sym (none e))
]

-- a problem keeps no gain of a link that is not eligible
pub net_is : (P : ProblemData) → IsProblem P → (j : ℕ) → net_of P j ≡ gain_of P j - (link_at P j).charge
net_is P problem j = ap (λ g. g - (link_at P j).charge) (gain_kept (link_at P j) (problem.ineligible j))

kept_net : (b : Bool) (g c : ℕ) → cond b (1000 * (cond b g 0 - c)) 0 ≡ 1000 * (cond b g 0 - c)
kept_net true g c = refl
kept_net false g c = omega arith

row_kept : (P : ProblemData) (part : Part) (j : ℕ) → kept_row (block_row P part j) ≡ block_row P part j
row_kept P part j =
    ap (λ (g : ℕ). record { gain = g; eligible = (link_at P j).eligible; needs = (block_row P part j).needs; charge = 0 })
    (kept_net (link_at P j).eligible (link_at P j).gain (link_at P j).charge)

rows_kept : (P : ProblemData) (part : Part) (links : List ℕ) → map kept_row (map (block_row P part) links) ≡ map (block_row P part) links
rows_kept P part [] = refl
rows_kept P part (j ∷ links) = λ i. row_kept P part j i ∷ rows_kept P part links i

-- the rows and costs of a block are those that a problem keeps
pub block_kept : (P : ProblemData) (part : Part) (k : ℕ) → problem_of (map (block_row P part) part.links) (map (λ p. k * cost_of P p) part.points) ≡ scaled_block P k part
block_kept P part k = ap (λ rows. record { links = rows; costs = map (λ p. k * cost_of P p) part.points }) (rows_kept P part part.links)
