-- A run when it begins, and after a push.
use Rattle.std.proofs.Common.{◌≡◌, ◌+◌, ◌<◌, ◌≤◌, ◌-◌, ℕ, List, length, arith, refl, sym, ◌∙◌, ap, subst, get_or, inl, inr, true}
use Rattle.std.specs.Prelude.{map, All, slice_set, replicate}
use Rattle.std.proofs.lemmas.Grind.{common_steps}
use Rattle.std.proofs.lemmas.Bool.{cases_lt}
use Rattle.std.proofs.Math.ListN.{get_or-map}
use Rattle.std.proofs.lemmas.List.{length-map, get_or_past}
use Rattle.std.proofs.lemmas.List.Elements.{All-map}
use Rattle.mh_network.specs.Needs.{AreNeeds}
use Rattle.mh_network.specs.Problems.{ProblemData, IsProblem, needs_point, gain_of, cost_of}
use Rattle.mh_flow.specs.declared.need_row.NeedRow.{NeedRow}
use Rattle.mh_flow.specs.Carried.{row_at, no_row, number_at}
use Rattle.mh_flow.specs.Charged.{paid_of}
use Rattle.mh_flow.specs.Chains.{IsChained}
use Rattle.mh_flow.specs.Paths.{IsPushed}
use Rattle.mh_flow.specs.Levels.{IsInRange, far}
use Rattle.mh_flow.specs.Run.{IsRun, needs_below}
use Rattle.mh_flow.specs.inner.Spent.{IsSpent}
use Rattle.mh_flow.specs.Spreads.{link_key, point_key}
use Rattle.mh_flow.specs.LayerData.{IsLayerRun}
use Rattle.mh_flow.proofs.Chaining.{chained_same}
use Rattle.mh_flow.proofs.Runs.{below-needed, run_pushed}
use Rattle.mh_flow.proofs.Answered.{run_new}

-- rows are chained as their keys are
pub rows_chained : (f : NeedRow → ℕ) (rows : List NeedRow) (keys last before : List ℕ) (count : ℕ) → f no_row ≡ 0 → keys ≡ map f rows → IsChained (number_at keys) (length keys) count last before →
    IsChained (λ k. f (row_at rows k)) (length rows) count last before
rows_chained f rows keys last before count none e h =
    let same : (k : ℕ) → number_at keys k ≡ f (row_at rows k) = λ k.
    ap (λ (xs : List ℕ). number_at xs k) e ∙ (ap (λ (d : ℕ). get_or (map f rows) k d) (sym none) ∙ get_or-map f rows k no_row) in
    let long : length keys ≡ length rows = ap length e ∙ length-map rows f in
    subst (λ (n : ℕ). IsChained (λ k. f (row_at rows k)) n count last before) long (chained_same (number_at keys) (λ k. f (row_at rows k)) (length keys) count last before same h)

pub keys_inside : (f : NeedRow → ℕ) (rows : List NeedRow) (keys : List ℕ) (count : ℕ) → keys ≡ map f rows → All (λ r. f r < count) rows → All (λ k. k < count) keys
keys_inside f rows keys count e h = subst (λ (xs : List ℕ). All (λ k. k < count) xs) (sym e) (All-map (λ k. k < count) f rows h)

pub links_inside : (P : ProblemData) (rows : List NeedRow) → AreNeeds P → rows ≡ needs_below P (length P.links) → All (λ r. r.link < length P.links) rows
links_inside P rows needs e =
    let needed : All (λ r. needs_point P r.link r.point ≡ true) rows = subst (λ (xs : List NeedRow). All (λ r. needs_point P r.link r.point ≡ true) xs) (sym e) (below-needed P (length P.links)) in
    λ k d l. needs.inside _ _ (needed k d l)

pub points_inside : (P : ProblemData) (rows : List NeedRow) → IsProblem P → rows ≡ needs_below P (length P.links) → All (λ r. r.point < length P.costs) rows
points_inside P rows problem e =
    let needed : All (λ r. needs_point P r.link r.point ≡ true) rows = subst (λ (xs : List NeedRow). All (λ r. needs_point P r.link r.point ≡ true) xs) (sym e) (below-needed P (length P.links)) in
    λ k d l. problem.in_range _ _ (needed k d l)

-- a push leaves the places of rows
pub pushed_indexed : (old new : List NeedRow) (left left' : List ℕ) (links points : ℕ → ℕ) (top p d : ℕ) (f : NeedRow → ℕ) (count : ℕ) (last before : List ℕ) → IsPushed old new left left' links points top p d →
    ((k : ℕ) → f (row_at old k) ≡ f (row_at new k)) → IsChained (λ k. f (row_at old k)) (length old) count last before → IsChained (λ k. f (row_at new k)) (length new) count last before
pushed_indexed old new left left' links points top p d f count last before pushed same h =
    subst (λ (n : ℕ). IsChained (λ k. f (row_at new k)) n count last before) (sym pushed.length)
    (chained_same (λ k. f (row_at old k)) (λ k. f (row_at new k)) (length old) count last before same h)

pub pushed_run : (P : ProblemData) (old new : List NeedRow) (left left' cost_left : List ℕ) (links points : ℕ → ℕ) (top p d limit w : ℕ) → IsRun P old left cost_left →
    IsPushed old new left left' links points top p d → length left' ≡ length left → p < length cost_left → d ≤ limit → limit ≡ number_at cost_left p → w ≡ number_at cost_left p →
    IsRun P new left' (slice_set cost_left p (w - d))
pushed_run P old new left left' cost_left links points top p d limit w run pushed same inside m read written =
    subst (λ (v : ℕ). IsRun P new left' (slice_set cost_left p (v - d))) (sym written)
    (run_pushed P old new left left' cost_left links points top p d run pushed same inside (omega arith))

-- before the first row is tried
pub fresh : (rows : List NeedRow) (left links points ll lb pl pb : List ℕ) → IsChained (link_key rows) (length rows) (length links) ll lb → IsChained (point_key rows) (length rows) (length points) pl pb → IsInRange rows links points →
    IsSpent rows left links points ll pl
fresh rows left links points ll lb pl pb by_link by_point range =
    let link_low : (j : ℕ) → number_at ll j ≤ length rows = λ j. elim (cases_lt j (length links)) [
      | inl l ↦ (by_link.lasts j l).within
      | inr past ↦ omega (arith, get_or_past ll j 0 (omega (arith, past, by_link.last_count)))
    ] in
    let point_low : (p : ℕ) → number_at pl p ≤ length rows = λ p. elim (cases_lt p (length points)) [
      | inl l ↦ (by_point.lasts p l).within
      | inr past ↦ omega (arith, get_or_past pl p 0 (omega (arith, past, by_point.last_count)))
    ] in
    record {
      link_count = by_link.last_count;
      point_count = by_point.last_count;
      link_within = link_low;
      point_within = point_low;
      link_place = λ j k e. elim (cases_lt j (length links)) [
        | inl l ↦ (omega (arith, link_low j, e), (by_link.lasts j l).here k e)
        | inr past ↦ absurd (omega (arith, get_or_past ll j 0 (omega (arith, past, by_link.last_count)), e))
      ];
      point_place = λ p k e. elim (cases_lt p (length points)) [
        | inl l ↦ (omega (arith, point_low p, e), (by_point.lasts p l).here k e)
        | inr past ↦ absurd (omega (arith, get_or_past pl p 0 (omega (arith, past, by_point.last_count)), e))
      ];
      forth = λ k l m. absurd ((by_point.lasts (row_at rows k).point (range.point_range k no_row l)).none k m l refl);
      back = λ k l m. absurd ((by_link.lasts (row_at rows k).link (range.link_range k no_row l)).none k m l refl);
    }

replicated : (n : ℕ) → length (replicate n far) ≡ n
replicated n = grind (arith, common_steps)

pub begun : (P : ProblemData) (rows : List NeedRow) (left cost_left links points : List ℕ) → AreNeeds P → IsProblem P → rows ≡ needs_below P (length P.links) →
    length left ≡ length P.links → ((j : ℕ) → j < length left → number_at left j + paid_of P j ≡ gain_of P j) → length cost_left ≡ length P.costs → ((p : ℕ) → p < length cost_left → number_at cost_left p ≡ cost_of P p) →
    links ≡ replicate (length P.links) far → points ≡ replicate (length P.costs) far →
    IsLayerRun record { problem = P; rows = rows; gain_left = left; cost_left = cost_left; links = links; points = points; sink = far; phases = 0 }
begun P rows left cost_left links points needs problem e gain_count gains cost_count costs l p = record {
  known = problem;
  run = subst (λ (xs : List NeedRow). IsRun P xs left cost_left) (sym e) (run_new P left cost_left needs problem gain_count cost_count gains costs);
  link_levels = ap length l ∙ replicated (length P.links);
  point_levels = ap length p ∙ replicated (length P.costs);
}
