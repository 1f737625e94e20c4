-- What bounds the sums of a plan.
use Rattle.std.proofs.Common.{◌≡◌, ◌+◌, ◌≤◌, ◌<◌, ℕ, List, Bool, true, false, cond, length, arith, refl, sym, ◌∙◌, ap, inl, inr, take}
use Rattle.std.specs.Prelude.{◌==◌}
use Rattle.std.proofs.Math.Path.{fun_ext}
use Rattle.std.proofs.lemmas.List.Folds.{list_any_at, Any-from_list_any}
use Rattle.std.specs.List.{All, list_any, slice_index_or}
use Rattle.std.proofs.lemmas.Bool.{cases_lt, true≢false, eq-eqb, cond-true}
use Rattle.std.proofs.lemmas.List.{get_or_past}
use Rattle.mh_network.specs.declared.link_row.LinkRow.{LinkRow}
use Rattle.std.proofs.lemmas.List.Sums.{sum_by_more_le}
use Rattle.mh_network.specs.Sums.{amount_at}
use Rattle.mh_network.specs.Problems.{ProblemData, IsProblem, link_at, gain_of, cost_of, needs_point, no_link}
use Rattle.mh_network.specs.Selection.{member, union_of_needs, cost_sum}
use Rattle.mh_cert.specs.Plans.{IsUnion}

-- past the last there is no gain and no cost
pub no_gain : (P : ProblemData) (j : ℕ) → length P.links ≤ j → gain_of P j ≡ 0
no_gain P j h = ap (λ (l : LinkRow). l.gain) (get_or_past P.links j no_link h)

pub no_cost : (P : ProblemData) (p : ℕ) → length P.costs ≤ p → cost_of P p ≡ 0
no_cost P p h = get_or_past P.costs p 0 h

-- an eligible link is a link of the problem
pub eligible-in_range : (P : ProblemData) (j : ℕ) → (link_at P j).eligible ≡ true → j < length P.links
eligible-in_range P j h =
    elim (cases_lt j (length P.links)) [
      | inl m ↦ m
      | inr m ↦ absurd (true≢false (sym h ∙ ap (λ (l : LinkRow). l.eligible) (get_or_past P.links j no_link m)))
    ]

pub links_in_range : (P : ProblemData) (links : List ℕ) → All (λ j. (link_at P j).eligible ≡ true) links → All (λ j. j < length P.links) links
links_in_range P links h = λ k d l. eligible-in_range P (slice_index_or links k d) (h k d l)

-- the points that a link needs are points of the problem
pub needs_in_range : (P : ProblemData) → IsProblem P → (j : ℕ) → All (λ p. p < length P.costs) (link_at P j).needs
needs_in_range P problem j = λ k d l.
    problem.in_range j (slice_index_or (link_at P j).needs k d)
    (list_any_at (λ q. q == slice_index_or (link_at P j).needs k d) (link_at P j).needs k d l (eq-eqb (slice_index_or (link_at P j).needs k d) _ refl))

-- the points that links need are points of the problem
pub points_in_range : (P : ProblemData) → IsProblem P → (links points : List ℕ) → ((p : ℕ) → member points p ≡ list_any (λ j. needs_point P j p) links) → All (λ p. p < length P.costs) points
points_in_range P problem links points same = λ k d l.
    let p : ℕ = slice_index_or points k d in
    let listed : member points p ≡ true = list_any_at (λ q. q == p) points k d l (eq-eqb p p refl) in
    let needing = Any-from_list_any (λ j. needs_point P j p) links (sym (same p) ∙ listed) in
    problem.in_range needing.1 p needing.4

-- the union that a plan lists costs what the needs of its links cost
pub listed_cost : (P : ProblemData) (links points : List ℕ) → IsUnion P links points → cost_sum P (member points) ≡ cost_sum P (union_of_needs P (member links))
listed_cost P links points union = ap (cost_sum P) (fun_ext union.same)

-- numbers of which each is marked are below the number of marks
pub marked_below : (numbers : List ℕ) (marks : List Bool) → ((p : ℕ) → member numbers p ≡ slice_index_or marks p false) → All (λ p. p < length marks) numbers
marked_below numbers marks same = λ k d l.
    let p : ℕ = slice_index_or numbers k d in
    let yes : slice_index_or marks p false ≡ true = sym (same p) ∙ list_any_at (λ q. q == p) numbers k d l (eq-eqb p p refl) in
    elim (cases_lt p (length marks)) [
      | inl m ↦ m
      | inr m ↦ absurd (true≢false (sym yes ∙ get_or_past marks p false m))
    ]

-- where a row carries more than what the rows before it leave at its end, all rows carry more there than there was
pub exceeds : {X : Type 0} (key amount : X → ℕ) (o : X) (rows : List X) (i at spare most : ℕ) → i < length rows → at ≡ key (slice_index_or rows i o) →
    spare + amount_at key amount (take i rows) at ≡ most → spare < amount (slice_index_or rows i o) → amount_at key amount rows at ≤ most → ⊥
exceeds {X} key amount o rows i at spare most l e left more within =
    let row : X = slice_index_or rows i o in
    let whole : amount_at key amount (take i rows) at + cond (key row == at) (amount row) 0 ≤ amount_at key amount rows at =
    sum_by_more_le (λ (r : X). cond (key r == at) (amount r) 0) rows i o l in
    let here : cond (key row == at) (amount row) 0 ≡ amount row = cond-true (key row == at) (amount row) 0 (eq-eqb (key row) at (sym e)) in
    omega arith
