-- The rows of a problem, as they are kept.
use Rattle.std.proofs.Common.{◌≡◌, ◌<◌, ◌∙◌, ℕ, zero, suc, ◌+◌, List, [], ◌∷◌, ◌++◌, ap, refl, arith, length, map, take, drop}
use Rattle.std.specs.List.{slice_index_or, slice_set}
use Rattle.std.proofs.lemmas.List.{get_or_default}
use Rattle.mh_network.specs.declared.link_row.LinkRow.{LinkRow}
use Rattle.mh_network.specs.Problems.{IsProblem, kept_gain, kept_row, no_link, problem_tests, large_tests}
use Rattle.mh_base.specs.Tests.{Passes}
use Rattle.mh_network.specs.Laws.Kept.{tested_problem, large_problem}

-- rows that pass all tests make a problem
pub kept_problem : (rows : List LinkRow) (costs : List ℕ) (kept : List LinkRow) (copied : List ℕ) → Passes (problem_tests rows costs) → kept ≡ map kept_row rows → copied ≡ costs
    → IsProblem record { links = kept; costs = copied }
kept_problem rows costs kept copied h e same = rw (e, same) (tested_problem rows costs h)

pub kept_large : (rows : List LinkRow) (costs : List ℕ) (kept : List LinkRow) (copied : List ℕ) → Passes (large_tests rows costs) → kept ≡ map kept_row rows → copied ≡ costs
    → IsProblem record { links = kept; costs = copied }
kept_large rows costs kept copied h e same = rw (e, same) (large_problem rows costs h)

next_at : (rows : List LinkRow) (i : ℕ) → i < length rows → slice_index_or (map kept_row (take i rows) ++ drop i rows) i no_link ≡ slice_index_or rows i no_link
next_at [] i l = absurd (omega (arith, l))
next_at (row ∷ rows) zero l = refl
next_at (row ∷ rows) (suc i) l = next_at rows i (omega (arith, l))

next_kept : (rows : List LinkRow) (i : ℕ) → i < length rows
    → slice_set (map kept_row (take i rows) ++ drop i rows) i (kept_row (slice_index_or rows i no_link)) ≡ map kept_row (take (suc i) rows) ++ drop (suc i) rows
next_kept [] i l = absurd (omega (arith, l))
next_kept (row ∷ rows) zero l = refl
next_kept (row ∷ rows) (suc i) l = ap (λ (rest : List LinkRow). kept_row row ∷ rest) (next_kept rows i (omega (arith, l)))

count_kept : (rows : List LinkRow) (i : ℕ) → length (map kept_row (take i rows) ++ drop i rows) ≡ length rows
count_kept [] zero = refl
count_kept [] (suc i) = refl
count_kept (row ∷ rows) zero = refl
count_kept (row ∷ rows) (suc i) = ap suc (count_kept rows i)

-- a row that was read twice, and is kept
pub kept_twice : (rows kept : List LinkRow) (i : ℕ) (read written : LinkRow) (gain : ℕ) → i < length rows → kept ≡ map kept_row (take i rows) ++ drop i rows
    → read ≡ slice_index_or kept i read → written ≡ slice_index_or kept i written → gain ≡ kept_gain read
    → record { gain = gain; eligible = written.eligible; needs = written.needs; charge = written.charge } ≡ kept_row (slice_index_or kept i no_link)
kept_twice rows kept i read written gain l e first second known =
    let inside : i < length kept = omega (arith, l, ap length e, count_kept rows i) in
    let here : read ≡ slice_index_or kept i no_link = first ∙ get_or_default kept i read no_link inside in
    let there : written ≡ slice_index_or kept i no_link = second ∙ get_or_default kept i written no_link inside in
    rw (known, here, there) refl

-- one more row is kept in its place
pub kept_more : (rows kept : List LinkRow) (i : ℕ) (row : LinkRow) → i < length rows → kept ≡ map kept_row (take i rows) ++ drop i rows → row ≡ kept_row (slice_index_or kept i no_link)
    → slice_set kept i row ≡ map kept_row (take (i + 1) rows) ++ drop (i + 1) rows
kept_more rows kept i row l e same =
    let up : i + 1 ≡ suc i = omega arith in
    let here : kept_row (slice_index_or kept i no_link) ≡ kept_row (slice_index_or rows i no_link) = rw e (ap kept_row (next_at rows i l)) in
    rw (up, same ∙ here, e) (next_kept rows i l)
