-- The tests of rows and costs, each with its fault and the place of it.
use Rattle.std.specs.Prelude.{ℕ, ◌+◌, ◌≤◌, ◌<◌, List, All, Option, MatchOption, length, slice_index_or}
use Rattle.std.specs.List.{AllWithin, HoldsAt, range_with_len}
use Rattle.std.specs.List.Sorted.{IsStrictlyIncreasing}
use Rattle.mh_base.specs.Listed.{tests_of_each}
use Rattle.mh_base.specs.Tests.{Tests, no_more, test, only, nothing}
use Rattle.mh_network.specs.declared.link_row.LinkRow.{LinkRow}
use Rattle.mh_network.specs.declared.fault.ProblemFault.{ProblemFault}
use Rattle.mh_network.specs.declared.fault.ProblemFault.TheVariants.{NoMemory, GainTooLarge, CostTooLarge, NeedOutOfRange, NeedsNotAscending, TooManyLinks, TooManyPoints, TooManyNeeds}
use Rattle.mh_network.specs.declared.place.ProblemMisfit.{ProblemMisfit}
use Rattle.mh_network.specs.declared.place.ProblemPlace.{ProblemPlace}
use Rattle.mh_network.specs.declared.place.ProblemPlace.TheVariants.{Whole, Links, Points, Needs}
use Rattle.mh_base.specs.Limits.{most_needs}
use Rattle.mh_network.specs.Limits.{most_links, most_points, greatest_count, greatest_sum}
use Rattle.mh_network.specs.Problems.{no_link, problem_of, sum_of_gains, sum_of_costs, sum_of_charges}

-- the first link of which a fact does not hold, if there is one
abbrev pub IsFirstNot : (LinkRow → Type 0) → List LinkRow → Option ℕ → Type 0
IsFirstNot Fact rows found = MatchOption found (All Fact rows) (λ j. (j < length rows) × HoldsAt (λ r. Fact r → ⊥) rows j × AllWithin Fact rows 0 j)

abbrev pub misfit : ProblemFault → ProblemPlace → ProblemMisfit
misfit fault place = record { fault = fault; place = place }

-- lack of memory, which is attributed to the whole
abbrev pub out_of_memory : ProblemMisfit
out_of_memory = misfit NoMemory Whole

-- the links in turn: if the fact fails for one, its needs have the fault
abbrev pub tests_of_needs : (LinkRow → Type 0) → ProblemFault → List LinkRow → Tests ProblemMisfit → Tests ProblemMisfit
tests_of_needs Fact fault rows later =
    tests_of_each (λ j. test (Fact (slice_index_or rows j no_link)) (only (misfit fault (Needs j)))) (range_with_len 0 (length rows)) later

-- the tests of `limited_tests`, with places
abbrev pub placed_limited : ℕ → ℕ → ℕ → List LinkRow → List ℕ → Tests ProblemMisfit
placed_limited links points needs rows costs =
    test (length rows ≤ links) (only (misfit TooManyLinks Links))
    (test (length costs ≤ points) (only (misfit TooManyPoints Points))
    (tests_of_needs (λ r. length r.needs ≤ needs) TooManyNeeds rows
    (tests_of_needs (λ r. All (λ p. p < length costs) r.needs) NeedOutOfRange rows
    (tests_of_needs (λ r. IsStrictlyIncreasing r.needs) NeedsNotAscending rows
    (test (sum_of_gains (problem_of rows costs) ≤ greatest_sum) (only (misfit GainTooLarge Links))
    (test (sum_of_costs (problem_of rows costs) + sum_of_charges (problem_of rows costs) ≤ greatest_sum) (only (misfit CostTooLarge Whole)) (no_more nothing)))))))

-- the tests of `Problem::placed`
abbrev pub placed_tests : List LinkRow → List ℕ → Tests ProblemMisfit
placed_tests rows costs = placed_limited most_links most_points most_needs rows costs

-- the tests of `Problem::placed_large`
abbrev pub placed_large_tests : List LinkRow → List ℕ → Tests ProblemMisfit
placed_large_tests rows costs = placed_limited greatest_count greatest_count greatest_count rows costs
