-- The rows of links make a problem.
use Rattle.std.proofs.Common.{◌≡◌, ℕ, ◌^◌, ◌<◌, ◌≤◌, Bool, List, length, map, arith}
use Rattle.std.specs.List.{All, sum_by}
use Rattle.std.specs.List.Sorted.{IsStrictlyIncreasing}
use Rattle.std.proofs.lemmas.List.{length-map}
use Rattle.std.proofs.lemmas.List.FromFn.{length-map-range_with_len}
use Rattle.std.proofs.lemmas.List.Elements.{All-map}
use Rattle.std.proofs.lemmas.List.Sums.{sum_by-le}
use Rattle.mh_network.specs.declared.link_row.LinkRow.{LinkRow}
use Rattle.mh_network.specs.Problems.{kept_gain, problem_tests}
use Rattle.mh_base.specs.Tests.{Passes}
use Rattle.mh_network.specs.Laws.{kept_charges, kept_gains, kept_costs}
use Rattle.mh_site.specs.declared.point.Point.{Point}
use Rattle.mh_site.specs.Defined.{DefinitionData}
use Rattle.mh_site.specs.Lawful.{IsDefinition}
use Rattle.mh_site.specs.Links.{links}
use Rattle.mh_core.specs.Records.{numbers}
use Rattle.mh_core.specs.inner.Tables.{row_in}
use Rattle.mh_core.specs.Laws.Numbered.{all_numbers}
use Rattle.mh_core.specs.Laws.LawfulLinks.{lawful_link, few_links}

abbrev pub rows_in : DefinitionData → List ℕ → List Bool → List LinkRow
rows_in d totals valid = map (row_in d totals valid) (numbers (length (links d)))

abbrev pub costs_of : DefinitionData → List ℕ
costs_of d = map (λ (p : Point). p.cost) d.points

cheap : (d : DefinitionData) → IsDefinition d → sum_by (λ x. x) (costs_of d) ≤ 2 ^ 61
cheap d is =
    let each : All (λ n. n ≤ 2 ^ 40) (costs_of d) = All-map (λ (n : ℕ). n ≤ 2 ^ 40) (λ (p : Point). p.cost) d.points (λ k e h. (is.points k e h).cheap) in
    let most = sum_by-le (λ x. x) (2 ^ 40) (costs_of d) each in
    omega (arith, most, length-map d.points (λ (p : Point). p.cost), is.few_points)

light : (d : DefinitionData) (totals : List ℕ) (valid : List Bool) → IsDefinition d → sum_by (λ (r : LinkRow). r.charge) (rows_in d totals valid) ≤ 2 ^ 61
light d totals valid is =
    let n = length (links d) in
    let f = row_in d totals valid in
    let each : All (λ (r : LinkRow). r.charge ≤ 2 ^ 40) (rows_in d totals valid) = all_numbers (λ (r : LinkRow). r.charge ≤ 2 ^ 40) f n (λ j h. (lawful_link d j is h).cheap) in
    let most = sum_by-le (λ (r : LinkRow). r.charge) (2 ^ 40) (rows_in d totals valid) each in
    omega (arith, most, length-map-range_with_len f 0 n, few_links d is)

pub rows_pass : (d : DefinitionData) (totals : List ℕ) (valid : List Bool) → IsDefinition d → sum_by kept_gain (rows_in d totals valid) ≤ 2 ^ 62
    → Passes (problem_tests (rows_in d totals valid) (costs_of d))
rows_pass d totals valid is gains =
    let n = length (links d) in
    let f = row_in d totals valid in
    let points : length (costs_of d) ≡ length d.points = length-map d.points (λ (p : Point). p.cost) in (
      omega (arith, few_links d is, length-map-range_with_len f 0 n),
      (
        omega (arith, is.few_points, points),
        (
          all_numbers (λ (r : LinkRow). length r.needs ≤ 8) f n (λ j h. (lawful_link d j is h).few),
          (
            all_numbers (λ (r : LinkRow). All (λ p. p < length (costs_of d)) r.needs) f n (λ j h k e l. let known = (lawful_link d j is h).known k e l in omega (arith, known, points)),
            (
              all_numbers (λ (r : LinkRow). IsStrictlyIncreasing r.needs) f n (λ j h. (lawful_link d j is h).ascending),
              (
                omega (arith, kept_gains (rows_in d totals valid) (costs_of d), gains),
                (
                  omega (arith, kept_costs (rows_in d totals valid) (costs_of d), kept_charges (rows_in d totals valid) (costs_of d), cheap d is, light d totals valid is),
                  tt,
                ),
              ),
            ),
          ),
        ),
      ),
    )
