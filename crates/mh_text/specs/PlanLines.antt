-- The text that says how plans were made.
use Rattle.std.specs.Prelude.{ℕ, ◌+◌, ◌*◌, List, ◌++◌, codes, length}
use Rattle.std.specs.Fmt.{decimal}
use Rattle.std.specs.List.{sum_by}
use Rattle.mh_network.specs.Problems.{ProblemData}

-- the sum, over all parts, of the number of links and points, plus 2 for each part
abbrev pub phases_bound : ProblemData → List ℕ → ℕ
phases_bound P phases = length P.links + length P.costs + 2 * length phases

-- the phases of all parts, and their bound
abbrev pub phases_text : ProblemData → List ℕ → List ℕ
phases_text P phases = codes "phases " ++ (decimal (sum_by (λ n. n) phases) ++ (codes " bound " ++ decimal (phases_bound P phases)))
