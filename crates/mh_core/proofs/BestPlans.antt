-- Each published plan is best.
use Rattle.std.proofs.Common.{◌++◌, ◌∷◌, [], ℕ, List, subst}
use Rattle.mh_network.specs.declared.link_row.LinkRow.{LinkRow}
use Rattle.mh_network.specs.Problems.{IsProblem, problem_of}
use Rattle.mh_network.specs.Selection.{IsBest, member}
use Rattle.mh_network.specs.Laws.{tested_problem}
use Rattle.mh_cert.specs.Plans.{Matches}
use Rattle.mh_cert.specs.declared.plan.Plan.{Plan}
use Rattle.mh_cert.specs.Laws.{best_by_match}
use Rattle.mh_site.specs.Defined.{DefinitionData}
use Rattle.mh_site.specs.Lawful.{IsDefinition}
use Rattle.mh_core.specs.declared.record.Record.{Record}
use Rattle.mh_core.specs.declared.record.Record.TheVariants.{Published}
use Rattle.mh_core.specs.Books.{Legal}
use Rattle.mh_core.specs.Limits.{LimitsData, IsLimits}
use Rattle.mh_core.specs.Problems.{problem_after, problem_at}
use Rattle.mh_core.specs.Records.{past}
use Rattle.mh_core.specs.Snapshots.{snapshot_of}
use Rattle.mh_core.specs.Laws.PastSnapshots.{past_legal, rows_same, WasLegal}
use Rattle.mh_core.specs.Laws.ProblemRows.{costs_of, rows_in, rows_pass}
use Rattle.mh_core.proofs.Standing.{makes_problem}

problem_lawful : (d : DefinitionData) (l : LimitsData) (g : List Record) → IsDefinition d → IsLimits l → WasLegal d l g → IsProblem (problem_after d g)
problem_lawful d l g is limits was =
    let s = snapshot_of d g in
    let makes = makes_problem d l g is limits was in
    subst (λ (rows : List LinkRow). IsProblem (problem_of rows (costs_of d))) (rows_same d g is)
    (tested_problem (rows_in d s.totals s.valid) (costs_of d) (rows_pass d s.totals s.valid is makes.gains))

-- the plan at any place of the records matches
pub published_matches : (d : DefinitionData) (l : LimitsData) (newer older : List Record) (n : ℕ) (plan : Plan)
    → Legal d l (newer ++ Published n plan ∷ older) → Matches (problem_at d older n) plan
published_matches d l [] older n plan legal = legal.0.1.1.1.0
published_matches d l (e ∷ newer) older n plan legal = published_matches d l newer older n plan legal.1

pub published_best : (d : DefinitionData) (l : LimitsData) (newer older : List Record) (n : ℕ) (plan : Plan) → IsDefinition d → IsLimits l
    → Legal d l (newer ++ Published n plan ∷ older) → IsBest (problem_at d older n) (member plan.links)
published_best d l [] older n plan is limits legal =
    best_by_match (problem_at d older n) plan (problem_lawful d l (past older n) is limits (past_legal d l older n legal.1 legal.0.1.1.0)) legal.0.1.1.1.0
published_best d l (e ∷ newer) older n plan is limits legal = published_best d l newer older n plan is limits legal.1
