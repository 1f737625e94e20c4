-- The problem of a snapshot: the links that were eligible then, and the gain of each (Rhys 1970).
use Rattle.std.specs.Prelude.{ℕ, ◌*◌, ◌≤◌, ◌<◌, Bool, List, map, length}
use Rattle.std.specs.List.{list_all}
use Rattle.mh_network.specs.Problems.{ProblemData, problem_of}
use Rattle.mh_network.specs.declared.link_row.LinkRow.{LinkRow}
use Rattle.mh_site.specs.Defined.{DefinitionData}
use Rattle.mh_site.specs.Links.{links, link_at}
use Rattle.mh_core.specs.declared.record.Record.{Record}
use Rattle.mh_core.specs.Records.{numbers, is_valid, total, past, snapshots}

-- whether all points that a link needs are valid
abbrev pub is_eligible : DefinitionData → List Record → ℕ → Bool
is_eligible d r j = list_all (is_valid r) (link_at d j).1.needs

-- a link gains its weight for each flushed hit, and has its declared charge
abbrev pub row : DefinitionData → List Record → ℕ → LinkRow
row d r j = record { gain = (link_at d j).1.weight * total r j; eligible = is_eligible d r j; needs = (link_at d j).1.needs; charge = (link_at d j).1.charge }

-- the links and costs of a definition after these records; a link that is not eligible gains nothing
abbrev pub problem_after : DefinitionData → List Record → ProblemData
problem_after d r = problem_of (map (row d r) (numbers (length (links d)))) (map (λ p. p.cost) d.points)

-- the problem of a snapshot, by its number from 1
abbrev pub problem_at : DefinitionData → List Record → ℕ → ProblemData
problem_at d r n = problem_after d (past r n)

-- a snapshot of this number was taken
abbrev pub IsTaken : List Record → ℕ → Type 0
IsTaken r n = (0 < n) × (n ≤ snapshots r)
