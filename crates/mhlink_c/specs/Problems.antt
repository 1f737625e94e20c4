-- Problems from arrays of C, their solutions, and the failures to solve them.
use Rattle.std.specs.Prelude.{ℕ, ◌≡◌, ◌⊎◌, ◌+◌, ◌≤◌, ◌==◌, List, All, length, not, take, drop, map, ℤ}
use Rattle.std.specs.List.Sorted.{IsStrictlyIncreasing}
use Rattle.mh_base.specs.Tests.{Refuses}
use Rattle.mh_network.specs.declared.fault.ProblemFault.{ProblemFault}
use Rattle.mh_network.specs.declared.link_row.LinkRow.{LinkRow}
use Rattle.mh_network.specs.Problems.{ProblemData, large_tests}
use Rattle.mh_network.specs.Selection.{IsLeast, member, worth}
use Rattle.mhlink_c.specs.Statuses.{no_memory, of_problem}
use Rattle.mhlink_c.specs.declared.failure.Failure.{Failure}
use Rattle.mhlink_c.specs.declared.failure.Failure.TheVariants.{Unknown}
use Rattle.mhlink_c.specs.declared.planning.MhlinkLink.{MhlinkLink}

-- the needs of a link: this many of all, from the first
abbrev pub needs_of : List ℕ → MhlinkLink → List ℕ
needs_of needs l = take l.count (drop l.first needs)

-- the needs of a link are among all needs
abbrev pub HasNeeds : List ℕ → MhlinkLink → Type 0
HasNeeds needs l = l.first + l.count ≤ length needs

abbrev pub row_of : List ℕ → MhlinkLink → LinkRow
row_of needs l = record { gain = l.gain; eligible = not (l.eligible == 0); needs = needs_of needs l; charge = l.charge }

abbrev pub rows_of : List ℕ → List MhlinkLink → List LinkRow
rows_of needs links = map (row_of needs) links

-- the optimal links, of such the fewest, ascending, and their worth
pub record IsChoice (P : ProblemData) (links : List ℕ) (value : ℤ) : Type 0 where
  pub least : IsLeast P (member links)
  pub ascending : IsStrictlyIncreasing links
  pub is_worth : value ≡ worth P (member links)

-- the optimal links, of such the fewest, whatever their worth
abbrev pub IsLeastChoice : ProblemData → List ℕ → Type 0
IsLeastChoice P links = IsLeast P (member links) × IsStrictlyIncreasing links

-- needs that do not exist, lack of memory, or the first failing test of a large problem
abbrev pub RefusesRows : List ℕ → List MhlinkLink → List ℕ → Failure → Type 0
RefusesRows needs links costs e =
    ((All (HasNeeds needs) links → ⊥) × (e ≡ Unknown)) ⊎ (e ≡ no_memory)
    ⊎ (All (HasNeeds needs) links × ((fault : ProblemFault) × ((e ≡ of_problem fault) × Refuses (large_tests (rows_of needs links) costs) fault)))
