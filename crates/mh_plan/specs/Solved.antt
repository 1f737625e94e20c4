-- The result of the run of a part.
use Rattle.std.specs.Prelude.{ℕ, ◌+◌, ◌≡◌, ◌≤◌, ◌<◌, List, [], All, AllPairs, length, pos, ◌+ℤ◌}
use Rattle.mh_network.specs.declared.part.Part.{Part}
use Rattle.mh_network.specs.Problems.{ProblemData, sum_of_gains}
use Rattle.mh_network.specs.Parts.{part_at, part_problem}
use Rattle.mh_network.specs.Selection.{IsBefore, IsChargeBefore, IsFlow, IsLeast, member, value_of, worth}
use Rattle.mh_flow.specs.FlowData.{FlowData}
use Rattle.mh_flow.specs.Phases.{IsRunOf}

abbrev pub no_run : FlowData
no_run = record { rows = []; charges = []; reached = []; phases = 0 }

-- a maximum flow of Q, in order, the least best links, and the number of phases that it took
pub record IsSolved (Q : ProblemData) (run : FlowData) : Type 0 where
  pub flow : IsFlow Q run.rows run.charges
  pub positive : All (λ r. 0 < r.2) run.rows
  pub ordered : AllPairs IsBefore run.rows
  pub paid : All (λ r. 0 < r.1) run.charges
  pub paid_ordered : AllPairs IsChargeBefore run.charges
  pub equal : worth Q (member run.reached) +ℤ pos (value_of run.rows run.charges) ≡ pos (sum_of_gains Q)
  pub least : IsLeast Q (member run.reached)
  pub taken : IsRunOf Q run
  pub some : 1 ≤ run.phases
  pub phases : run.phases ≤ length Q.links + length Q.costs + 2

-- a run for each part, by the part's numbers
abbrev pub AreSolved : ProblemData → List Part → (ℕ → FlowData) → Type 0
AreSolved P parts run = (i : ℕ) → i < length parts → IsSolved (part_problem P (part_at parts i)) (run i)
