-- The number of phases that the parts of a problem took.
use Rattle.std.specs.Prelude.{ℕ, ◌+◌, ◌≡◌, ◌≤◌, ◌<◌, List, length}
use Rattle.std.specs.List.{slice_index_or}
use Rattle.std.specs.List.Sorted.{IsPermutation}
use Rattle.mh_network.specs.declared.part.Part.{Part}
use Rattle.mh_network.specs.Problems.{ProblemData}
use Rattle.mh_network.specs.Parts.{AreParts, part_at}
use Rattle.mh_network.specs.Selection.{Row}
use Rattle.mh_flow.specs.FlowData.{FlowData}
use Rattle.mh_plan.specs.Joined.{joined, rows_of}
use Rattle.mh_plan.specs.Solved.{AreSolved}

-- for each part the phases of its run
pub record AreCounted (parts : List Part) (run : ℕ → FlowData) (phases : List ℕ) : Type 0 where
  pub count : length phases ≡ length parts
  pub each : (i : ℕ) → i < length parts → slice_index_or phases i 0 ≡ (run i).phases

-- for each part the phases of a run of its own, from 1 to its links and points and 2; the flows of these runs are together
-- the flow of the plan
pub record ArePhases (P : ProblemData) (flow : List Row) (phases : List ℕ) : Type 0 where
  pub parts : List Part
  pub run : ℕ → FlowData
  pub are : AreParts P parts
  pub solved : AreSolved P parts run
  pub rows : IsPermutation (joined (rows_of parts run) (length parts)) flow
  pub counted : AreCounted parts run phases
  pub some : (i : ℕ) → i < length parts → 1 ≤ slice_index_or phases i 0
  pub few : (i : ℕ) → i < length parts → slice_index_or phases i 0 ≤ length (part_at parts i).links + length (part_at parts i).points + 2
