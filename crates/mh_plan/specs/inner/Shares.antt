-- The runs of parts, shared out among workers.
use Rattle.std.specs.Prelude.{ℕ, ◌+◌, ◌*◌, ◌/◌, ◌%◌, ◌≡◌, ◌<◌, List, [], Result, Ok, Err, length}
use Rattle.std.specs.List.{slice_index_or}
use Rattle.mh_base.specs.declared.memory.NoMemory.{NoMemory}
use Rattle.mh_network.specs.declared.part.Part.{Part}
use Rattle.mh_network.specs.Problems.{ProblemData}
use Rattle.mh_network.specs.Parts.{part_at, part_problem}
use Rattle.mh_flow.specs.FlowData.{FlowData}
use Rattle.mh_plan.specs.declared.runs.Runs.{Runs}
use Rattle.mh_plan.specs.Solved.{IsSolved, no_run}

-- the runs of the parts worker, worker + workers, worker + 2 * workers and so on
pub record IsShare (P : ProblemData) (parts : List Part) (workers worker : ℕ) (runs : List FlowData) : Type 0 where
  pub full : (t : ℕ) → worker + t * workers < length parts → t < length runs
  pub solved : (t : ℕ) → t < length runs → IsSolved (part_problem P (part_at parts (worker + t * workers))) (slice_index_or runs t no_run)

abbrev pub share_of : Result (List FlowData) NoMemory → List FlowData
share_of (Ok runs) = runs
share_of (Err e) = []

abbrev pub share_at : Runs → ℕ → List FlowData
share_at runs worker = share_of (slice_index_or runs.shares.items worker (Ok []))

-- part i is the run i / workers of worker i % workers
abbrev pub run_at : Runs → ℕ → FlowData
run_at runs i = slice_index_or (share_at runs (i % runs.workers)) (i / runs.workers) no_run

-- each part has its run in the shares
pub record AreShared (parts : List Part) (runs : Runs) : Type 0 where
  pub workers : 0 < runs.workers
  pub count : length runs.shares.items ≡ runs.workers
  pub full : (i : ℕ) → i < length parts → i / runs.workers < length (share_at runs (i % runs.workers))
