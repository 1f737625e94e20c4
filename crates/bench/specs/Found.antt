-- The result of each task.
use Rattle.std.specs.Prelude.{ℕ, ◌≡◌, ◌≤◌, List, length}
use Rattle.mh_cert.specs.Plans.{Matches}
use Rattle.mh_network.specs.declared.part.Part.{Part}
use Rattle.mh_network.specs.Parts.{AreParts}
use Rattle.mh_network.specs.Problems.{ProblemData}
use Rattle.mh_network.specs.Scales.{IsUntil}
use Rattle.mh_network.specs.Selection.{Row, Charge, IsFlow, IsLeast, member, value_of}
use Rattle.mh_sweep.specs.Sweeps.{number_at}
use Rattle.bench.specs.declared.found.Found.{Found}
use Rattle.bench.specs.declared.found.Found.TheVariants as found
use Rattle.bench.specs.declared.task.Task.{Task}
use Rattle.bench.specs.declared.task.Task.TheVariants as task

-- some flow carries this much, and none carries more
pub record IsGreatestValue (P : ProblemData) (value : ℕ) : Type 0 where
  pub rows : List Row
  pub charges : List Charge
  pub flow : IsFlow P rows charges
  pub carried : value_of rows charges ≡ value
  pub greatest : (others : List Row) → (more : List Charge) → IsFlow P others more → value_of others more ≤ value

-- the number of the parts, the value of a maximum flow, or the least best plan with the flow that proves it best
abbrev pub IsFound : ProblemData → Task → Found → Type 0
IsFound P task.Parts (found.Parts count) = (parts : List Part) × AreParts P parts × (length parts ≡ count)
IsFound P task.Flow (found.Flow flow) = IsGreatestValue P flow.value
IsFound P task.Plan (found.Plan plan) = Matches P plan × IsLeast P (member plan.links)
IsFound P task.Sweep (found.Sweep sweep) = IsUntil P sweep.most (number_at sweep.until)
IsFound P task found = ⊥
