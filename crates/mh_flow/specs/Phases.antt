-- The course of a run, phase after phase (Dinitz 1970).
use Rattle.std.specs.Prelude.{ℕ, zero, suc, ◌+◌, ◌-◌, ◌≡◌, ◌≤◌, ◌<◌, List, slice_set}
use Rattle.mh_network.specs.Problems.{ProblemData}
use Rattle.mh_flow.specs.declared.path.Turn.{Turn}
use Rattle.mh_flow.specs.Carried.{carried, number_at, row_at}
use Rattle.mh_flow.specs.Distances.{AreDistances}
use Rattle.mh_flow.specs.FlowData.{FlowData}
use Rattle.mh_flow.specs.LayerData.{LayerData, IsLayerRun, IsEnd, IsPathPushed, IsSameFlow}
use Rattle.mh_flow.specs.Paths.{IsPath, IsSent, room}
use Rattle.mh_flow.specs.Levels.{far}
use Rattle.mh_flow.specs.Run.{positive_rows}

-- a path up the levels that ends at point p
abbrev pub IsUpward : LayerData → ℕ → List Turn → ℕ → Type 0
IsUpward a p turns first = IsPath a.rows a.gain_left (number_at a.links) (number_at a.points) p turns first

-- the residual capacity of a path to point p and from there to the sink
abbrev pub path_room : LayerData → ℕ → List Turn → ℕ → ℕ
path_room a p turns first = room a.rows a.gain_left (number_at a.cost_left p) turns first

-- the residual capacity of a path went along it: its rows changed, what is left of the gain of its first link, and what is left of the cost
-- of its point
pub record IsSentAlong (a b : LayerData) (p : ℕ) (turns : List Turn) (first : ℕ) : Type 0 where
  pub pushed : IsPathPushed a b p
  pub least : carried b.rows ≡ carried a.rows + path_room a p turns first
  pub rows : IsSent a.rows b.rows turns first (path_room a p turns first)
  pub gain : b.gain_left ≡ slice_set a.gain_left (row_at a.rows first).link (number_at a.gain_left (row_at a.rows first).link - path_room a p turns first)

-- one push along a path up the levels to the sink
pub record IsPush (a b : LayerData) : Type 0 where
  pub point : ℕ
  pub turns : List Turn
  pub first : ℕ
  pub path : IsUpward a point turns first
  pub end : IsEnd a point
  pub sent : IsSentAlong a b point turns first

-- n pushes, one after another
abbrev pub Pushes : ℕ → LayerData → LayerData → Type 0
Pushes zero a b = a ≡ b
Pushes (suc n) a c = (b : LayerData) × Pushes n a b × IsPush b c

-- levels over the current flow
pub record AreBuilt (a b : LayerData) : Type 0 where
  pub flow : IsSameFlow b a
  pub distances : AreDistances b

-- a phase: levels by which the sink is reached, and one or more pushes along them, which leave no path up them
pub record IsPhased (a c : LayerData) : Type 0 where
  pub layered : LayerData
  pub built : AreBuilt a layered
  pub near : layered.sink < far
  pub more : ℕ
  pub pushes : Pushes (suc more) layered c
  pub blocked : (p : ℕ) (turns : List Turn) (first : ℕ) → IsEnd c p → IsUpward c p turns first → ⊥

-- n phases, one after another
abbrev pub Phases : ℕ → LayerData → LayerData → Type 0
Phases zero a b = a ≡ b
Phases (suc n) a c = (b : LayerData) × Phases n a b × IsPhased b c

-- a run of P before its first phase: no need carries anything, and each link has paid as much of its charge as its gain allows
pub record IsBegun (P : ProblemData) (a : LayerData) : Type 0 where
  pub problem : a.problem ≡ P
  pub kept : IsLayerRun a
  pub idle : carried a.rows ≡ 0

-- the result of a run of P: phases, until levels are built by which the sink is not reached. Those count as a phase, too.
pub record IsRunOf (P : ProblemData) (run : FlowData) : Type 0 where
  pub start : LayerData
  pub begun : IsBegun P start
  pub full : ℕ
  pub over : LayerData
  pub phases : Phases full start over
  pub last : LayerData
  pub built : AreBuilt over last
  pub away : far ≤ last.sink
  pub count : run.phases ≡ full + 1
  pub rows : run.rows ≡ positive_rows last.rows
