-- Distances from the source over residual edges.
use Rattle.std.specs.Prelude.{ℕ, zero, suc, ◌≡◌, ◌≤◌, ◌<◌, true, length}
use Rattle.mh_network.specs.Problems.{charge_of, needs_point}
use Rattle.mh_flow.specs.Carried.{row_at, number_at}
use Rattle.mh_flow.specs.Charged.{paid_of}
use Rattle.mh_flow.specs.Levels.{far}
use Rattle.mh_flow.specs.LayerData.{LayerData}

pub data Node : Type 0 where
  source : Node
  link : ℕ → Node
  point : ℕ → Node
  sink : Node

abbrev pub IsNode : LayerData → Node → Type 0
IsNode a source = Unit {0}
IsNode a (link j) = j < length a.problem.links
IsNode a (point p) = p < length a.problem.costs
IsNode a sink = Unit {0}

-- a residual edge: to a link with spare gain, to a point that a link needs, back to a link that carries something to a point, and to the
-- sink from a point with spare cost and from a link with spare charge
abbrev pub IsResidual : LayerData → Node → Node → Type 0
IsResidual a source (link j) = 0 < number_at a.gain_left j
IsResidual a (link j) (point p) = needs_point a.problem j p ≡ true
IsResidual a (point p) (link j) = (k : ℕ) × (k < length a.rows) × ((row_at a.rows k).link ≡ j) × ((row_at a.rows k).point ≡ p) × (0 < (row_at a.rows k).amount)
IsResidual a (point p) sink = 0 < number_at a.cost_left p
IsResidual a (link j) sink = paid_of a.problem j < charge_of a.problem j
IsResidual a u v = ⊥

-- n residual edges lead from the source to v
abbrev pub Reaches : LayerData → ℕ → Node → Type 0
Reaches a zero v = v ≡ source
Reaches a (suc n) v = (u : Node) × Reaches a n u × IsResidual a u v

abbrev pub level_of : LayerData → Node → ℕ
level_of a source = 0
level_of a (link j) = number_at a.links j
level_of a (point p) = number_at a.points p
level_of a sink = a.sink

-- the level of each node is its distance from the source; that of a node that is not reached is `far`, greater than each distance
pub record AreDistances (a : LayerData) : Type 0 where
  pub least : (n : ℕ) (v : Node) → Reaches a n v → (level_of a v ≤ n) × (level_of a v < far)
  pub reached : (v : Node) → IsNode a v → level_of a v < far → Reaches a (level_of a v) v
