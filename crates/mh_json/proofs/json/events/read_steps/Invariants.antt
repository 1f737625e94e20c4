use Rattle.std.proofs.Common.{◌≡◌, map, take, Ok}
use Rattle.serde_json.specs.View.{view}
use Rattle.mh_json.specs.Script.{steps_of}
use Rattle.mh_json.proofs.json.events.read_steps.Given as goal

-- the steps so far are those that are read of the values so far
abbrev pub invariant-loop-i : goal.invariant-loop-i
invariant-loop-i l = steps_of l.declared (map view (take l.i l.values)) ≡ Ok l.steps.items
