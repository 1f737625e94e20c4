-- The division of a script between the workers and the main thread.
use Rattle.std.specs.Prelude.{List, [], ◌∷◌}
use Rattle.std.specs.List.{flat_map}
use Rattle.mh_core.specs.declared.event.Event.TheVariants as event
use Rattle.mh_json.specs.declared.json.step.Step.{Step}
use Rattle.mh_json.specs.declared.json.step.Step.TheVariants.{Ask}
use Rattle.mh_stress.specs.declared.division.Call.{Call}

-- a call
abbrev pub calls_of : Step → List Call
calls_of (Ask (event.Call w s a)) = record { worker = w; site = s; arguments = a } ∷ []
calls_of _ = []

-- any other event except a flush
abbrev pub changes_of : Step → List Step
changes_of (Ask (event.Call w s a)) = []
changes_of (Ask (event.Flush w)) = []
changes_of step = step ∷ []

-- those of a script, in its order
abbrev pub calls_in : List Step → List Call
calls_in steps = flat_map calls_of steps

abbrev pub changes_in : List Step → List Step
changes_in steps = flat_map changes_of steps
