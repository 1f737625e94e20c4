-- The number that a step of a script names.
use Rattle.std.specs.Prelude.{ℕ}
use Rattle.mh_core.specs.declared.event.Event.{Event}
use Rattle.mh_core.specs.declared.event.Event.TheVariants.{Call, Flush, Target, Invalidate, Snapshot, Publish, Install}
use Rattle.mh_json.specs.declared.json.step.Step.{Step}
use Rattle.mh_json.specs.declared.json.step.Step.TheVariants.{Ask, Plan as ask_plan}

-- the number that an event names, of the snapshot that a plan is for or of the plan that is installed; 0 if it names none
abbrev pub number_in : Event → ℕ
number_in (Call w s a) = 0
number_in (Flush w) = 0
number_in (Target s tree) = 0
number_in (Invalidate points) = 0
number_in Snapshot = 0
number_in (Publish n plan) = n
number_in (Install m) = m

-- the same of a step
abbrev pub number_named : Step → ℕ
number_named (Ask event) = number_in event
number_named (ask_plan n) = n
