-- The headline for a run of a script: for its events and for the plans that it asks for.
use Rattle.std.specs.Prelude.{◌≡◌, ℕ, List, [], ◌∷◌, ◌++◌, length, map}
use Rattle.mh_network.specs.Selection.{IsLeast, member}
use Rattle.mh_cert.specs.declared.plan.Plan.{Plan}
use Rattle.mh_core.specs.declared.event.Event.{Event}
use Rattle.mh_core.specs.declared.event.Event.TheVariants.{Publish}
use Rattle.mh_core.specs.declared.reply.Reply.TheVariants.{Published}
use Rattle.mh_core.specs.Headline.{IsHeadline}
use Rattle.mh_core.specs.Histories.{records}
use Rattle.mh_core.specs.Legal.{Setting}
use Rattle.mh_core.specs.Problems.{problem_at}
use Rattle.mh_json.specs.declared.json.step.Step.{Step}
use Rattle.mh_json.specs.declared.json.step.Step.TheVariants.{Ask, Plan as ask_plan}
use Rattle.mh_text.specs.Steps.{Told, Run}

-- the event of a step; if the step asks for a plan, the publication of some plan
abbrev pub IsEventOf : Step → Event → Type 0
IsEventOf (Ask event) e = e ≡ event
IsEventOf (ask_plan n) e = (plan : Plan) × (e ≡ Publish n plan)

-- an event for each step
abbrev pub AreEventsOf : List Step → List Event → Type 0
AreEventsOf [] [] = Unit {0}
AreEventsOf (step ∷ steps) (e ∷ events) = IsEventOf step e × AreEventsOf steps events
AreEventsOf [] (e ∷ events) = ⊥
AreEventsOf (step ∷ steps) [] = ⊥

-- a plan that was asked for and published is the least best one in the problem of its snapshot
abbrev pub EachAskIsLeast : Setting → List Event → List Step → List Told → Type 0
EachAskIsLeast x start steps replies =
    (earlier later : List Step) → (answered rest : List Told) → (n : ℕ) → (told : Told) → (number : ℕ) → (plan : Plan)
    → steps ≡ earlier ++ ask_plan n ∷ later → replies ≡ answered ++ told ∷ rest → length earlier ≡ length answered
    → told.1 ≡ Published number plan
    → (before : List Event) × Run x start earlier answered before × IsLeast (problem_at x.definition (records x.definition before) n) (member plan.links)

-- the headline holds for the events of the steps and for their replies, and plans that were asked for are least
pub record IsScriptHeadline (x : Setting) (start : List Event) (steps : List Step) (replies : List Told) (h : List Event) : Type 0 where
  pub events : List Event
  pub asked : AreEventsOf steps events
  pub headline : IsHeadline x start events (map (λ t. t.1) replies) h
  pub least : EachAskIsLeast x start steps replies
