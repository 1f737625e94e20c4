-- The steps of a script, run one after another.
use Rattle.std.specs.Prelude.{ℕ, ◌≡◌, ◌⊎◌, List, [], ◌∷◌}
use Rattle.mh_network.specs.Selection.{IsLeast, member}
use Rattle.mh_cert.specs.Plans.{Matches}
use Rattle.mh_cert.specs.declared.plan.Plan.{Plan}
use Rattle.mh_core.specs.declared.event.Event.{Event}
use Rattle.mh_core.specs.declared.event.Event.TheVariants.{Publish}
use Rattle.mh_core.specs.declared.refusal.Refusal.TheVariants.{NoMemory, NoSnapshot}
use Rattle.mh_core.specs.declared.reply.Reply.{Reply}
use Rattle.mh_core.specs.declared.reply.Reply.TheVariants.{Refused}
use Rattle.mh_core.specs.Histories.{records}
use Rattle.mh_core.specs.Legal as legal
use Rattle.mh_core.specs.Legal.{Setting}
use Rattle.mh_core.specs.Problems.{IsTaken, problem_at}
use Rattle.mh_json.specs.declared.json.step.Step.{Step}
use Rattle.mh_json.specs.declared.json.step.Step.TheVariants.{Ask, Plan as ask_plan}
use Rattle.mh_json.specs.StepNumbers.{number_named}

-- a reply, with the number that its step names
abbrev pub Told : Type 0
Told = ℕ × Reply

module _ (x : Setting) where
  -- no event follows from asking for a plan: there is no such snapshot, or no memory for its problem or its plan
  abbrev pub IsUnplanned : List Event → ℕ → Reply → Type 0
  IsUnplanned h n reply =
      ((reply ≡ Refused NoSnapshot) × (IsTaken (records x.definition h) n → ⊥))
      ⊎ ((reply ≡ Refused NoMemory) × IsTaken (records x.definition h) n)

  -- a plan that matches the snapshot's problem, with its least best links
  abbrev pub IsBestFor : List Event → ℕ → Plan → Type 0
  IsBestFor h n plan =
      Matches (problem_at x.definition (records x.definition h) n) plan
      × IsLeast (problem_at x.definition (records x.definition h) n) (member plan.links)

  -- an event is answered; if a plan is asked for, the event is its publication
  abbrev pub Answers : List Event → Step → Reply → List Event → Type 0
  Answers h (Ask event) reply new = legal.Step x h event reply new
  Answers h (ask_plan n) reply new =
      (IsUnplanned h n reply × (new ≡ h))
      ⊎ ((plan : Plan) × IsBestFor h n plan × legal.Step x h (Publish n plan) reply new)

  -- a step and its reply
  abbrev pub Takes : List Event → Step → Told → List Event → Type 0
  Takes h step told new = (told.0 ≡ number_named step) × Answers h step told.1 new

  -- one step after another
  abbrev pub Run : List Event → List Step → List Told → List Event → Type 0
  Run h [] [] new = new ≡ h
  Run h (step ∷ steps) (told ∷ rest) new = (mid : List Event) × Takes h step told mid × Run mid steps rest new
  Run h [] (told ∷ rest) new = ⊥
  Run h (step ∷ steps) [] new = ⊥
