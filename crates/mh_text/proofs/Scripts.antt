-- A run of a script is a run of its events.
use Rattle.std.proofs.Common.{◌≡◌, ℕ, ◌+◌, List, [], ◌∷◌, ◌++◌, length, map, inl, inr, refl, sym, subst, ◌∙◌, arith}
use Rattle.mh_network.specs.Selection.{IsLeast, member}
use Rattle.mh_cert.specs.declared.plan.Plan.{Plan}
use Rattle.mh_core.specs.declared.event.Event.{Event}
use Rattle.mh_core.specs.declared.event.Event.TheVariants.{Publish}
use Rattle.mh_core.specs.declared.refusal.Refusal.TheVariants.{NoMemory, NoSnapshot}
use Rattle.mh_core.specs.declared.reply.Reply.{Reply}
use Rattle.mh_core.specs.declared.reply.Reply.TheVariants.{Published, Refused}
use Rattle.mh_core.specs.Histories.{records}
use Rattle.mh_core.specs.Installations.{no_plan}
use Rattle.mh_core.specs.Problems.{problem_at}
use Rattle.mh_core.specs.Records.{plans}
use Rattle.mh_core.specs.Legal as legal
use Rattle.mh_core.specs.Legal.{Setting}
use Rattle.mh_json.specs.declared.json.step.Step.{Step}
use Rattle.mh_json.specs.declared.json.step.Step.TheVariants.{Ask, Plan as ask_plan}
use Rattle.mh_text.specs.Scripts.{AreEventsOf, EachAskIsLeast, IsEventOf}
use Rattle.mh_text.specs.Steps.{Answers, IsUnplanned, Run, Told}

record OfStep (x : Setting) (h : List Event) (step : Step) (reply : Reply) (new : List Event) : Type 0 where
  event : Event
  asked : IsEventOf step event
  taken : legal.Step x h event reply new

-- a plan that is asked for in vain is as one that is offered in vain
unplanned : (x : Setting) (h : List Event) (n : ℕ) (reply : Reply) (new : List Event) → IsUnplanned x h n reply → new ≡ h → legal.Step x h (Publish n no_plan.plan) reply new
unplanned x h n reply new (inl missing) same = inr (NoSnapshot, inl (missing.1, refl), missing.0, same)
unplanned x h n reply new (inr wanting) same = inr (NoMemory, inr (wanting.1, inl refl), wanting.0, same)

of_step : (x : Setting) (h : List Event) (step : Step) (reply : Reply) (new : List Event) → Answers x h step reply new → OfStep x h step reply new
of_step x h (Ask event) reply new answers = record { event = event; asked = refl; taken = answers }
of_step x h (ask_plan n) reply new (inl none) = record { event = Publish n no_plan.plan; asked = (no_plan.plan, refl); taken = unplanned x h n reply new none.0 none.1 }
of_step x h (ask_plan n) reply new (inr found) = record { event = Publish n found.0; asked = (found.0, refl); taken = found.2 }

pub record OfRun (x : Setting) (h : List Event) (steps : List Step) (replies : List Told) (new : List Event) : Type 0 where
  pub events : List Event
  pub asked : AreEventsOf steps events
  pub run : legal.Run x h events (map (λ t. t.1) replies) new

pub of_run : (x : Setting) (h : List Event) (steps : List Step) (replies : List Told) (new : List Event) → Run x h steps replies new → OfRun x h steps replies new
of_run x h [] [] new run = record { events = []; asked = tt; run = run }
of_run x h (step ∷ steps) (told ∷ replies) new run =
    let one = of_step x h step told.1 run.0 run.1.1 in
    let more = of_run x run.0 steps replies new run.2 in
    record { events = one.event ∷ more.events; asked = (one.asked, more.asked); run = (run.0, one.taken, more.run) }
of_run x h [] (told ∷ replies) new run = absurd run
of_run x h (step ∷ steps) [] new run = absurd run

-- ---- plans that were asked for
module _ (x : Setting) where
  Least : List Event → ℕ → Plan → Type 0
  Least h n plan = IsLeast (problem_at x.definition (records x.definition h) n) (member plan.links)

  least_of : (h : List Event) (n : ℕ) (reply : Reply) (new : List Event) (number : ℕ) (plan : Plan) → Answers x h (ask_plan n) reply new → reply ≡ Published number plan → Least h n plan
  unfolding Least
  least_of h n reply new number plan (inl none) is = elim (none.0) [
    | inl missing ↦ let no : Refused NoSnapshot ≡ Published number plan = sym missing.0 ∙ is in cc
    | inr wanting ↦ let no : Refused NoMemory ≡ Published number plan = sym wanting.0 ∙ is in cc
  ]
  least_of h n reply new number plan (inr found) is = elim (found.2) [
    | inl accepted ↦
        let both : Published (plans (records x.definition h) + 1) found.0 ≡ Published number plan = sym accepted.1 ∙ is in
        let same : found.0 ≡ plan = cc in
        subst (λ (p : Plan). IsLeast (problem_at x.definition (records x.definition h) n) (member p.links)) same found.1.1
    | inr refused ↦ let no : Refused refused.0 ≡ Published number plan = sym refused.2 ∙ is in cc
  ]

  asks_least : (h : List Event) (earlier later : List Step) (answered rest : List Told) (n : ℕ) (told : Told) (number : ℕ) (plan : Plan) (new : List Event) → length earlier ≡ length answered
      → told.1 ≡ Published number plan → Run x h (earlier ++ ask_plan n ∷ later) (answered ++ told ∷ rest) new → (before : List Event) × Run x h earlier answered before × Least before n plan
  asks_least h [] later [] rest n told number plan new level is run = (h, refl, least_of h n told.1 run.0 number plan run.1.1 is)
  asks_least h (s ∷ earlier) later (t ∷ answered) rest n told number plan new level is run =
      let more = asks_least run.0 earlier later answered rest n told number plan new (omega (arith, level)) is run.2 in
      (more.0, (run.0, run.1, more.1), more.2)
  asks_least h [] later (t ∷ answered) rest n told number plan new level is run = absurd (omega (arith, level))
  asks_least h (s ∷ earlier) later [] rest n told number plan new level is run = absurd (omega (arith, level))

  pub run_least : (h : List Event) (steps : List Step) (replies : List Told) (new : List Event) → Run x h steps replies new → EachAskIsLeast x h steps replies
  unfolding Least
  run_least h steps replies new run earlier later answered rest n told number plan split_steps split_replies level is =
      asks_least h earlier later answered rest n told number plan new level is
      (subst (λ (ys : List Told). Run x h (earlier ++ ask_plan n ∷ later) ys new) split_replies (subst (λ (ys : List Step). Run x h ys replies new) split_steps run))
