-- The headline follows from a run.
use Rattle.std.proofs.Common.{◌≡◌, ◌⊎◌, inl, inr, ℕ, ◌+◌, Bool, cond, List, [], ◌∷◌, ◌++◌, length, refl, ap, sym, subst, ◌∙◌, arith}
use Rattle.std.proofs.lemmas.Bool.{cases_eq, eq-eqb, ne_eqb}
use Rattle.mh_base.specs.Tests.{Passes, Refuses}
use Rattle.mh_type.specs.declared.value.Value.{Value}
use Rattle.mh_network.specs.Selection.{IsBest, member}
use Rattle.mh_cert.specs.Plans.{Matches}
use Rattle.mh_site.specs.Defined.{DefinitionData}
use Rattle.mh_site.specs.Lawful.{IsDefinition}
use Rattle.mh_core.specs.declared.event.Event.{Event}
use Rattle.mh_core.specs.declared.event.Event.TheVariants.{Call, Flush, Target, Invalidate, Snapshot, Publish, Install}
use Rattle.mh_core.specs.declared.record.Record.{Record}
use Rattle.mh_core.specs.declared.refusal.Refusal.{Refusal}
use Rattle.mh_core.specs.declared.reply.Reply.{Reply}
use Rattle.mh_core.specs.declared.reply.Reply.TheVariants.{Called, Refused}
use Rattle.mh_core.specs.Books.{BookState, IsBook, Legal}
use Rattle.mh_core.specs.Headline.{EachCallMeansItsTree, EachPlanIsBest, IsHeadline, history_after, meaning}
use Rattle.mh_core.specs.Histories.{records}
use Rattle.mh_core.specs.Legal.{Run, Setting, Step, answer, tests}
use Rattle.mh_core.specs.Limits.{IsLimits, LimitsData}
use Rattle.mh_core.specs.Problems.{IsTaken, problem_after}
use Rattle.mh_core.specs.Records as looking
use Rattle.mh_core.specs.Records.{snapshots}
use Rattle.mh_core.proofs.BestPlans.{published_best, published_matches}
use Rattle.mh_core.proofs.FlushedCalls.{total_is}
use Rattle.mh_core.proofs.Machines.{few_records}

-- ---- where a snapshot was taken
record TakenAt (d : DefinitionData) (h : List Event) (n : ℕ) : Type 0 where
  since : List Event
  past : List Event
  taken : h ≡ since ++ Snapshot ∷ past
  number : n ≡ snapshots (records d past) + 1
  same : looking.past (records d h) n ≡ records d past

later : (d : DefinitionData) (h : List Event) (n : ℕ) (e : Event) → looking.past (records d (e ∷ h)) n ≡ looking.past (records d h) n → TakenAt d h n → TakenAt d (e ∷ h) n
later d h n e still at = record { since = e ∷ at.since; past = at.past; taken = ap (λ (g : List Event). e ∷ g) at.taken; number = at.number; same = still ∙ at.same }

taken_at : (d : DefinitionData) (h : List Event) (n : ℕ) → IsTaken (records d h) n → TakenAt d h n
taken_at d [] n taken = absurd (omega (arith, taken.0, taken.1))
taken_at d (Call w s a ∷ h) n taken = later d h n (Call w s a) refl (taken_at d h n taken)
taken_at d (Flush w ∷ h) n taken = later d h n (Flush w) refl (taken_at d h n taken)
taken_at d (Target s tree ∷ h) n taken = later d h n (Target s tree) refl (taken_at d h n taken)
taken_at d (Invalidate points ∷ h) n taken = later d h n (Invalidate points) refl (taken_at d h n taken)
taken_at d (Publish m plan ∷ h) n taken = later d h n (Publish m plan) refl (taken_at d h n taken)
taken_at d (Install m ∷ h) n taken = later d h n (Install m) refl (taken_at d h n taken)
taken_at d (Snapshot ∷ h) n taken =
    let r = records d h in
    elim (cases_eq (snapshots r + 1) n) [
      | inl own ↦ record { since = []; past = h; taken = refl; number = sym own; same = ap (λ (t : Bool). cond t r (looking.past r n)) (eq-eqb (snapshots r + 1) n own) }
      | inr other ↦
          later d h n Snapshot (ap (λ (t : Bool). cond t r (looking.past r n)) (ne_eqb (snapshots r + 1) n other))
          (taken_at d h n (taken.0, omega (arith, taken.1, other)))
    ]

module _ (x : Setting) where
  abbrev d : DefinitionData
  d = x.definition

  abbrev l : LimitsData
  l = x.limits

  -- ---- the records of a run are legal
  event_legal : (h : List Event) (e : Event) → Passes (tests x h e) → Legal d l (records d h) → Legal d l (records d (e ∷ h))
  event_legal h (Call w s a) passes legal = legal
  event_legal h (Flush w) passes legal = ((length h, (few_records d h, passes.1)), legal)
  event_legal h (Target s tree) passes legal = ((length h, (few_records d h, passes)), legal)
  event_legal h (Invalidate points) passes legal = ((length h, (few_records d h, passes)), legal)
  event_legal h Snapshot passes legal = ((length h, (few_records d h, passes)), legal)
  event_legal h (Publish n plan) passes legal = ((length h, (few_records d h, passes)), legal)
  event_legal h (Install m) passes legal = ((length h, (few_records d h, passes)), legal)

  step_legal : (h : List Event) (e : Event) (reply : Reply) (new : List Event) → Step x h e reply new → Legal d l (records d h) → Legal d l (records d new)
  step_legal h e reply new (inl accepted) legal = subst (λ (g : List Event). Legal d l (records d g)) (sym accepted.2) (event_legal h e accepted.0 legal)
  step_legal h e reply new (inr refused) legal = subst (λ (g : List Event). Legal d l (records d g)) (sym refused.3) legal

  run_legal : (h es : List Event) (rs : List Reply) (new : List Event) → Run x h es rs new → Legal d l (records d h) → Legal d l (records d new)
  run_legal h [] [] new run legal = subst (λ (g : List Event). Legal d l (records d g)) (sym run) legal
  run_legal h (e ∷ es) (r ∷ rs) new run legal = run_legal run.0 es rs new run.2 (step_legal h e r run.0 run.1 legal)
  run_legal h [] (r ∷ rs) new run legal = absurd run
  run_legal h (e ∷ es) [] new run legal = absurd run

  -- ---- each published plan is best
  legal_back : (after h : List Event) → Legal d l (records d (after ++ h)) → Legal d l (records d h)
  legal_back [] h legal = legal
  legal_back (Call w s a ∷ after) h legal = legal_back after h legal
  legal_back (Flush w ∷ after) h legal = legal_back after h legal.1
  legal_back (Target s tree ∷ after) h legal = legal_back after h legal.1
  legal_back (Invalidate points ∷ after) h legal = legal_back after h legal.1
  legal_back (Snapshot ∷ after) h legal = legal_back after h legal.1
  legal_back (Publish n plan ∷ after) h legal = legal_back after h legal.1
  legal_back (Install m ∷ after) h legal = legal_back after h legal.1

  plans_best : (h : List Event) → IsDefinition d → IsLimits l → Legal d l (records d h) → EachPlanIsBest d h
  plans_best h is limits legal after before n plan split =
      let then = legal_back after (Publish n plan ∷ before) (subst (λ (g : List Event). Legal d l (records d g)) split legal) in
      let at = taken_at d before n then.0.1.1.0 in
      record {
        since = at.since;
        past = at.past;
        taken = at.taken;
        number = at.number;
        totals = λ j inside. sym (total_is d j at.past inside);
        matching = subst (λ (r : List Record). Matches (problem_after d r) plan) at.same (published_matches d l [] (records d before) n plan then);
        best = subst (λ (r : List Record). IsBest (problem_after d r) (member plan.links)) at.same (published_best d l [] (records d before) n plan is limits then);
      }

  -- ---- the history of a run
  goes_on : (h : List Event) (e : Event) (es : List Event) (rs : List Reply) → history_after h (e ∷ es) (answer x h e ∷ rs) ≡ history_after (e ∷ h) es rs
  goes_on h (Call w s a) es rs = refl
  goes_on h (Flush w) es rs = refl
  goes_on h (Target s tree) es rs = refl
  goes_on h (Invalidate points) es rs = refl
  goes_on h Snapshot es rs = refl
  goes_on h (Publish n plan) es rs = refl
  goes_on h (Install m) es rs = refl

  one_step : (h : List Event) (e : Event) (reply : Reply) (new es : List Event) (rs : List Reply) → Step x h e reply new
      → history_after h (e ∷ es) (reply ∷ rs) ≡ history_after new es rs
  one_step h e reply new es rs (inl accepted) =
      ap (λ (r : Reply). history_after h (e ∷ es) (r ∷ rs)) accepted.1 ∙ (goes_on h e es rs ∙ ap (λ (g : List Event). history_after g es rs) (sym accepted.2))
  one_step h e reply new es rs (inr refused) =
      ap (λ (r : Reply). history_after h (e ∷ es) (r ∷ rs)) refused.2 ∙ ap (λ (g : List Event). history_after g es rs) (sym refused.3)

  run_history : (h es : List Event) (rs : List Reply) (new : List Event) → Run x h es rs new → new ≡ history_after h es rs
  run_history h [] [] new run = run
  run_history h (e ∷ es) (r ∷ rs) new run = run_history run.0 es rs new run.2 ∙ sym (one_step h e r run.0 es rs run.1)
  run_history h [] (r ∷ rs) new run = absurd run
  run_history h (e ∷ es) [] new run = absurd run

  run_answers : (h es : List Event) (rs : List Reply) (new : List Event) → Run x h es rs new → length rs ≡ length es
  run_answers h [] [] new run = refl
  run_answers h (e ∷ es) (r ∷ rs) new run = let more = run_answers run.0 es rs new run.2 in omega (arith, more)
  run_answers h [] (r ∷ rs) new run = absurd run
  run_answers h (e ∷ es) [] new run = absurd run

  -- ---- each call means its tree
  abbrev Answers : List Event → ℕ → ℕ → List Value → Reply → Type 0
  Answers before w s a reply =
      ((steps : ℕ) × (reply ≡ Called (meaning d before s a) steps)) ⊎ ((told : Refusal) × Refuses (tests x before (Call w s a)) told × (reply ≡ Refused told))

  call_answered : (h : List Event) (w s : ℕ) (a : List Value) (reply : Reply) (new : List Event) → Step x h (Call w s a) reply new → Answers h w s a reply
  call_answered h w s a reply new (inl accepted) = inl (_, accepted.1)
  call_answered h w s a reply new (inr refused) = inr (refused.0, refused.1, refused.2)

  calls_mean : (h earlier later : List Event) (told rest : List Reply) (new : List Event) (w s : ℕ) (a : List Value) (reply : Reply) → length earlier ≡ length told
      → Run x h (earlier ++ Call w s a ∷ later) (told ++ reply ∷ rest) new → Answers (history_after h earlier told) w s a reply
  calls_mean h [] later [] rest new w s a reply level run = call_answered h w s a reply run.0 run.1
  calls_mean h (e ∷ earlier) later (r ∷ told) rest new w s a reply level run =
      subst (λ (g : List Event). Answers g w s a reply) (sym (one_step h e r run.0 earlier told run.1))
      (calls_mean run.0 earlier later told rest new w s a reply (omega (arith, level)) run.2)
  calls_mean h [] later (r ∷ told) rest new w s a reply level run = absurd (omega (arith, level))
  calls_mean h (e ∷ earlier) later [] rest new w s a reply level run = absurd (omega (arith, level))

  run_means : (h es : List Event) (rs : List Reply) (new : List Event) → Run x h es rs new → EachCallMeansItsTree x h es rs
  run_means h es rs new run w s a reply before at =
      let split = subst (λ (ys : List Reply). Run x h (at.earlier ++ Call w s a ∷ at.later) ys new) at.answered (subst (λ (ys : List Event). Run x h ys rs new) at.asked run) in
      subst (λ (g : List Event). Answers g w s a reply) (sym at.history) (calls_mean h at.earlier at.later at.told at.rest new w s a reply at.level split)

  pub headline : (h es : List Event) (rs : List Reply) (new : List Event) → IsDefinition d → IsLimits l → Legal d l (records d h) → Run x h es rs new → IsHeadline x h es rs new
  headline h es rs new is limits legal run = record {
    answered = run_answers h es rs new run;
    history = run_history h es rs new run;
    calls = run_means h es rs new run;
    plans = plans_best new is limits (run_legal h es rs new run legal);
  }

-- behind what a machine has accepted
pub headline_behind : (x : Setting) (b : BookState) (h es : List Event) (rs : List Reply) (new : List Event) → IsBook b → b.definition ≡ x.definition → b.limits ≡ x.limits
    → b.records ≡ records x.definition h → Run x h es rs new → IsHeadline x h es rs new
headline_behind x b h es rs new is definition limits same run =
    let legal = subst (Legal b.definition b.limits) same is.legal in
    headline x h es rs new (subst IsDefinition definition is.definition) (subst IsLimits limits is.limits)
    (subst (λ (k : LimitsData). Legal x.definition k (records x.definition h)) limits (subst (λ (e : DefinitionData). Legal e b.limits (records x.definition h)) definition legal)) run
