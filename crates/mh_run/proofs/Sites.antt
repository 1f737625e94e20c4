-- What an invocation answers, from what the site's code does one level below.
use Rattle.std.proofs.Common.{◌≡◌, Bool, ℕ, ◌+◌, ◌-◌, ◌≤◌, ◌<◌, ◌∙◌, ap, sym, subst, refl, arith, List, [], length, map, take, length-take}
use Rattle.std.proofs.lemmas.List.FromFn.{length-map-range_with_len}
use Rattle.mh_code.specs.Laws.Costs.{costs, weighs}
use Rattle.mh_code.specs.Laws.Means.{means}
use Rattle.mh_code.specs.Laws.Scoped.{routine_in}
use Rattle.mh_code.specs.Routine.{invocation, answer, give}
use Rattle.mh_code.specs.RoutineOf.{handle_routine, routine}
use Rattle.mh_code.specs.inner.Runs.{run_routine, routine_steps, weight}
use Rattle.mh_code.specs.inner.Scope.{IsSourceIn}
use Rattle.mh_eval.specs.Answers.{Ran}
use Rattle.mh_eval.specs.Entered.{WithValue, plain_below}
use Rattle.mh_eval.specs.Quiet.{NoTexts}
use Rattle.mh_eval.specs.declared.answer.Answer.{Answer}
use Rattle.mh_eval.proofs.Invocations.{reached}
use Rattle.mh_eval.proofs.SiteRuns.{called_scoped, called_weight, called_outcome, called_steps, called_quiet, called_shallow}
use Rattle.mh_run.specs.Laws.Quiet.{quiet, few_slots}
use Rattle.mh_run.specs.inner.Quiet.{IsSourceQuiet, IsRoutineQuiet}
use Rattle.mh_run.specs.inner.Runs.{Answers, Ends, GoesOn, MayGo, MayRun, most_own}
use Rattle.mh_tree.specs.Code.{Code}
use Rattle.mh_tree.specs.Handle.{TypedTree, IsSound}
use Rattle.mh_tree.specs.Laws.{call_weighs, few_parameters, leading_few, reads_first, steps_at}
use Rattle.mh_tree.specs.Limits.{most_nodes}
use Rattle.mh_tree.specs.Meaning.{◌>>=◌, after}
use Rattle.mh_tree.specs.Prepared.{handle_code, leading_arguments}
use Rattle.mh_tree.specs.Running.{run_code, code_steps, value_of}
use Rattle.mh_tree.specs.inner.Scoped.{IsScoped}
use Rattle.mh_tree.specs.Sites.{Setting, setting, env, most_at, greatest_steps, MayCall, target_at, calls_below, steps_below}
use Rattle.mh_tree.specs.declared.operand.Operand.{Operand}
use Rattle.mh_tree.specs.declared.operand.Operand.TheVariants.{Argument}
use Rattle.mh_type.specs.declared.outcome.Outcome.{Outcome}
use Rattle.mh_type.specs.declared.outcome.Outcome.TheVariants as outcome
use Rattle.mh_type.specs.Signature.{Signature}
use Rattle.mh_type.specs.declared.value.Value.{Value}

only_value : (o : Outcome) → (o >>= (λ x. outcome.Value x)) ≡ o
only_value (outcome.Value x) = refl
only_value (outcome.Thrown t) = refl

no_more : (o : Outcome) (n : ℕ) → 0 + (n + after o (λ x. 0)) ≡ n
no_more (outcome.Value x) n = omega arith
no_more (outcome.Thrown t) n = omega arith

pub no_purpose : (o : Outcome) → WithValue o (λ x. Unit {0})
no_purpose (outcome.Value x) = tt
no_purpose (outcome.Thrown t) = tt

-- the routine of code that stands alone
module _ (v : Setting) (C : ℕ → ℕ → Type 0) (k : ℕ) (b : List Value) (code : Code) (scoped : IsScoped C k (length b) 0 code) where
  pub alone_means : run_routine (env v) (routine code 0 0 answer) b [] ≡ run_code (env v) code b []
  alone_means = means C k (length b) (env v) b code 0 0 answer [] scoped tt refl ∙ only_value (run_code (env v) code b [])

  pub alone_costs : routine_steps (env v) (routine code 0 0 answer) b [] ≡ code_steps (env v) code b []
  alone_costs = costs C k (length b) (env v) b code 0 0 answer [] scoped tt refl ∙ no_more (run_code (env v) code b []) (code_steps (env v) code b [])

module _ (valid : List Bool) (ts : List TypedTree) (site count : ℕ) (b : List Value) (many : length b ≡ count) (sound : IsSound (target_at ts site).tree (target_at ts site).signature) (d : ℕ) (may : MayCall d ts (length valid) site count) where
  abbrev pub code : Code
  code = handle_code (target_at ts site)

  abbrev pub below : Setting
  below = setting (d - 1) valid ts

  inside : IsScoped (MayCall (d - 1) ts (length valid)) (length valid) (length b) 0 code
  inside = called_scoped valid ts site count b many code refl sound d may

  light : weight (most_at (d - 1)) (handle_routine (target_at ts site)) ≤ most_at d
  light = omega (arith, weighs (most_at (d - 1)) code 0 0 answer, called_weight valid ts site count b many code refl sound d may)

  pub site_own : weight 0 (handle_routine (target_at ts site)) ≤ most_nodes
  site_own =
      let known = reached d ts (length valid) site may.0 may.1 in
      let counted : length (target_at ts site).signature.parameters ≡ length b = omega (arith, ap (λ (m : Signature). length m.parameters) known.same, may.2, many) in
      omega (arith, weighs 0 code 0 0 answer, call_weighs (env below) (target_at ts site) b code refl sound counted 0, steps_at 0 (target_at ts site).tree sound.small)

  site_may : (m : ℕ) → m + most_at d ≤ greatest_steps → MayRun below b [] (handle_routine (target_at ts site)) m
  site_may m few = record {
    scoped = routine_in (MayCall (d - 1) ts (length valid)) (length valid) (length b) code 0 0 answer inside tt;
    few = omega (arith, few, light);
    room = omega (arith, few_slots code 0 0 answer, called_shallow valid ts site count b many code refl sound d may);
  }

  pub site_go : (m : ℕ) → m + most_at d ≤ greatest_steps → m + most_nodes ≤ most_own → MayGo below b [] (handle_routine (target_at ts site)) m
  site_go m few own = record { run = site_may m few; own = omega (arith, own, site_own) }

  module _ (a l : List Value) (os : List Operand) (is : b ≡ map (value_of a l) os) where
    outcome_is : run_routine (env below) (handle_routine (target_at ts site)) b [] ≡ calls_below d valid ts site (map (value_of a l) os)
    outcome_is = alone_means below (MayCall (d - 1) ts (length valid)) (length valid) b code inside ∙ called_outcome valid ts site count b many code refl sound d may ∙ ap (calls_below d valid ts site) is

    steps_are : routine_steps (env below) (handle_routine (target_at ts site)) b [] ≡ steps_below d valid ts site (map (value_of a l) os)
    steps_are = alone_costs below (MayCall (d - 1) ts (length valid)) (length valid) b code inside ∙ called_steps valid ts site count b many code refl sound d may ∙ ap (steps_below d valid ts site) is

    quiet_is : IsSourceQuiet (setting d valid ts) (invocation site os) a l → IsRoutineQuiet below (handle_routine (target_at ts site)) b []
    quiet_is q =
        quiet (MayCall (d - 1) ts (length valid)) (length valid) (length b) below b code 0 0 answer [] inside tt refl
        (called_quiet valid ts site count b many code refl sound d may (subst NoTexts (sym is) q.0) (subst (plain_below d valid ts site) (sym is) q.1))
        (no_purpose (run_code (env below) code b []))

    pub site_answers : (r : Answer) (n : ℕ) → Ends below b [] (handle_routine (target_at ts site)) 0 r n → Answers (setting d valid ts) a l (invocation site os) r n
    site_answers r n h =
        let plain : (i : ℕ) → 0 + i ≡ i = λ i. omega arith in
        record {
          ran = subst (λ o. Ran r n o (steps_below d valid ts site (map (value_of a l) os))) outcome_is
              (subst (λ m. Ran r n (run_routine (env below) (handle_routine (target_at ts site)) b []) m) (plain _ ∙ steps_are) h.ran);
          few = omega (arith, h.few, light);
          quiet = λ q. h.quiet (quiet_is q);
        }

  -- a site that gives the answer has its tree in the place of the invocation
  pub site_goes_on : (a : List Value) (os : List Operand) → b ≡ map (value_of a []) os → (s m n : ℕ) → n ≡ m + s → n + most_at d ≤ greatest_steps → n + most_nodes ≤ most_own → GoesOn (setting d valid ts) a (give s (invocation site os)) m below b (handle_routine (target_at ts site)) n
  site_goes_on a os is s m n total few own = record {
    outcome = outcome_is a [] os is;
    steps = omega (arith, total, steps_are a [] os is);
    few = omega (arith, total, light);
    may = site_go n few own;
    quiet = quiet_is a [] os is;
  }

-- the leading arguments of an invocation
pub leading_many : (C : ℕ → ℕ → Type 0) (site n d count : ℕ) → IsSourceIn C n d (invocation site (leading_arguments count)) → count ≤ n
leading_many C site n d count h = omega (arith, leading_few n d 0 count (omega arith) h.1)

pub leading_are : (a l : List Value) (count : ℕ) → count ≤ length a → take count a ≡ map (value_of a l) (leading_arguments count)
leading_are a l count h = sym (reads_first a l count h)

pub leading_count : (a : List Value) (count : ℕ) → count ≤ length a → length (take count a) ≡ length (leading_arguments count)
leading_count a count h = omega (arith, h, length-take count a, length-map-range_with_len (λ i. Argument i) 0 count)

pub site_there : (d : ℕ) (valid : List Bool) (ts : List TypedTree) (site count : ℕ) → MayCall d ts (length valid) site count → site < length ts
site_there d valid ts site count may = (reached d ts (length valid) site may.0 may.1).known

pub site_deep : (d : ℕ) (valid : List Bool) (ts : List TypedTree) (site count : ℕ) → MayCall d ts (length valid) site count → 1 ≤ d
site_deep d valid ts site count may = (reached d ts (length valid) site may.0 may.1).deep

pub site_few : (d : ℕ) (valid : List Bool) (ts : List TypedTree) (site count : ℕ) → MayCall d ts (length valid) site count → count ≤ 16
site_few d valid ts site count may =
    let known = reached d ts (length valid) site may.0 may.1 in
    omega (arith, may.2, ap (λ (m : Signature). length m.parameters) known.same, few_parameters (target_at ts site).tree (target_at ts site).signature known.typed)
