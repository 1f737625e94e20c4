-- What a handle's routine does in a call.
use Rattle.std.proofs.Common.{◌≡◌, Bool, ℕ, ◌+◌, ◌≤◌, ◌∙◌, subst, sym, refl, arith, List, [], length, Result, IfOk}
use Rattle.std.specs.Prelude.{IsOk}
use Rattle.std.proofs.lemmas.List.Elements.{All-get_or}
use Rattle.mh_code.specs.Laws.Costs.{weighs}
use Rattle.mh_code.specs.Laws.Scoped.{routine_in}
use Rattle.mh_code.specs.RoutineOf.{handle_routine}
use Rattle.mh_code.specs.Routine.{Routine, answer}
use Rattle.mh_code.specs.inner.Runs.{weight}
use Rattle.mh_eval.specs.Entered.{ArePlain, EntersPlain}
use Rattle.mh_eval.proofs.QuietCalls.{call_quiet, call_shallow, call_small}
use Rattle.mh_eval.proofs.QuietTrees.{of_kinds, plain_parameters}
use Rattle.mh_run.specs.Laws.Quiet.{few_slots, quiet}
use Rattle.mh_run.specs.inner.Runs.{GoesOn, MayRun, Told}
use Rattle.mh_run.proofs.Pieces.{if_ok}
use Rattle.mh_run.proofs.Sites.{alone_costs, alone_means, no_purpose}
use Rattle.mh_tree.specs.Handle.{TypedTree, IsSound}
use Rattle.mh_tree.specs.Laws.{call_costs, call_count, call_means, call_scoped, call_weighs, lawful_reaches, steps_at}
use Rattle.mh_tree.specs.Limits.{most_nodes, point_bound}
use Rattle.mh_tree.specs.Meaning.{mean, steps}
use Rattle.mh_tree.specs.Prepared.{handle_code}
use Rattle.mh_tree.specs.Running.{run_code}
use Rattle.mh_tree.specs.inner.Scoped.{IsScoped}
use Rattle.mh_tree.specs.Sites.{Setting, env, sites, most_at, greatest_steps, EachInvoke, MayCall, MayReach, HavePoints, IsLawful}
use Rattle.mh_type.specs.Fits.{Fits}
use Rattle.mh_type.specs.declared.outcome.Outcome.{Outcome}
use Rattle.mh_type.specs.declared.value.Value.{Value}

module _ (valid : List Bool) (ts : List TypedTree) (h : TypedTree) (a : List Value) (sound : IsSound h.tree h.signature) (fits : Fits h.signature a) (known : point_bound h.tree ≤ length valid) (points : HavePoints (length valid) ts) (levels : List ℕ) (lawful : IsLawful levels ts h.tree) where
  abbrev pub v : Setting
  v = sites valid ts

  count : length h.signature.parameters ≡ length a
  count = call_count h.signature a fits

  reaches : EachInvoke (MayReach 4 ts (length valid)) h.tree
  reaches = lawful_reaches levels ts (length valid) h.tree lawful (λ s inside. All-get_or (λ (q : TypedTree). point_bound q.tree ≤ length valid) ts s _ inside points)

  inside : IsScoped (MayCall 4 ts (length valid)) (length valid) (length a) 0 (handle_code h)
  inside = call_scoped (env v) h a (handle_code h) refl sound count (MayCall 4 ts (length valid)) (MayReach 4 ts (length valid)) (λ s n r. (n, r, refl)) (length valid) known reaches

  pub handle_may : MayRun v a [] (handle_routine h) 0
  handle_may = record {
    scoped = routine_in (MayCall 4 ts (length valid)) (length valid) (length a) (handle_code h) 0 0 answer inside tt;
    few = omega (arith, weighs (most_at 4) (handle_code h) 0 0 answer, call_small v h a (handle_code h) refl sound count);
    room = omega (arith, few_slots (handle_code h) 0 0 answer, call_shallow v h a (handle_code h) refl sound count);
  }

  pub handle_own : weight 0 (handle_routine h) ≤ most_nodes
  handle_own = omega (arith, weighs 0 (handle_code h) 0 0 answer, call_weighs (env v) h a (handle_code h) refl sound count 0, steps_at 0 h.tree sound.small)

  -- what holds of the piece that is reached holds of the handle
  module _ {E : Type 0} (x : Result (Outcome × ℕ) E) (r : Routine) (is : r ≡ handle_routine h) (w : Setting) (b : List Value) (q : Routine) (n : ℕ) (goes : GoesOn v a r 0 w b q n) (told : Told x w b q n) where
    on : GoesOn v a (handle_routine h) 0 w b q n
    on = subst (λ r. GoesOn v a r 0 w b q n) is goes

    pub handle_outcome : IfOk x (λ y. y.0 ≡ mean (env v) h.tree a)
    handle_outcome =
        subst (λ o. IfOk x (λ y. y.0 ≡ o)) (on.outcome ∙ alone_means v (MayCall 4 ts (length valid)) (length valid) a (handle_code h) inside ∙ call_means (env v) h a (handle_code h) refl sound count) told.outcome

    pub handle_steps : IfOk x (λ y. y.1 ≡ steps (env v) h.tree a)
    handle_steps =
        let plain : (i : ℕ) → 0 + i ≡ i = λ i. omega arith in
        subst (λ m. IfOk x (λ y. y.1 ≡ m)) (on.steps ∙ plain _ ∙ alone_costs v (MayCall 4 ts (length valid)) (length valid) a (handle_code h) inside ∙ call_costs (env v) h a (handle_code h) refl sound count) told.steps

    pub handle_few : IfOk x (λ y. y.1 ≤ greatest_steps)
    handle_few =
        let most : weight (most_at 4) (handle_routine h) ≤ greatest_steps = omega (arith, weighs (most_at 4) (handle_code h) 0 0 answer, call_small v h a (handle_code h) refl sound count) in
        if_ok x _ _ (λ y less. omega (arith, less, on.few, most)) told.few

    pub handle_answered : EntersPlain v h.tree a → IsOk x
    handle_answered plain =
        let none = of_kinds a (subst ArePlain (sym fits) (plain_parameters v h.tree h.signature a sound.typed plain)) in
        told.quiet (on.quiet
        (quiet (MayCall 4 ts (length valid)) (length valid) (length a) v a (handle_code h) 0 0 answer [] inside tt refl
        (call_quiet v h a (handle_code h) refl sound count reaches none plain) (no_purpose (run_code (env v) (handle_code h) a []))))
