-- The code of sites that are invoked.
use Rattle.std.proofs.Common.{◌≡◌, Bool, ℕ, zero, suc, ◌-◌, ◌≤◌, ap, sym, subst, refl, arith, List, [], length}
use Rattle.mh_type.specs.declared.value.Value.{Value}
use Rattle.mh_tree.specs.Code.{Code}
use Rattle.mh_tree.specs.Running.{run_code, code_steps, weight}
use Rattle.mh_tree.specs.Handle.{TypedTree, IsSound}
use Rattle.mh_tree.specs.Prepared.{handle_code}
use Rattle.mh_tree.specs.inner.Scoped.{IsScoped}
use Rattle.mh_tree.specs.Sites.{setting, env, most_at, MayCall, MayReach, target_at, calls_below, steps_below}
use Rattle.mh_tree.specs.Laws.{call_scoped, call_means, call_costs, few_parameters}
use Rattle.mh_type.specs.Signature.{Signature}
use Rattle.mh_eval.specs.Entered.{plain_below}
use Rattle.mh_eval.specs.Quiet.{IsQuiet, NoTexts, deep}
use Rattle.mh_eval.proofs.Invocations.{less_one, reached}
use Rattle.mh_eval.proofs.QuietCalls.{call_small, call_shallow, call_quiet}

-- the code of a site that is called, on as many arguments as it has parameters
module _ (valid : List Bool) (ts : List TypedTree) (site count : ℕ) (b : List Value) (many : length b ≡ count) (code : Code) (kept : code ≡ handle_code (target_at ts site)) (sound : IsSound (target_at ts site).tree (target_at ts site).signature) where
  called_count : (d : ℕ) → MayCall d ts (length valid) site count → length (target_at ts site).signature.parameters ≡ length b
  called_count d may =
      let known = reached d ts (length valid) site may.0 may.1 in
      omega (arith, ap (λ (m : Signature). length m.parameters) known.same, may.2, many)

  pub called_few : (d : ℕ) → MayCall d ts (length valid) site count → count ≤ 16
  called_few d may = omega (arith, called_count d may, many, few_parameters (target_at ts site).tree (target_at ts site).signature sound.typed)

  pub called_scoped : (d : ℕ) → MayCall d ts (length valid) site count → IsScoped (MayCall (d - 1) ts (length valid)) (length valid) (length b) 0 code
  called_scoped d may =
      let known = reached d ts (length valid) site may.0 may.1 in
      call_scoped (env (setting (d - 1) valid ts)) (target_at ts site) b code kept sound (called_count d may)
      (MayCall (d - 1) ts (length valid)) (MayReach (d - 1) ts (length valid)) (λ s n r. (n, r, refl)) (length valid) known.bound known.invokes

  pub called_weight : (d : ℕ) → MayCall d ts (length valid) site count → weight (most_at (d - 1)) code ≤ most_at d
  called_weight d may =
      let known = reached d ts (length valid) site may.0 may.1 in
      let up : suc (d - 1) ≡ d = omega (arith, known.deep) in
      subst (λ i. weight (most_at (d - 1)) code ≤ most_at i) up (call_small (setting (d - 1) valid ts) (target_at ts site) b code kept sound (called_count d may))

  pub called_shallow : (d : ℕ) → MayCall d ts (length valid) site count → deep code ≤ 1536
  called_shallow d may = call_shallow (setting (d - 1) valid ts) (target_at ts site) b code kept sound (called_count d may)

  pub called_outcome : (d : ℕ) → MayCall d ts (length valid) site count → run_code (env (setting (d - 1) valid ts)) code b [] ≡ calls_below d valid ts site b
  called_outcome zero may = absurd may.1
  called_outcome (suc d) may =
      subst (λ i. run_code (env (setting i valid ts)) code b [] ≡ calls_below (suc d) valid ts site b) (sym (less_one d))
      (call_means (env (setting d valid ts)) (target_at ts site) b code kept sound (called_count (suc d) may))

  pub called_steps : (d : ℕ) → MayCall d ts (length valid) site count → code_steps (env (setting (d - 1) valid ts)) code b [] ≡ steps_below d valid ts site b
  called_steps zero may = absurd may.1
  called_steps (suc d) may =
      subst (λ i. code_steps (env (setting i valid ts)) code b [] ≡ steps_below (suc d) valid ts site b) (sym (less_one d))
      (call_costs (env (setting d valid ts)) (target_at ts site) b code kept sound (called_count (suc d) may))

  pub called_quiet : (d : ℕ) → MayCall d ts (length valid) site count → NoTexts b → plain_below d valid ts site b → IsQuiet (setting (d - 1) valid ts) code b []
  called_quiet zero may none plain = absurd may.1
  called_quiet (suc d) may none plain =
      subst (λ i. IsQuiet (setting i valid ts) code b []) (sym (less_one d))
      (call_quiet (setting d valid ts) (target_at ts site) b code kept sound (called_count (suc d) may) may.1.4 none plain)
