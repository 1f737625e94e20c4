-- Walks of invocations, from those of the sites' trees.
use Rattle.std.proofs.Common.{◌≡◌, ℕ, zero, suc, ◌+◌, ◌-◌, ◌≤◌, ◌<◌, ◌∙◌, ap, sym, subst, arith, Bool, List, [], ◌++◌, take, length, append-nil}
use Rattle.std.proofs.lemmas.List.{take-append-le}
use Rattle.mh_type.specs.declared.value.Value.{Value}
use Rattle.mh_type.specs.Signature.{Signature}
use Rattle.mh_tree.specs.Arity.{arity}
use Rattle.mh_tree.specs.Handle.{TypedTree, IsSound}
use Rattle.mh_tree.specs.Limits.{point_bound}
use Rattle.mh_tree.specs.Meaning.{mean, steps}
use Rattle.mh_tree.specs.Sites.{setting, env, EachInvoke, MayReach, target_at}
use Rattle.mh_tree.specs.Tree.{invoke}
use Rattle.mh_tree.specs.Typing.{IsTyped}
use Rattle.mh_tree.specs.inner.Widths.{CanRun}
use Rattle.mh_tree.specs.Laws.{arity_counts, mean_leading, steps_leading, steps_at}
use Rattle.mh_eval.specs.Entered.{EntersPlain}
use Rattle.mh_eval.specs.Quiet.{NoTexts}
use Rattle.mh_eval.specs.inner.Walked.{Walked}
use Rattle.mh_eval.specs.declared.answer.Answer.{Answer}
use Rattle.mh_eval.proofs.EntersLeading.{enters_leading}
use Rattle.mh_eval.proofs.Extending.{front_texts}
use Rattle.mh_eval.proofs.Walks.{ran_more, ran_as}

pub less_one : (d : ℕ) → suc d - 1 ≡ d
less_one d = omega arith

-- what is known of a site that is invoked
pub record Reached (d : ℕ) (targets : List TypedTree) (k s : ℕ) (n : Signature) : Type 0 where
  pub deep : 1 ≤ d
  pub known : s < length targets
  pub same : n ≡ (target_at targets s).signature
  pub typed : IsTyped (target_at targets s).tree (target_at targets s).signature
  pub bound : point_bound (target_at targets s).tree ≤ k
  pub invokes : EachInvoke (MayReach (d - 1) targets k) (target_at targets s).tree

pub reached : (d : ℕ) (targets : List TypedTree) (k s : ℕ) (n : Signature) → MayReach d targets k s n → Reached d targets k s n
reached zero targets k s n h = absurd h
reached (suc d) targets k s n h = record { deep = omega arith; known = h.0; same = h.1; typed = h.2; bound = h.3; invokes = subst (λ i. EachInvoke (MayReach i targets k) (target_at targets s).tree) (sym (less_one d)) h.4 }

-- the site's tree can run on the arguments of an invocation
pub site_runs : (d : ℕ) (valid : List Bool) (targets : List TypedTree) (s : ℕ) (n : Signature) (w : ℕ) → IsSound (target_at targets s).tree (target_at targets s).signature → CanRun (invoke s n) w (setting d valid targets) → CanRun (target_at targets s).tree w (setting (d - 1) valid targets)
site_runs zero valid targets s n w sound runs = absurd runs.invokes
site_runs (suc d) valid targets s n w sound runs =
    let made = ap (λ (m : Signature). length m.parameters) runs.typed.1 in
    let same = ap (λ (m : Signature). length m.parameters) runs.invokes.1 in
    subst (λ i. CanRun (target_at targets s).tree w (setting i valid targets)) (sym (less_one d)) (record {
      signature = (target_at targets s).signature;
      typed = sound.typed;
      wide = omega (arith, made, same, runs.wide);
      known = runs.invokes.3;
      small = omega (arith, steps_at d (target_at targets s).tree sound.small, runs.small);
      invokes = runs.invokes.4;
    })

pub site_walks : (d : ℕ) (valid : List Bool) (targets : List TypedTree) (s : ℕ) (n : Signature) (a : List Value) → IsSound (target_at targets s).tree (target_at targets s).signature → CanRun (invoke s n) (length a) (setting d valid targets) → (r : Answer) (k m c : ℕ) → Walked r k (setting (d - 1) valid targets) (target_at targets s).tree a m c → Walked r (1 + k) (setting d valid targets) (invoke s n) a m c
site_walks zero valid targets s n a sound runs r k m c h = absurd runs.invokes
site_walks (suc d) valid targets s n a sound runs r k m c walked =
    let h = subst (λ i. Walked r k (setting i valid targets) (target_at targets s).tree a m c) (less_one d) walked in
    let x = setting d valid targets in
    let t = (target_at targets s).tree in
    let q = (target_at targets s).signature in
    let made = ap (λ (j : Signature). length j.parameters) runs.typed.1 in
    let same = ap (λ (j : Signature). length j.parameters) runs.invokes.1 in
    let wide : length q.parameters ≤ length a = omega (arith, made, same, runs.wide) in
    let counts : length n.parameters ≡ arity t = omega (arith, same, arity_counts t q sound.typed) in
    let lead : take (length n.parameters) a ≡ take (arity t) a = ap (λ i. take i a) counts in
    record {
      ran = ran_as r (1 + k) _ _ _ _ (ran_more r k _ _ h.ran)
          (sym (ap (mean (env x) t) lead ∙ mean_leading (env x) t q a sound.typed wide))
          (ap (λ i. 1 + i) (sym (ap (steps (env x) t) lead ∙ steps_leading (env x) t q a sound.typed wide)));
      few = omega (arith, h.few, steps_at d t sound.small);
      quiet = λ e plain none room.
          let longer : length n.parameters ≤ length a = omega (arith, made, runs.wide) in
          let first : take (length n.parameters) (a ++ e) ≡ take (arity t) a = take-append-le (length n.parameters) a e longer ∙ lead in
          let inner = enters_leading x t q a sound.typed wide (subst (EntersPlain x t) first plain.1) in
          let all = sym (append-nil a) in
          h.quiet [] (subst (EntersPlain x t) all inner) (subst NoTexts all (front_texts a e none)) (omega (arith, room, sound.shallow));
    }
