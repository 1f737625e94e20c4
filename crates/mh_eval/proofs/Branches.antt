-- What a guard and a fold do, by what their first part does on all arguments.
use Rattle.std.proofs.Common.{◌≡◌, ◌+◌, ◌≤◌, List, ◌∷◌, length, take, arith, length-take, ap}
use Rattle.mh_type.specs.declared.kind.Kind.{Kind}
use Rattle.mh_type.specs.declared.value.Value.{Value}
use Rattle.mh_tree.specs.Arity.{arity}
use Rattle.mh_tree.specs.Meaning.{◌>>=◌, mean, steps, after, choose, choose_steps}
use Rattle.mh_tree.specs.Tree.{Tree, fold, guard}
use Rattle.mh_tree.specs.inner.Widths.{CanRun}
use Rattle.mh_tree.specs.Laws.{mean_leading, steps_leading}
use Rattle.mh_tree.specs.Sites.{Setting, env}

pub shorter : (ks kinds : List Kind) → ks ≡ take (length ks) kinds → length ks ≤ length kinds
shorter ks kinds begins =
    let e = ap (λ (xs : List Kind). length xs) begins in omega (arith, e, length-take (length ks) kinds)

module _ (v : Setting) (c x y : Tree) (a : List Value) (r : CanRun (guard c x y) (length a) v) where
  test_wide : length r.typed.0 ≤ length a
  test_wide = omega (arith, shorter r.typed.0 r.signature.parameters r.typed.2, r.wide)

  test_mean : mean (env v) c (take (arity c) a) ≡ mean (env v) c a
  test_mean = mean_leading (env v) c _ a r.typed.1 test_wide

  test_steps : steps (env v) c (take (arity c) a) ≡ steps (env v) c a
  test_steps = steps_leading (env v) c _ a r.typed.1 test_wide

  pub guard_mean : mean (env v) (guard c x y) a ≡ (mean (env v) c a >>= λ b. choose b (mean (env v) x a) (mean (env v) y a))
  guard_mean = ap (λ o. o >>= (λ b. choose b (mean (env v) x a) (mean (env v) y a))) test_mean

  pub guard_steps : steps (env v) (guard c x y) a ≡ 1 + (steps (env v) c a + after (mean (env v) c a) (λ b. choose_steps b (steps (env v) x a) (steps (env v) y a)))
  guard_steps = λ i. 1 + (test_steps i + after (test_mean i) (λ b. choose_steps b (steps (env v) x a) (steps (env v) y a)))

module _ (v : Setting) (t c : Tree) (a : List Value) (r : CanRun (fold t c) (length a) v) where
  combiner_wide : length r.typed.1 ≤ length a
  combiner_wide = omega (arith, shorter r.typed.1 r.signature.parameters r.typed.4, r.wide)

  combiner_mean : mean (env v) c (take (arity c) a) ≡ mean (env v) c a
  combiner_mean = mean_leading (env v) c _ a r.typed.3 combiner_wide

  combiner_steps : steps (env v) c (take (arity c) a) ≡ steps (env v) c a
  combiner_steps = steps_leading (env v) c _ a r.typed.3 combiner_wide

  pub fold_mean : mean (env v) (fold t c) a ≡ (mean (env v) c a >>= λ x. mean (env v) t (x ∷ a))
  fold_mean = ap (λ o. o >>= (λ x. mean (env v) t (x ∷ a))) combiner_mean

  pub fold_steps : steps (env v) (fold t c) a ≡ 1 + (steps (env v) c a + after (mean (env v) c a) (λ x. steps (env v) t (x ∷ a)))
  fold_steps = λ i. 1 + (combiner_steps i + after (combiner_mean i) (λ x. steps (env v) t (x ∷ a)))
