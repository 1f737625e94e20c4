-- What is lowered from a handle's code does what its tree does.
use Rattle.std.proofs.Common.{◌≡◌, ℕ, ◌+◌, ◌≤◌, List, [], length, refl, ap, sym, ◌∙◌, subst, arith}
use Rattle.std.specs.Prelude.{ℤ, IfSome}
use Rattle.mh_type.specs.declared.outcome.Outcome.{Outcome}
use Rattle.mh_type.specs.declared.outcome.Outcome.TheVariants as outcome
use Rattle.mh_type.specs.declared.value.Value.{Value}
use Rattle.mh_type.specs.Fits.{Fits}
use Rattle.mh_tree.specs.Environment.{Environment}
use Rattle.mh_tree.specs.Handle.{TypedTree, IsSound}
use Rattle.mh_tree.specs.Laws.Calls.{call_costs, call_count, call_means, call_scoped}
use Rattle.mh_tree.specs.Laws.Invocations.{sites_below}
use Rattle.mh_tree.specs.Limits.{point_bound, site_bound}
use Rattle.mh_tree.specs.Meaning.{◌>>=◌, after}
use Rattle.mh_tree.specs.Prepared.{handle_code}
use Rattle.mh_tree.specs.inner.Scoped.{IsScoped}
use Rattle.mh_code.specs.Laws.Costs.{costs}
use Rattle.mh_code.specs.Laws.Means.{means}
use Rattle.mh_code.specs.Routine.{answer}
use Rattle.mh_code.specs.RoutineOf.{handle_routine}
use Rattle.mh_words.specs.Holds.{Holds}
use Rattle.mh_words.specs.Means.{Means}
use Rattle.mh_words.specs.RoutineOf.{word_routine}
use Rattle.mh_words.specs.Running.{answer as word_answer, outcome_of}
use Rattle.mh_words.specs.Values.{IsWord, value_of_word}
use Rattle.mh_words.specs.Words.{Words}
use Rattle.mh_words.specs.inner.Agrees.{Agrees}
use Rattle.mh_words.specs.inner.Lowered.{Lowers}

only_value : (o : Outcome) → (o >>= (λ x. outcome.Value x)) ≡ o
only_value (outcome.Value x) = refl
only_value (outcome.Thrown t) = refl

no_more : (o : Outcome) (n : ℕ) → 0 + (n + after o (λ x. 0)) ≡ n
no_more (outcome.Value x) n = omega arith
no_more (outcome.Thrown t) n = omega arith

module _ (h : TypedTree) (sound : IsSound h.tree h.signature) (few : length h.signature.parameters ≤ 16) where
  inside : (v : Environment) (a : List Value) → Fits h.signature a → IsScoped (λ s n. Unit {0}) (point_bound h.tree) (length a) 0 (handle_code h)
  inside v a fits = call_scoped v h a (handle_code h) refl sound (call_count h.signature a fits) (λ s n. Unit {0}) _ (λ s m below. tt) (point_bound h.tree) (omega arith) (sites_below (site_bound h.tree) h.tree (omega arith))

  agrees : (a : List Value) (f : List ℤ) → Fits h.signature a → Holds a f → Agrees h.signature [] a [] f
  agrees a f fits held = record { fits = fits; few = few; held = held; locals = tt }

  pub means_lowered : (w : Words) → w.kind ≡ h.signature.ret → Lowers h.signature [] (word_routine w.entry) (handle_routine h) 0 → Means w h
  means_lowered w same lowered = record {
    outcome = λ v a f fits held.
        let count = call_count h.signature a fits in
        ap (λ k. outcome_of k (word_answer v.valid (word_routine w.entry) f)) same
        ∙ sym (lowered.outcome v a [] f (agrees a f fits held))
        ∙ means (λ s n. Unit {0}) (point_bound h.tree) (length a) v a (handle_code h) 0 0 answer [] (inside v a fits) tt refl
        ∙ only_value _
        ∙ call_means v h a (handle_code h) refl sound count;
    steps = λ v a f fits held.
        let count = call_count h.signature a fits in
        sym (lowered.steps v a [] f (agrees a f fits held))
        ∙ (let plain : (i : ℕ) → 0 + i ≡ i = λ i. omega arith in plain _)
        ∙ costs (λ s n. Unit {0}) (point_bound h.tree) (length a) v a (handle_code h) 0 0 answer [] (inside v a fits) tt refl
        ∙ no_more _ _
        ∙ call_costs v h a (handle_code h) refl sound count;
    proper = λ v a f fits held. subst (λ k. IfSome (word_answer v.valid (word_routine w.entry) f) (λ x. IsWord (value_of_word k x) x)) (sym same) (lowered.proper v a [] f (agrees a f fits held));
  }
