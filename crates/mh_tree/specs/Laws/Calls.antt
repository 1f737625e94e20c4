-- The behaviour of a handle's code in a call.
use Rattle.std.proofs.Common.{◌≡◌, ℕ, ◌≤◌, ap, sym, ◌∙◌, List, [], length, map, arith, zero-add, subst}
use Rattle.std.specs.List.{range_with_len}
use Rattle.std.proofs.lemmas.List.{length-map}
use Rattle.std.proofs.lemmas.List.FromFn.{length-map-range_with_len}
use Rattle.mh_type.specs.declared.kind.Kind.{Kind}
use Rattle.mh_type.specs.declared.value.Value.{Value}
use Rattle.mh_type.specs.Kinds.{kind_of}
use Rattle.mh_type.specs.Fits.{Fits}
use Rattle.mh_tree.specs.Code.{Code}
use Rattle.mh_tree.specs.Handle.{TypedTree, IsSound}
use Rattle.mh_tree.specs.Limits.{point_bound, most_steps}
use Rattle.mh_tree.specs.Meaning.{mean, steps}
use Rattle.mh_tree.specs.Prepared.{handle_code}
use Rattle.mh_tree.specs.Running.{run_code, code_steps, weight}
use Rattle.mh_tree.specs.inner.Scoped.{IsScoped}
use Rattle.mh_tree.specs.Sites.{EachInvoke}
use Rattle.mh_type.specs.Signature.{Signature}
use Rattle.mh_tree.specs.declared.operand.Operand.TheVariants.{Argument}
use Rattle.mh_tree.specs.Laws.Costs.{costs, weighs}
use Rattle.mh_tree.specs.Laws.Means.{means}
use Rattle.mh_tree.specs.Laws.Scope.{scoped, in_arguments, reads_arguments}
use Rattle.mh_tree.specs.Environment.{Environment}

-- arguments that fit are as many as the parameters
pub call_count : (m : Signature) (a : List Value) → Fits m a → length m.parameters ≡ length a
call_count m a fits = sym (ap (λ (ks : List Kind). length ks) fits) ∙ length-map a kind_of

module _ (v : Environment) (h : TypedTree) (a : List Value) (code : Code) (kept : code ≡ handle_code h) (sound : IsSound h.tree h.signature) (count : length h.signature.parameters ≡ length a) where
  pub call_means : run_code v code a [] ≡ mean v h.tree a
  call_means =
      ap (λ k. run_code v k a []) kept
      ∙ means v h.tree h.signature _ 0 0 a [] a sound.typed (omega (arith, count)) (omega arith) (λ e. reads_arguments a e _ count)

  pub call_costs : code_steps v code a [] ≡ steps v h.tree a
  call_costs =
      ap (λ k. code_steps v k a []) kept
      ∙ costs v h.tree h.signature _ 0 0 a [] a sound.typed (omega (arith, count)) (omega arith) (λ e. reads_arguments a e _ count)
      ∙ zero-add _

  pub call_weighs : (c : ℕ) → weight c code ≡ most_steps c h.tree
  call_weighs c =
      ap (weight c) kept
      ∙ weighs c h.tree (map (λ i. Argument i) (range_with_len 0 (length h.signature.parameters))) 0 0
      ∙ zero-add _

  -- if P allows the tree's invocations, C allows those of the code
  pub call_scoped : (C : ℕ → ℕ → Type 0) (P : ℕ → Signature → Type 0) → ((s : ℕ) (m : Signature) → P s m → C s (length m.parameters)) → (k : ℕ) → point_bound h.tree ≤ k → EachInvoke P h.tree → IsScoped C k (length a) 0 code
  call_scoped C P allows k known invokes =
      let S : Code → Type 0 = λ x. IsScoped C k (length a) 0 x in
      let operands = map (λ i. Argument i) (range_with_len 0 (length h.signature.parameters)) in
      let wide : length h.signature.parameters ≤ length operands = omega (arith, length-map-range_with_len (λ i. Argument i) 0 (length h.signature.parameters)) in
      subst S (sym kept) (scoped C P allows k (length a) h.tree h.signature _ 0 0 sound.typed wide (in_arguments (length a) (length h.signature.parameters) 0 (omega (arith, count))) known invokes)
