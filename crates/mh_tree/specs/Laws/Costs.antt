-- The prepared code of a typed tree takes the steps that the tree takes, and at most as many as the tree may.
use Rattle.std.proofs.Common.{◌≡◌, ℕ, ◌+◌, ◌≤◌, refl, ap, sym, ◌∙◌, List, [], ◌∷◌, ◌++◌, take, drop, map, length, arith, Result, length-append, length-take, length-drop, zero-add, if◌then◌else◌}
use Rattle.std.specs.Prelude.{slice_set}
use Rattle.std.proofs.lemmas.List.{take-map}
use Rattle.std.proofs.Math.ListN.{length-set}
use Rattle.mh_type.specs.declared.kind.Kind.{Kind}
use Rattle.mh_type.specs.declared.value.Value.{Value}
use Rattle.mh_type.specs.declared.outcome.Throw.{Throw}
use Rattle.mh_type.specs.declared.outcome.Outcome.{Outcome}
use Rattle.mh_type.specs.declared.outcome.Outcome.TheVariants.{Thrown, Value as Value'}
use Rattle.mh_type.specs.Signature.{Signature}
use Rattle.mh_tree.specs.Meaning.{mean, steps, filtered, filter_steps, with_value, after, after_filters, argument, put_in, taken_out, choose_steps, is_valid}
use Rattle.mh_tree.specs.Tree.{Tree, Filters, constant, identity, operation, insert, discard, permute, filter, filter_return, fold, guard, point, invoke, no_more, absent, present}
use Rattle.mh_tree.specs.Typing.{IsTyped, AreTyped}
use Rattle.mh_tree.specs.Laws.LeadingArguments.{mean_leading, steps_leading}
use Rattle.mh_tree.specs.Code.{Code}
use Rattle.mh_tree.specs.Limits.{most_steps, all_steps}
use Rattle.mh_tree.specs.Running.{value_of, code_steps, weight}
use Rattle.mh_tree.specs.Prepared.{operand_at, prepared, prepared_filters}
use Rattle.mh_tree.specs.declared.operand.Operand.{Operand}
use Rattle.mh_tree.specs.declared.operand.Operand.TheVariants.{Local}
use Rattle.mh_tree.specs.Laws.OperandReads.{Reads, reads_now, reads_inserted, reads_discarded, reads_permuted, reads_one, reads_newest, reads_set, reads_nothing, permuted_wide, filter_wide, shorter, one_more}
use Rattle.mh_tree.specs.Laws.Means.{means}
use Rattle.mh_tree.specs.Environment.{Environment}

-- the steps after a filter
joined_steps : (o : Outcome) (n : ℕ) (g : Value → ℕ) (r : Value → Result (List Value) Throw) (goes : List Value → ℕ) → n + after o (λ x. g x + after_filters (r x) goes) ≡ (n + after o g) + after_filters (with_value o r) goes
joined_steps (Value' x) n g r goes = omega arith
joined_steps (Thrown t) n g r goes = omega arith

moved : (s n : ℕ) → (s + 1) + n ≡ s + (1 + n)
moved s n = omega arith

mutual
  pub costs : (v : Environment) (t : Tree) (m : Signature) (env : List Operand) (d s : ℕ) (a l b : List Value) → IsTyped t m → length m.parameters ≤ length b → d ≡ length l → Reads a l env b → code_steps v (prepared t env d s) a l ≡ s + steps v t b
  costs v (constant x) m env d s a l b typed wide deep h = refl
  costs v (identity k) m env d s a l b typed wide deep h = refl
  costs v (operation o) m env d s a l b typed wide deep h = refl
  costs v (insert t p xs) m env d s a l b (n, typed, inserts) wide deep h =
      let made = ap (λ (k : Signature). length k.parameters) inserts.made in
      let inside = inserts.inside in
      let count = simp (length-append, length-take, length-drop) at made in
      costs v t n _ d (s + 1) a l (put_in b p xs) typed (simp (length-append, length-take, length-drop) (omega arith)) deep (reads_inserted a l env b p xs h) ∙ moved s _
  costs v (discard t p ks) m env d s a l b (n, typed, discards) wide deep h =
      let made = ap (λ (k : Signature). length k.parameters) discards.made in
      let inside = discards.inside in
      let count = simp (length-append, length-take, length-drop) at made in
      costs v t n _ d (s + 1) a l (taken_out b p (length ks)) typed (simp (length-append, length-take, length-drop) (omega arith)) deep (reads_discarded a l env b p (length ks) h) ∙ moved s _
  costs v (permute t new_type r) m env d s a l b (n, typed, reorders, made) wide deep h =
      costs v t n _ d (s + 1) a l (map (argument b) r) typed (permuted_wide n m r b reorders) deep (reads_permuted a l env b r h) ∙ moved s _
  costs v (filter t p fs) m env d s a l b (n, typed, inside, returns, firsts, filters) wide deep h =
      costs_filters v fs (drop p n.parameters) (drop p m.parameters) p env d (s + 1) a l b (prepared t) (steps v t) (length n.parameters) filters
      (filter_wide p fs n.parameters m.parameters b inside firsts filters wide) deep h
      (λ env' d' s' l' b' wide' deep' h'. costs v t n env' d' s' a l' b' typed wide' deep' h')
      ∙ moved s _
  costs v (filter_return t f) m env d s a l b (k, typed, last) wide deep h =
      (λ i. (s + 1) + ((costs v t _ env d 0 a l b typed wide deep h ∙ zero-add _) i
      + after (means v t _ env d 0 a l b typed wide deep h i)
      (λ x. (costs v f _ (Local d ∷ []) (d + 1) 0 a (l ++ x ∷ []) (x ∷ []) last (omega arith) (one_more l x d deep) (reads_newest a l x d [] [] deep (reads_nothing a l)) ∙ zero-add _) i)))
      ∙ moved s _
  costs v (fold t c) m env d s a l b (k, ks, typed, combiner, begins) wide deep h =
      let few = shorter ks m.parameters begins in
      (λ i. (s + 1) + ((costs v c _ env d 0 a l b combiner (omega arith) deep h ∙ zero-add _ ∙ sym (steps_leading v c _ b combiner (omega arith))) i
      + after ((means v c _ env d 0 a l b combiner (omega arith) deep h ∙ sym (mean_leading v c _ b combiner (omega arith))) i)
      (λ x. (costs v t _ (Local d ∷ env) (d + 1) 0 a (l ++ x ∷ []) (x ∷ b) typed (omega arith) (one_more l x d deep) (reads_newest a l x d env b deep h) ∙ zero-add _) i)))
      ∙ moved s _
  costs v (guard c x y) m env d s a l b (ks, test, begins, one, two) wide deep h =
      let few = shorter ks m.parameters begins in
      (λ i. (s + 1) + ((costs v c _ env d 0 a l b test (omega arith) deep h ∙ zero-add _ ∙ sym (steps_leading v c _ b test (omega arith))) i
      + after ((means v c _ env d 0 a l b test (omega arith) deep h ∙ sym (mean_leading v c _ b test (omega arith))) i)
      (λ z. choose_steps z ((costs v x m env d 0 a l b one wide deep h ∙ zero-add _) i) ((costs v y m env d 0 a l b two wide deep h ∙ zero-add _) i))))
      ∙ moved s _
  costs v (point p x y) m env d s a l b (one, two) wide deep h =
      (λ i. (s + 1) + (if is_valid v p then (costs v x m env d 0 a l b one wide deep h ∙ zero-add _) i else (costs v y m env d 0 a l b two wide deep h ∙ zero-add _) i))
      ∙ moved s _
  costs v (invoke k n) m env d s a l b typed wide deep h =
      let w = length n.parameters in
      ap (λ c. (s + 1) + v.call_steps k c) (sym (take-map (value_of a l) w env) ∙ ap (λ c. take w c) (reads_now a l env b h))
      ∙ moved s _

  costs_filters : (v : Environment) (fs : Filters) (old new : List Kind) (p : ℕ) (env : List Operand) (d s : ℕ) (a l b : List Value) (go : List Operand → ℕ → ℕ → Code) (goes : List Value → ℕ) (w : ℕ) → AreTyped fs old new → w ≤ length b → d ≡ length l → Reads a l env b → ((env' : List Operand) (d' s' : ℕ) (l' b' : List Value) → w ≤ length b' → d' ≡ length l' → Reads a l' env' b' → code_steps v (go env' d' s') a l' ≡ s' + goes b') → code_steps v (prepared_filters fs p env d s go) a l ≡ s + (filter_steps v fs p b + after_filters (filtered v fs p b) goes)
  costs_filters v no_more old new p env d s a l b go goes w typed wide deep h k = k env d s l b wide deep h ∙ ap (λ n. s + n) (sym (zero-add _))
  costs_filters v (absent fs) (z ∷ old) (j ∷ new) p env d s a l b go goes w typed wide deep h k =
      costs_filters v fs old new (p + 1) env d s a l b go goes w typed.1 wide deep h k
  costs_filters v (absent fs) [] new p env d s a l b go goes w typed wide deep h k = absurd typed
  costs_filters v (absent fs) (z ∷ old) [] p env d s a l b go goes w typed wide deep h k = absurd typed
  costs_filters v (present f fs) (z ∷ old) (j ∷ new) p env d s a l b go goes w typed wide deep h k =
      (λ i. s + ((costs v f _ (operand_at env p ∷ []) d 0 a l (argument b p ∷ []) typed.0 (omega arith) deep (reads_one a l env b p h) ∙ zero-add _) i
      + after (means v f _ (operand_at env p ∷ []) d 0 a l (argument b p ∷ []) typed.0 (omega arith) deep (reads_one a l env b p h) i)
      (λ x. (costs_filters v fs old new (p + 1) (slice_set env p (Local d)) (d + 1) 0 a (l ++ x ∷ []) (slice_set b p x) go goes w typed.1 (omega (arith, length-set b p x)) (one_more l x d deep) (reads_set a l x d p env b deep h) k ∙ zero-add _) i)))
      ∙ ap (λ n. s + n) (joined_steps (mean v f (argument b p ∷ [])) _ (λ x. filter_steps v fs (p + 1) (slice_set b p x)) (λ x. filtered v fs (p + 1) (slice_set b p x)) goes)
  costs_filters v (present f fs) [] new p env d s a l b go goes w typed wide deep h k = absurd typed
  costs_filters v (present f fs) (z ∷ old) [] p env d s a l b go goes w typed wide deep h k = absurd typed

-- the steps of a tree's code are at most its own, if an invocation takes at most c besides its own
mutual
  pub weighs : (c : ℕ) (t : Tree) (env : List Operand) (d s : ℕ) → weight c (prepared t env d s) ≡ s + most_steps c t
  weighs c (constant x) env d s = refl
  weighs c (identity k) env d s = refl
  weighs c (operation o) env d s = refl
  weighs c (insert t p xs) env d s = weighs c t _ d (s + 1) ∙ moved s _
  weighs c (discard t p ks) env d s = weighs c t _ d (s + 1) ∙ moved s _
  weighs c (permute t m r) env d s = weighs c t _ d (s + 1) ∙ moved s _
  weighs c (filter t p fs) env d s = filters_weigh c fs p env d (s + 1) (prepared t) (most_steps c t) (weighs c t) ∙ omega arith
  weighs c (filter_return t f) env d s = omega (arith, weighs c t env d 0, weighs c f (Local d ∷ []) (d + 1) 0)
  weighs c (fold t b) env d s = omega (arith, weighs c b env d 0, weighs c t (Local d ∷ env) (d + 1) 0)
  weighs c (guard b x y) env d s = omega (arith, weighs c b env d 0, weighs c x env d 0, weighs c y env d 0)
  weighs c (point p x y) env d s = omega (arith, weighs c x env d 0, weighs c y env d 0)
  weighs c (invoke k n) env d s = moved s c

  filters_weigh : (c : ℕ) (fs : Filters) (p : ℕ) (env : List Operand) (d s : ℕ) (go : List Operand → ℕ → ℕ → Code) (n : ℕ) → ((env' : List Operand) (d' s' : ℕ) → weight c (go env' d' s') ≡ s' + n) → weight c (prepared_filters fs p env d s go) ≡ s + (all_steps c fs + n)
  filters_weigh c no_more p env d s go n k = omega (arith, k env d s)
  filters_weigh c (absent fs) p env d s go n k = filters_weigh c fs (p + 1) env d s go n k
  filters_weigh c (present f fs) p env d s go n k =
      omega (arith, weighs c f (operand_at env p ∷ []) d 0, filters_weigh c fs (p + 1) (slice_set env p (Local d)) (d + 1) 0 go n k)
