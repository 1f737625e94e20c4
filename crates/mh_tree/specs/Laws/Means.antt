-- The prepared code of a typed tree does what the tree does.
use Rattle.std.proofs.Common.{◌≡◌, ℕ, ◌+◌, ◌≤◌, refl, ap, sym, ◌∙◌, List, [], ◌∷◌, ◌++◌, take, drop, map, length, arith, length-append, length-take, length-drop, if◌then◌else◌}
use Rattle.std.specs.Prelude.{slice_set}
use Rattle.std.proofs.lemmas.List.{take-append-drop, take-map}
use Rattle.std.proofs.Math.ListN.{length-set}
use Rattle.mh_type.specs.declared.kind.Kind.{Kind}
use Rattle.mh_type.specs.declared.value.Value.{Value}
use Rattle.mh_type.specs.declared.outcome.Outcome.{Outcome}
use Rattle.mh_type.specs.declared.outcome.Outcome.TheVariants.{Value as Value'}
use Rattle.mh_type.specs.Operations.{operate, op_signature}
use Rattle.mh_type.specs.Signature.{Signature}
use Rattle.mh_tree.specs.Meaning.{◌>>=◌, mean, filtered, with_arguments, argument, put_in, taken_out, choose, is_valid}
use Rattle.mh_tree.specs.Tree.{Tree, Filters, constant, identity, operation, insert, discard, permute, filter, filter_return, fold, guard, point, invoke, no_more, absent, present}
use Rattle.mh_tree.specs.Typing.{IsTyped, AreTyped}
use Rattle.mh_tree.specs.Laws.LeadingArguments.{operate_more, mean_leading}
use Rattle.mh_tree.specs.Code.{Code}
use Rattle.mh_tree.specs.Running.{value_of, run_code}
use Rattle.mh_tree.specs.Prepared.{operand_at, prepared, prepared_filters}
use Rattle.mh_tree.specs.declared.operand.Operand.{Operand}
use Rattle.mh_tree.specs.declared.operand.Operand.TheVariants.{Local}
use Rattle.mh_tree.specs.Laws.OperandReads.{Reads, reads_now, reads_at, reads_inserted, reads_discarded, reads_permuted, reads_one, reads_newest, reads_set, reads_nothing, two_read, passed, permuted_wide, filter_wide, shorter, one_more}
use Rattle.mh_tree.specs.Environment.{Environment}

mutual
  pub means : (v : Environment) (t : Tree) (m : Signature) (env : List Operand) (d s : ℕ) (a l b : List Value) → IsTyped t m → length m.parameters ≤ length b → d ≡ length l → Reads a l env b → run_code v (prepared t env d s) a l ≡ mean v t b
  means v (constant x) m env d s a l b typed wide deep h = refl
  means v (identity k) m env d s a l b typed wide deep h = ap Value' (reads_at a l env b 0 (reads_now a l env b h))
  means v (operation o) m env d s a l b typed wide deep h =
      let many = ap (λ (n : Signature). length n.parameters) typed in
      let k = length (op_signature o).parameters in
      let read : map (value_of a l) (take k env) ≡ take k b = sym (take-map (value_of a l) k env) ∙ ap (λ c. take k c) (reads_now a l env b h) in
      (λ i. operate o (reads_at a l (take k env) (take k b) 0 read i ∷ reads_at a l (take k env) (take k b) 1 read i ∷ []))
      ∙ two_read o (take k b) (omega (arith, length-take k b))
      ∙ sym (operate_more o (take k b) (drop k b) (omega (arith, length-take k b)))
      ∙ ap (operate o) (take-append-drop k b)
  means v (insert t p xs) m env d s a l b (n, typed, inserts) wide deep h =
      let made = ap (λ (k : Signature). length k.parameters) inserts.made in
      let inside = inserts.inside in
      let count = simp (length-append, length-take, length-drop) at made in
      means v t n _ d (s + 1) a l (put_in b p xs) typed (simp (length-append, length-take, length-drop) (omega arith)) deep (reads_inserted a l env b p xs h)
  means v (discard t p ks) m env d s a l b (n, typed, discards) wide deep h =
      let made = ap (λ (k : Signature). length k.parameters) discards.made in
      let inside = discards.inside in
      let count = simp (length-append, length-take, length-drop) at made in
      means v t n _ d (s + 1) a l (taken_out b p (length ks)) typed (simp (length-append, length-take, length-drop) (omega arith)) deep (reads_discarded a l env b p (length ks) h)
  means v (permute t new_type r) m env d s a l b (n, typed, reorders, made) wide deep h =
      means v t n _ d (s + 1) a l (map (argument b) r) typed (permuted_wide n m r b reorders) deep (reads_permuted a l env b r h)
  means v (filter t p fs) m env d s a l b (n, typed, inside, returns, firsts, filters) wide deep h =
      means_filters v fs (drop p n.parameters) (drop p m.parameters) p env d (s + 1) a l b (prepared t) (mean v t) (length n.parameters) filters
      (filter_wide p fs n.parameters m.parameters b inside firsts filters wide) deep h
      (λ env' d' s' l' b' wide' deep' h'. means v t n env' d' s' a l' b' typed wide' deep' h')
  means v (filter_return t f) m env d s a l b (k, typed, last) wide deep h =
      λ i. means v t _ env d 0 a l b typed wide deep h i
      >>= (λ x. means v f _ (Local d ∷ []) (d + 1) 0 a (l ++ x ∷ []) (x ∷ []) last (omega arith) (one_more l x d deep) (reads_newest a l x d [] [] deep (reads_nothing a l)) i)
  means v (fold t c) m env d s a l b (k, ks, typed, combiner, begins) wide deep h =
      let few = shorter ks m.parameters begins in
      λ i. (means v c _ env d 0 a l b combiner (omega arith) deep h ∙ sym (mean_leading v c _ b combiner (omega arith))) i
      >>= (λ x. means v t _ (Local d ∷ env) (d + 1) 0 a (l ++ x ∷ []) (x ∷ b) typed (omega arith) (one_more l x d deep) (reads_newest a l x d env b deep h) i)
  means v (guard c x y) m env d s a l b (ks, test, begins, one, two) wide deep h =
      let few = shorter ks m.parameters begins in
      λ i. (means v c _ env d 0 a l b test (omega arith) deep h ∙ sym (mean_leading v c _ b test (omega arith))) i
      >>= (λ z. choose z (means v x m env d 0 a l b one wide deep h i) (means v y m env d 0 a l b two wide deep h i))
  means v (point p x y) m env d s a l b (one, two) wide deep h =
      λ i. if is_valid v p then means v x m env d 0 a l b one wide deep h i else means v y m env d 0 a l b two wide deep h i
  means v (invoke k n) m env d s a l b typed wide deep h =
      let w = length n.parameters in
      ap (v.calls k) (sym (take-map (value_of a l) w env) ∙ ap (λ c. take w c) (reads_now a l env b h))

  means_filters : (v : Environment) (fs : Filters) (old new : List Kind) (p : ℕ) (env : List Operand) (d s : ℕ) (a l b : List Value) (go : List Operand → ℕ → ℕ → Code) (goes : List Value → Outcome) (w : ℕ) → AreTyped fs old new → w ≤ length b → d ≡ length l → Reads a l env b → ((env' : List Operand) (d' s' : ℕ) (l' b' : List Value) → w ≤ length b' → d' ≡ length l' → Reads a l' env' b' → run_code v (go env' d' s') a l' ≡ goes b') → run_code v (prepared_filters fs p env d s go) a l ≡ with_arguments (filtered v fs p b) goes
  means_filters v no_more old new p env d s a l b go goes w typed wide deep h k = k env d s l b wide deep h
  means_filters v (absent fs) (z ∷ old) (j ∷ new) p env d s a l b go goes w typed wide deep h k =
      means_filters v fs old new (p + 1) env d s a l b go goes w typed.1 wide deep h k
  means_filters v (absent fs) [] new p env d s a l b go goes w typed wide deep h k = absurd typed
  means_filters v (absent fs) (z ∷ old) [] p env d s a l b go goes w typed wide deep h k = absurd typed
  means_filters v (present f fs) (z ∷ old) (j ∷ new) p env d s a l b go goes w typed wide deep h k =
      (λ i. means v f _ (operand_at env p ∷ []) d 0 a l (argument b p ∷ []) typed.0 (omega arith) deep (reads_one a l env b p h) i
      >>= (λ x. means_filters v fs old new (p + 1) (slice_set env p (Local d)) (d + 1) 0 a (l ++ x ∷ []) (slice_set b p x) go goes w typed.1 (omega (arith, length-set b p x)) (one_more l x d deep) (reads_set a l x d p env b deep h) k i))
      ∙ passed (mean v f (argument b p ∷ [])) (λ x. filtered v fs (p + 1) (slice_set b p x)) goes
  means_filters v (present f fs) [] new p env d s a l b go goes w typed wide deep h k = absurd typed
  means_filters v (present f fs) (z ∷ old) [] p env d s a l b go goes w typed wide deep h k = absurd typed
