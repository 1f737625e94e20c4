-- The prepared code of a tree names only existing operands, points and sites.
use Rattle.std.proofs.Common.{◌≡◌, ℕ, zero, suc, ◌+◌, ◌≤◌, refl, ap, sym, ◌∙◌, List, [], ◌∷◌, ◌++◌, take, drop, map, length, arith, false, subst, length-append, length-take, length-drop}
use Rattle.std.specs.Prelude.{slice_set}
use Rattle.std.specs.List.{range_with_len}
use Rattle.std.proofs.lemmas.List.{map-append, take_more, length-map}
use Rattle.std.proofs.lemmas.List.FromFn.{map-range_with_len_more}
use Rattle.std.proofs.Math.ListN.{length-set}
use Rattle.std.proofs.Math.Seq.{take-length}
use Rattle.mh_type.specs.declared.kind.Kind.{Kind}
use Rattle.mh_type.specs.declared.value.Value.{Value}
use Rattle.mh_type.specs.declared.value.Value.TheVariants.{Boolean}
use Rattle.mh_type.specs.Operations.{op_signature}
use Rattle.mh_type.specs.Signature.{Signature}
use Rattle.mh_tree.specs.Laws.LeadingArguments.{same_count}
use Rattle.mh_tree.specs.Laws.OperandReads.{shorter}
use Rattle.mh_tree.specs.Limits.{point_bound, greatest_bound}
use Rattle.mh_tree.specs.Meaning.{argument}
use Rattle.mh_tree.specs.Tree.{Tree, Filters, constant, identity, operation, insert, discard, permute, filter, filter_return, fold, guard, point, invoke, no_more, absent, present}
use Rattle.mh_tree.specs.Code.{Code}
use Rattle.mh_tree.specs.Prepared.{operand_at, prepared, prepared_filters}
use Rattle.mh_tree.specs.Running.{value_of}
use Rattle.mh_tree.specs.inner.Scoped.{IsIn, AllIn, IsScoped}
use Rattle.mh_tree.specs.Sites.{EachInvoke, EachInvokes}
use Rattle.mh_tree.specs.Typing.{IsTyped, AreTyped, kind_at}
use Rattle.mh_tree.specs.declared.operand.Operand.{Operand}
use Rattle.mh_tree.specs.declared.operand.Operand.TheVariants.{Argument, Local, Constant}

in_append : (n d : ℕ) (xs ys : List Operand) → AllIn n d xs → AllIn n d ys → AllIn n d (xs ++ ys)
in_append n d [] ys p q = q
in_append n d (x ∷ xs) ys (p, ps) q = (p, in_append n d xs ys ps q)

in_take : (n d k : ℕ) (xs : List Operand) → AllIn n d xs → AllIn n d (take k xs)
in_take n d zero xs h = tt
in_take n d (suc k) [] h = tt
in_take n d (suc k) (x ∷ xs) (p, ps) = (p, in_take n d k xs ps)

in_drop : (n d k : ℕ) (xs : List Operand) → AllIn n d xs → AllIn n d (drop k xs)
in_drop n d zero xs h = h
in_drop n d (suc k) [] h = tt
in_drop n d (suc k) (x ∷ xs) (p, ps) = in_drop n d k xs ps

pub in_at : (n d i : ℕ) (xs : List Operand) → AllIn n d xs → IsIn n d (operand_at xs i)
in_at n d i [] h = tt
in_at n d zero (x ∷ xs) (p, ps) = p
in_at n d (suc i) (x ∷ xs) (p, ps) = in_at n d i xs ps

in_set : (n d i : ℕ) (xs : List Operand) (o : Operand) → IsIn n d o → AllIn n d xs → AllIn n d (slice_set xs i o)
in_set n d i [] o q h = tt
in_set n d zero (x ∷ xs) o q (p, ps) = (q, ps)
in_set n d (suc i) (x ∷ xs) o q (p, ps) = (p, in_set n d i xs o q ps)

in_reordered : (n d : ℕ) (xs : List Operand) (r : List ℕ) → AllIn n d xs → AllIn n d (map (operand_at xs) r)
in_reordered n d xs [] h = tt
in_reordered n d xs (i ∷ r) h = (in_at n d i xs h, in_reordered n d xs r h)

in_constants : (n d : ℕ) (xs : List Value) → AllIn n d (map Constant xs)
in_constants n d [] = tt
in_constants n d (x ∷ xs) = (tt, in_constants n d xs)

one_in : (n d : ℕ) (o : Operand) → IsIn n d o → IsIn n (d + 1) o
one_in n d (Argument i) h = h
one_in n d (Local i) h = omega arith
one_in n d (Constant x) h = tt

in_more : (n d : ℕ) (xs : List Operand) → AllIn n d xs → AllIn n (d + 1) xs
in_more n d [] h = tt
in_more n d (x ∷ xs) (p, ps) = (one_in n d x p, in_more n d xs ps)

-- if P allows a tree's invocations, C allows those of its code
mutual
  pub scoped : (C : ℕ → ℕ → Type 0) (P : ℕ → Signature → Type 0) → ((s : ℕ) (m : Signature) → P s m → C s (length m.parameters)) → (k n : ℕ) (t : Tree) (m : Signature) (env : List Operand) (d s : ℕ) → IsTyped t m → length m.parameters ≤ length env → AllIn n d env → point_bound t ≤ k → EachInvoke P t → IsScoped C k n d (prepared t env d s)
  scoped C P allows k n (constant x) m env d s typed wide h b e = tt
  scoped C P allows k n (identity z) m env d s typed wide h b e = in_at n d 0 env h
  scoped C P allows k n (operation o) m env d s typed wide h b e =
      let read = take (length (op_signature o).parameters) env in
      let there = in_take n d (length (op_signature o).parameters) env h in
      (in_at n d 0 read there, in_at n d 1 read there)
  scoped C P allows k n (insert t p xs) m env d s (q, typed, inserts) wide h b e =
      let made = ap (λ (j : Signature). length j.parameters) inserts.made in
      let inside = inserts.inside in
      let count = simp (length-append, length-take, length-drop) at made in
      let many : length q.parameters ≤ length (take p env ++ (map Constant xs ++ drop p env)) =
      omega (arith, length-append (take p env) (map Constant xs ++ drop p env), length-append (map Constant xs) (drop p env), length-take p env, length-drop p env, length-map xs Constant) in
      scoped C P allows k n t q _ d (s + 1) typed many (in_append n d (take p env) _ (in_take n d p env h) (in_append n d (map Constant xs) (drop p env) (in_constants n d xs) (in_drop n d p env h))) b e
  scoped C P allows k n (discard t p ks) m env d s (q, typed, discards) wide h b e =
      let made = ap (λ (j : Signature). length j.parameters) discards.made in
      let inside = discards.inside in
      let count = simp (length-append, length-take, length-drop) at made in
      let many : length q.parameters ≤ length (take p env ++ drop (p + length ks) env) =
      omega (arith, length-append (take p env) (drop (p + length ks) env), length-take p env, length-drop (p + length ks) env) in
      scoped C P allows k n t q _ d (s + 1) typed many (in_append n d (take p env) _ (in_take n d p env h) (in_drop n d (p + length ks) env h)) b e
  scoped C P allows k n (permute t new_type r) m env d s (q, typed, reorders, made) wide h b e =
      let same = ap (λ (ks : List Kind). length ks) reorders.same in
      scoped C P allows k n t q _ d (s + 1) typed (omega (arith, length-map r (λ i. kind_at m.parameters i), length-map r (operand_at env))) (in_reordered n d env r h) b e
  scoped C P allows k n (filter t p fs) m env d s (q, typed, inside, returns, firsts, filters) wide h b e =
      let same = same_count p fs q.parameters m.parameters inside firsts filters in
      scoped_filters C P allows k n fs (drop p q.parameters) (drop p m.parameters) p env d (s + 1) (prepared t) (length q.parameters) filters (omega arith) h (omega arith) e.1
      (λ env' d' s' wide' h'. scoped C P allows k n t q env' d' s' typed wide' h' (omega arith) e.0)
  scoped C P allows k n (filter_return t f) m env d s (z, typed, last) wide h b e = (
    scoped C P allows k n t _ env d 0 typed wide h (omega arith) e.0,
    scoped C P allows k n f _ (Local d ∷ []) (d + 1) 0 last (omega arith) (omega arith, tt) (omega arith) e.1,
  )
  scoped C P allows k n (fold t c) m env d s (z, ks, typed, combiner, begins) wide h b e =
      let few = shorter ks m.parameters begins in (
        scoped C P allows k n c _ env d 0 combiner (omega arith) h (omega arith) e.1,
        scoped C P allows k n t _ (Local d ∷ env) (d + 1) 0 typed (omega arith) (omega arith, in_more n d env h) (omega arith) e.0,
      )
  scoped C P allows k n (guard c x y) m env d s (ks, test, begins, one, two) wide h b e =
      let few = shorter ks m.parameters begins in (
        scoped C P allows k n c _ env d 0 test (omega arith) h (omega arith) e.0,
        scoped C P allows k n x m env d 0 one wide h (omega arith) e.1,
        scoped C P allows k n y m env d 0 two wide h (omega arith) e.2,
      )
  scoped C P allows k n (point p x y) m env d s (one, two) wide h b e =
      (omega arith, scoped C P allows k n x m env d 0 one wide h (omega arith) e.0, scoped C P allows k n y m env d 0 two wide h (omega arith) e.1)
  scoped C P allows k n (invoke j q) m env d s (few, made) wide h b e =
      let count = ap (λ (i : Signature). length i.parameters) made in
      let all : length (take (length q.parameters) env) ≡ length q.parameters = omega (arith, length-take (length q.parameters) env) in
      (subst (C j) (sym all) (allows j q e), in_take n d (length q.parameters) env h)

  scoped_filters : (C : ℕ → ℕ → Type 0) (P : ℕ → Signature → Type 0) → ((s : ℕ) (m : Signature) → P s m → C s (length m.parameters)) → (k n : ℕ) (fs : Filters) (old new : List Kind) (p : ℕ) (env : List Operand) (d s : ℕ) (go : List Operand → ℕ → ℕ → Code) (w : ℕ) → AreTyped fs old new → w ≤ length env → AllIn n d env → greatest_bound fs ≤ k → EachInvokes P fs → ((env' : List Operand) (d' s' : ℕ) → w ≤ length env' → AllIn n d' env' → IsScoped C k n d' (go env' d' s')) → IsScoped C k n d (prepared_filters fs p env d s go)
  scoped_filters C P allows k n no_more old new p env d s go w typed wide h b e g = g env d s wide h
  scoped_filters C P allows k n (absent fs) (z ∷ old) (j ∷ new) p env d s go w typed wide h b e g = scoped_filters C P allows k n fs old new (p + 1) env d s go w typed.1 wide h b e g
  scoped_filters C P allows k n (absent fs) [] new p env d s go w typed wide h b e g = absurd typed
  scoped_filters C P allows k n (absent fs) (z ∷ old) [] p env d s go w typed wide h b e g = absurd typed
  scoped_filters C P allows k n (present f fs) (z ∷ old) (j ∷ new) p env d s go w typed wide h b e g = (
    scoped C P allows k n f _ (operand_at env p ∷ []) d 0 typed.0 (omega arith) (in_at n d p env h, tt) (omega arith) e.0,
    scoped_filters C P allows k n fs old new (p + 1) (slice_set env p (Local d)) (d + 1) 0 go w typed.1 (omega (arith, length-set env p (Local d))) (in_set n (d + 1) p env (Local d) (omega arith) (in_more n d env h)) (omega arith) e.1 g,
  )
  scoped_filters C P allows k n (present f fs) [] new p env d s go w typed wide h b e g = absurd typed
  scoped_filters C P allows k n (present f fs) (z ∷ old) [] p env d s go w typed wide h b e g = absurd typed

-- if the k arguments from a on are among the first n, then a + k is at most n
pub leading_few : (n d a k : ℕ) → a ≤ n → AllIn n d (map (λ x. Argument x) (range_with_len a k)) → a + k ≤ n
leading_few n d a zero h all = omega (arith, h)
leading_few n d a (suc k) h (p, ps) = omega (arith, leading_few n d (a + 1) k (omega (arith, p)) ps)

-- the operands of a call
pub in_arguments : (n k a : ℕ) → a + k ≤ n → AllIn n 0 (map (λ x. Argument x) (range_with_len a k))
in_arguments n zero a h = tt
in_arguments n (suc k) a h = (omega arith, in_arguments n k (a + 1) (omega arith))

pub reads_first : (a l : List Value) (k : ℕ) → k ≤ length a → map (value_of a l) (map (λ x. Argument x) (range_with_len 0 k)) ≡ take k a
reads_first a l zero h = refl
reads_first a l (suc k) h =
    let e : suc k ≡ k + 1 = omega arith in
    ap (λ j. map (value_of a l) (map (λ x. Argument x) (range_with_len 0 j))) e
    ∙ ap (map (value_of a l)) (map-range_with_len_more (λ x. Argument x) 0 k k (omega arith))
    ∙ map-append (value_of a l) (map (λ x. Argument x) (range_with_len 0 k)) (Argument k ∷ [])
    ∙ ap (λ c. c ++ argument a k ∷ []) (reads_first a l k (omega arith))
    ∙ sym (take_more a k (Boolean false) (omega arith))
    ∙ ap (λ j. take j a) (sym e)

pub reads_arguments : (a l : List Value) (n : ℕ) → n ≡ length a → map (value_of a l) (map (λ x. Argument x) (range_with_len 0 n)) ≡ a
reads_arguments a l n h = reads_first a l n (omega arith) ∙ ap (λ j. take j a) h ∙ take-length a
