-- Where no node that is entered has String in its type, the code takes no memory.
use Rattle.std.proofs.Common.{◌≡◌, ℕ, zero, suc, ◌+◌, ◌*◌, ◌≤◌, refl, ap, sym, ◌∙◌, List, [], ◌∷◌, ◌++◌, take, drop, map, length, arith, Bool, true, false, max, Result, Ok, Err, subst, length-append, length-take, length-drop, ℤ, if◌then◌else◌}
use Rattle.std.specs.Prelude.{slice_set}
use Rattle.std.proofs.lemmas.List.{take-map}
use Rattle.std.proofs.Math.ListN.{length-set}
use Rattle.mh_type.specs.declared.kind.Kind.{Kind}
use Rattle.mh_type.specs.declared.kind.Kind.TheVariants as kind
use Rattle.mh_type.specs.declared.operation.Op.{Op}
use Rattle.mh_type.specs.declared.operation.Op.TheVariants.{Iadd, Isub, Imul, Idiv, Irem, Ineg, Ieq, Ilt, Ladd, Lsub, Lmul, Ldiv, Lrem, Lneg, Leq, Llt, I2l, L2i, Not, Beq, Concat, Seq, Len}
use Rattle.mh_type.specs.declared.value.Value.{Value}
use Rattle.mh_type.specs.declared.value.Value.TheVariants.{Int, Long, Boolean, Text}
use Rattle.mh_type.specs.declared.outcome.Throw.{Throw}
use Rattle.mh_type.specs.declared.outcome.Outcome.{Outcome}
use Rattle.mh_type.specs.declared.outcome.Outcome.TheVariants.{Thrown, Value as Value'}
use Rattle.mh_type.specs.Kinds.{kind_of}
use Rattle.mh_type.specs.Operations.{operate, op_signature, two_ints, two_longs, two_booleans, two_texts, one_int, one_long, first, with_boolean, with_text, is_zero}
use Rattle.mh_type.specs.Signature.{Signature}
use Rattle.mh_tree.specs.Limits.{depth, deepest}
use Rattle.mh_tree.specs.Meaning.{◌>>=◌, mean, filtered, with_arguments, with_value, argument, put_in, taken_out, choose, is_valid}
use Rattle.mh_tree.specs.Tree.{Tree, Filters, constant, identity, operation, insert, discard, permute, filter, filter_return, fold, guard, point, invoke, no_more, absent, present}
use Rattle.mh_tree.specs.TypeOf.{type_of}
use Rattle.mh_tree.specs.Typing.{IsTyped, AreTyped}
use Rattle.mh_tree.specs.Laws.{few_parameters, type_computed, mean_leading, filtered_length, Reads, reads_now, reads_at, reads_inserted, reads_discarded, reads_permuted, reads_one, reads_newest, reads_set, reads_nothing, permuted_wide, filter_wide, shorter, one_more, means}
use Rattle.mh_tree.specs.Code.{Code, leaf, apply, bind, branch, point as code_point, invoke as code_invoke}
use Rattle.mh_tree.specs.Running.{value_of}
use Rattle.mh_eval.proofs.EntersLeading.{chosen_along, one_along, enters_leading}
use Rattle.mh_eval.specs.Entered.{WithValue, Chosen, OneOf, IsPlainKind, ArePlain, IsPlain, WithArguments, EntersPlain, FiltersPlain, plain_below}
use Rattle.mh_tree.specs.Prepared.{operand_at, prepared, prepared_filters}
use Rattle.mh_eval.specs.Quiet.{IsQuiet, NoTexts, deep}
use Rattle.mh_tree.specs.declared.operand.Operand.{Operand}
use Rattle.mh_tree.specs.declared.operand.Operand.TheVariants.{Local, Constant}
use Rattle.mh_tree.specs.Sites.{Setting, setting, env, env as world, EachInvoke, EachInvokes, MayReach, target_at, calls_below}
use Rattle.mh_tree.specs.Handle.{TypedTree}

abbrev NoText : Outcome → Type 0
NoText o = WithValue o (λ x. IsPlainKind (kind_of x))

pub of_kinds : (xs : List Value) → ArePlain (map kind_of xs) → NoTexts xs
of_kinds [] h = tt
of_kinds (x ∷ xs) (p, ps) = (p, of_kinds xs ps)

kinds_take : (n : ℕ) (ks : List Kind) → ArePlain ks → ArePlain (take n ks)
kinds_take zero ks h = tt
kinds_take (suc n) [] h = tt
kinds_take (suc n) (k ∷ ks) (p, ps) = (p, kinds_take n ks ps)

kinds_drop : (n : ℕ) (ks : List Kind) → ArePlain ks → ArePlain (drop n ks)
kinds_drop zero ks h = h
kinds_drop (suc n) [] h = tt
kinds_drop (suc n) (k ∷ ks) (p, ps) = kinds_drop n ks ps

pub texts_append : (xs ys : List Value) → NoTexts xs → NoTexts ys → NoTexts (xs ++ ys)
texts_append [] ys p q = q
texts_append (x ∷ xs) ys (p, ps) q = (p, texts_append xs ys ps q)

pub texts_take : (n : ℕ) (xs : List Value) → NoTexts xs → NoTexts (take n xs)
texts_take zero xs h = tt
texts_take (suc n) [] h = tt
texts_take (suc n) (x ∷ xs) (p, ps) = (p, texts_take n xs ps)

pub texts_drop : (n : ℕ) (xs : List Value) → NoTexts xs → NoTexts (drop n xs)
texts_drop zero xs h = h
texts_drop (suc n) [] h = tt
texts_drop (suc n) (x ∷ xs) (p, ps) = texts_drop n xs ps

pub texts_at : (i : ℕ) (xs : List Value) → NoTexts xs → IsPlainKind (kind_of (argument xs i))
texts_at i [] h = tt
texts_at zero (x ∷ xs) (p, ps) = p
texts_at (suc i) (x ∷ xs) (p, ps) = texts_at i xs ps

pub texts_set : (i : ℕ) (xs : List Value) (y : Value) → IsPlainKind (kind_of y) → NoTexts xs → NoTexts (slice_set xs i y)
texts_set i [] y q h = tt
texts_set zero (x ∷ xs) y q (p, ps) = (q, ps)
texts_set (suc i) (x ∷ xs) y q (p, ps) = (p, texts_set i xs y q ps)

pub texts_reordered : (xs : List Value) (r : List ℕ) → NoTexts xs → NoTexts (map (argument xs) r)
texts_reordered xs [] h = tt
texts_reordered xs (i ∷ r) h = (texts_at i xs h, texts_reordered xs r h)

-- what operations give
of_two_ints : (b : List Value) (go : ℤ → ℤ → Outcome) → ((x y : ℤ) → NoText (go x y)) → NoText (two_ints b go)
of_two_ints [] go k = tt
of_two_ints (x ∷ []) go k = tt
of_two_ints (Int x ∷ Int y ∷ r) go k = k x y
of_two_ints (Int x ∷ y ∷ r) go k = tt
of_two_ints (x ∷ y ∷ r) go k = tt

of_two_longs : (b : List Value) (go : ℤ → ℤ → Outcome) → ((x y : ℤ) → NoText (go x y)) → NoText (two_longs b go)
of_two_longs [] go k = tt
of_two_longs (x ∷ []) go k = tt
of_two_longs (Long x ∷ Long y ∷ r) go k = k x y
of_two_longs (Long x ∷ y ∷ r) go k = tt
of_two_longs (x ∷ y ∷ r) go k = tt

of_two_booleans : (b : List Value) (go : Bool → Bool → Outcome) → ((x y : Bool) → NoText (go x y)) → NoText (two_booleans b go)
of_two_booleans [] go k = tt
of_two_booleans (x ∷ []) go k = tt
of_two_booleans (Boolean x ∷ Boolean y ∷ r) go k = k x y
of_two_booleans (Boolean x ∷ y ∷ r) go k = tt
of_two_booleans (x ∷ y ∷ r) go k = tt

of_two_texts : (b : List Value) (go : List ℕ → List ℕ → Outcome) → ((x y : List ℕ) → NoText (go x y)) → NoText (two_texts b go)
of_two_texts [] go k = tt
of_two_texts (x ∷ []) go k = tt
of_two_texts (Text x ∷ Text y ∷ r) go k = k x y
of_two_texts (Text x ∷ y ∷ r) go k = tt
of_two_texts (x ∷ y ∷ r) go k = tt

of_one_int : (b : List Value) (go : ℤ → Outcome) → ((x : ℤ) → NoText (go x)) → NoText (one_int b go)
of_one_int [] go k = tt
of_one_int (Int x ∷ r) go k = k x
of_one_int (x ∷ r) go k = tt

of_one_long : (b : List Value) (go : ℤ → Outcome) → ((x : ℤ) → NoText (go x)) → NoText (one_long b go)
of_one_long [] go k = tt
of_one_long (Long x ∷ r) go k = k x
of_one_long (x ∷ r) go k = tt

of_one_boolean : (b : List Value) (go : Bool → Outcome) → ((x : Bool) → NoText (go x)) → NoText (first b (λ x. with_boolean x go))
of_one_boolean [] go k = tt
of_one_boolean (Boolean x ∷ r) go k = k x
of_one_boolean (x ∷ r) go k = tt

of_one_text : (b : List Value) (go : List ℕ → Outcome) → ((x : List ℕ) → NoText (go x)) → NoText (first b (λ x. with_text x go))
of_one_text [] go k = tt
of_one_text (Text x ∷ r) go k = k x
of_one_text (x ∷ r) go k = tt

if_text : (c : Bool) (t : Throw) (x : Value) → IsPlainKind (kind_of x) → NoText (if c then Thrown t else Value' x)
if_text true t x h = tt
if_text false t x h = h

of_operation : (o : Op) (b : List Value) → IsPlainKind (op_signature o).ret → NoText (operate o b)
of_operation Iadd b h = of_two_ints b _ (λ x y. tt)
of_operation Isub b h = of_two_ints b _ (λ x y. tt)
of_operation Imul b h = of_two_ints b _ (λ x y. tt)
of_operation Idiv b h = of_two_ints b _ (λ x y. if_text (is_zero y) _ _ tt)
of_operation Irem b h = of_two_ints b _ (λ x y. if_text (is_zero y) _ _ tt)
of_operation Ineg b h = of_one_int b _ (λ x. tt)
of_operation Ieq b h = of_two_ints b _ (λ x y. tt)
of_operation Ilt b h = of_two_ints b _ (λ x y. tt)
of_operation Ladd b h = of_two_longs b _ (λ x y. tt)
of_operation Lsub b h = of_two_longs b _ (λ x y. tt)
of_operation Lmul b h = of_two_longs b _ (λ x y. tt)
of_operation Ldiv b h = of_two_longs b _ (λ x y. if_text (is_zero y) _ _ tt)
of_operation Lrem b h = of_two_longs b _ (λ x y. if_text (is_zero y) _ _ tt)
of_operation Lneg b h = of_one_long b _ (λ x. tt)
of_operation Leq b h = of_two_longs b _ (λ x y. tt)
of_operation Llt b h = of_two_longs b _ (λ x y. tt)
of_operation I2l b h = of_one_int b _ (λ x. tt)
of_operation L2i b h = of_one_long b _ (λ x. tt)
of_operation Not b h = of_one_boolean b _ (λ x. tt)
of_operation Beq b h = of_two_booleans b _ (λ x y. tt)
of_operation Concat b h = absurd h
of_operation Seq b h = of_two_texts b _ (λ x y. tt)
of_operation Len b h = of_one_text b _ (λ x. tt)

pub not_text : (k : Kind) → IsPlainKind k → k ≡ kind.Text → ⊥
not_text k h e = subst IsPlainKind e h

root_plain : (v : Setting) (t : Tree) (a : List Value) → EntersPlain v t a → IsPlain (type_of t)
root_plain v (constant x) a e = e.0
root_plain v (identity k) a e = e.0
root_plain v (operation o) a e = e.0
root_plain v (insert t p xs) a e = e.0
root_plain v (discard t p ks) a e = e.0
root_plain v (permute t m r) a e = e.0
root_plain v (filter t p fs) a e = e.0
root_plain v (filter_return t f) a e = e.0
root_plain v (fold t c) a e = e.0
root_plain v (guard c x y) a e = e.0
root_plain v (point p x y) a e = e.0
root_plain v (invoke s n) a e = e.0

-- the parameters of a node that is entered
pub plain_parameters : (v : Setting) (t : Tree) (m : Signature) (a : List Value) → IsTyped t m → EntersPlain v t a → ArePlain m.parameters
plain_parameters v t m a typed e =
    let P : Signature → Type 0 = λ n. ArePlain n.parameters in
    subst P (type_computed t m typed) (root_plain v t a e).1

pub inserted_plain : (v : Setting) (t : Tree) (n : Signature) (p : ℕ) (xs b : List Value) → IsTyped t n → map kind_of xs ≡ take (length xs) (drop p n.parameters) → NoTexts b → EntersPlain v t (put_in b p xs) → NoTexts (put_in b p xs)
inserted_plain v t n p xs b typed kinds h e =
    let plain = plain_parameters v t n _ typed e in
    let values = of_kinds xs (subst ArePlain (sym kinds) (kinds_take (length xs) (drop p n.parameters) (kinds_drop p n.parameters plain))) in
    texts_append (take p b) (xs ++ drop p b) (texts_take p b h) (texts_append xs (drop p b) values (texts_drop p b h))

-- goes on with a value that is no text
along : (o : Outcome) (E Q : Value → Type 0) → NoText o → WithValue o E → ((x : Value) → IsPlainKind (kind_of x) → E x → Q x) → WithValue o Q
along (Value' x) E Q h e k = k x h e
along (Thrown t) E Q h e k = tt

then_plain : (o : Outcome) (go : Value → Outcome) (E : Value → Type 0) → NoText o → WithValue o E → ((x : Value) → IsPlainKind (kind_of x) → E x → NoText (go x)) → NoText (o >>= go)
then_plain (Value' x) go E h e k = k x h e
then_plain (Thrown t) go E h e k = tt

then_filter : (o : Outcome) (g : Value → Result (List Value) Throw) (E : Value → Type 0) → NoText o → WithValue o E → ((x : Value) → IsPlainKind (kind_of x) → E x → WithArguments (g x) NoTexts) → WithArguments (with_value o g) NoTexts
then_filter (Value' x) g E h e k = k x h e
then_filter (Thrown t) g E h e k = tt

with_filtered : (r : Result (List Value) Throw) (go : List Value → Outcome) (E : List Value → Type 0) → WithArguments r NoTexts → WithArguments r E → ((a : List Value) → r ≡ Ok a → NoTexts a → E a → NoText (go a)) → NoText (with_arguments r go)
with_filtered (Ok a) go E h e k = k a refl h e
with_filtered (Err t) go E h e k = tt

choose_plain : (z : Value) (X Y : Outcome) (A B : Type 0) → Chosen z A B → (A → NoText X) → (B → NoText Y) → NoText (choose z X Y)
choose_plain (Boolean true) X Y A B e f g = f e
choose_plain (Boolean false) X Y A B e f g = g e
choose_plain (Int x) X Y A B e f g = g e
choose_plain (Long x) X Y A B e f g = g e
choose_plain (Text x) X Y A B e f g = g e

if_plain : (z : Bool) (X Y : Outcome) (A B : Type 0) → OneOf z A B → (A → NoText X) → (B → NoText Y) → NoText (if z then X else Y)
if_plain true X Y A B e f g = f e
if_plain false X Y A B e f g = g e

-- where no site gives a text that enters no node with String in its type
abbrev pub Safe : Setting → Type 0
Safe v = (s : ℕ) (n : Signature) → MayReach v.level v.targets (length v.valid) s n → (a : List Value) → length n.parameters ≤ length a → NoTexts a → plain_below v.level v.valid v.targets s a → NoText (calls_below v.level v.valid v.targets s a)

-- what is asked of a tree
abbrev Reaches : Setting → Tree → Type 0
Reaches v t = EachInvoke (MayReach v.level v.targets (length v.valid)) t

abbrev ReachAll : Setting → Filters → Type 0
ReachAll v fs = EachInvokes (MayReach v.level v.targets (length v.valid)) fs

-- a tree that enters no node with String in its type gives no text
mutual
  pub result_plain : (v : Setting) → Safe v → (t : Tree) (m : Signature) (b : List Value) → Reaches v t → IsTyped t m → length m.parameters ≤ length b → NoTexts b → EntersPlain v t b → NoText (mean (env v) t b)
  result_plain v safe (constant x) m b r typed wide h e = e.0.0
  result_plain v safe (identity k) m b r typed wide h e = texts_at 0 b h
  result_plain v safe (operation o) m b r typed wide h e = of_operation o b e.0.0
  result_plain v safe (insert t p xs) m b r (n, typed, inserts) wide h e =
      let made = ap (λ (k : Signature). length k.parameters) inserts.made in
      let inside = inserts.inside in
      let count = simp (length-append, length-take, length-drop) at made in
      result_plain v safe t n (put_in b p xs) r typed (simp (length-append, length-take, length-drop) (omega arith)) (inserted_plain v t n p xs b typed inserts.kinds h e.1) e.1
  result_plain v safe (discard t p ks) m b r (n, typed, discards) wide h e =
      let made = ap (λ (k : Signature). length k.parameters) discards.made in
      let inside = discards.inside in
      let count = simp (length-append, length-take, length-drop) at made in
      result_plain v safe t n (taken_out b p (length ks)) r typed (simp (length-append, length-take, length-drop) (omega arith)) (texts_append (take p b) _ (texts_take p b h) (texts_drop (p + length ks) b h)) e.1
  result_plain v safe (permute t new_type q) m b r (n, typed, reorders, made) wide h e =
      result_plain v safe t n (map (argument b) q) r typed (permuted_wide n m q b reorders) (texts_reordered b q h) e.1
  result_plain v safe (filter t p fs) m b r (n, typed, inside, returns, firsts, filters) wide h e =
      let enough = filter_wide p fs n.parameters m.parameters b inside firsts filters wide in
      with_filtered (filtered (env v) fs p b) (mean (env v) t) (EntersPlain v t) (filters_plain v safe fs _ _ p b r.1 filters h e.1) e.2
      (λ a is texts inner. result_plain v safe t n a r.0 typed (omega (arith, filtered_length (env v) fs p b a is)) texts inner)
  result_plain v safe (filter_return t f) m b r (k, typed, last) wide h e =
      then_plain (mean (env v) t b) _ (λ x. EntersPlain v f (x ∷ [])) (result_plain v safe t _ b r.0 typed wide h e.1) e.2
      (λ x p inner. result_plain v safe f _ (x ∷ []) r.1 last (omega arith) (p, tt) inner)
  result_plain v safe (fold t c) m b r (k, ks, typed, combiner, begins) wide h e =
      let few = shorter ks m.parameters begins in
      let lead = mean_leading (env v) c _ b combiner (omega arith) in
      let entered = enters_leading v c _ b combiner (omega arith) e.1 in
      let W : Outcome → Type 0 = λ o. WithValue o (λ x. EntersPlain v t (x ∷ b)) in
      let P : Outcome → Type 0 = λ o. NoText (o >>= (λ x. mean (env v) t (x ∷ b))) in
      subst P (sym lead)
      (then_plain (mean (env v) c b) _ (λ x. EntersPlain v t (x ∷ b)) (result_plain v safe c _ b r.1 combiner (omega arith) h entered) (subst W lead e.2)
      (λ x p inner. result_plain v safe t _ (x ∷ b) r.0 typed (omega arith) (p, h) inner))
  result_plain v safe (guard c x y) m b r (ks, test, begins, one, two) wide h e =
      let few = shorter ks m.parameters begins in
      let lead = mean_leading (env v) c _ b test (omega arith) in
      let entered = enters_leading v c _ b test (omega arith) e.1 in
      let W : Outcome → Type 0 = λ o. WithValue o (λ z. Chosen z (EntersPlain v x b) (EntersPlain v y b)) in
      let P : Outcome → Type 0 = λ o. NoText (o >>= (λ z. choose z (mean (env v) x b) (mean (env v) y b))) in
      subst P (sym lead)
      (then_plain (mean (env v) c b) _ (λ z. Chosen z (EntersPlain v x b) (EntersPlain v y b)) (result_plain v safe c _ b r.0 test (omega arith) h entered) (subst W lead e.2)
      (λ z p inner. choose_plain z _ _ _ _ inner (result_plain v safe x m b r.1 one wide h) (result_plain v safe y m b r.2 two wide h)))
  result_plain v safe (point p x y) m b r (one, two) wide h e =
      if_plain (is_valid (env v) p) _ _ _ _ e.1 (result_plain v safe x m b r.0 one wide h) (result_plain v safe y m b r.1 two wide h)
  result_plain v safe (invoke s n) m b r (few, made) wide h e =
      let many = ap (λ (k : Signature). length k.parameters) made in
      safe s n r (take (length n.parameters) b) (omega (arith, length-take (length n.parameters) b)) (texts_take (length n.parameters) b h) e.1

  pub filters_plain : (v : Setting) → Safe v → (fs : Filters) (old new : List Kind) (p : ℕ) (b : List Value) → ReachAll v fs → AreTyped fs old new → NoTexts b → FiltersPlain v fs p b → WithArguments (filtered (env v) fs p b) NoTexts
  filters_plain v safe no_more old new p b r typed h e = h
  filters_plain v safe (absent fs) (z ∷ old) (j ∷ new) p b r typed h e = filters_plain v safe fs old new (p + 1) b r typed.1 h e
  filters_plain v safe (absent fs) [] new p b r typed h e = absurd typed
  filters_plain v safe (absent fs) (z ∷ old) [] p b r typed h e = absurd typed
  filters_plain v safe (present f fs) (z ∷ old) (j ∷ new) p b r typed h e =
      then_filter (mean (env v) f (argument b p ∷ [])) _ (λ x. FiltersPlain v fs (p + 1) (slice_set b p x)) (result_plain v safe f _ (argument b p ∷ []) r.0 typed.0 (omega arith) (texts_at p b h, tt) e.0) e.1
      (λ x q inner. filters_plain v safe fs old new (p + 1) (slice_set b p x) r.1 typed.1 (texts_set p b x q h) inner)
  filters_plain v safe (present f fs) [] new p b r typed h e = absurd typed
  filters_plain v safe (present f fs) (z ∷ old) [] p b r typed h e = absurd typed

-- no site does
all_safe : (d : ℕ) (valid : List Bool) (targets : List TypedTree) → Safe (setting d valid targets)
all_safe zero valid targets s n may a wide none plain = absurd may
all_safe (suc d) valid targets s n may a wide none plain =
    let same = ap (λ (k : Signature). length k.parameters) may.1 in
    result_plain (setting d valid targets) (all_safe d valid targets) (target_at targets s).tree (target_at targets s).signature a may.4 may.2 (omega (arith, same, wide)) none plain

module _ (v : Setting) where
  pub plain_result : (t : Tree) (m : Signature) (b : List Value) → Reaches v t → IsTyped t m → length m.parameters ≤ length b → NoTexts b → EntersPlain v t b → NoText (mean (env v) t b)
  plain_result = result_plain v (all_safe v.level v.valid v.targets)

  pub plain_filters : (fs : Filters) (old new : List Kind) (p : ℕ) (b : List Value) → ReachAll v fs → AreTyped fs old new → NoTexts b → FiltersPlain v fs p b → WithArguments (filtered (env v) fs p b) NoTexts
  plain_filters = filters_plain v (all_safe v.level v.valid v.targets)

-- both facts of the arguments after a filter
both_with : (o : Outcome) (g : Value → Result (List Value) Throw) (F : Value → Type 0) (E : List Value → Type 0) → WithValue o F → WithArguments (with_value o g) E → WithValue o (λ x. F x × WithArguments (g x) E)
both_with (Value' x) g F E p q = (p, q)
both_with (Thrown t) g F E p q = tt

-- and its code takes no memory
mutual
  pub quiet : (v : Setting) (t : Tree) (m : Signature) (env : List Operand) (d s : ℕ) (a l b : List Value) → Reaches v t → IsTyped t m → length m.parameters ≤ length b → d ≡ length l → Reads a l env b → NoTexts b → EntersPlain v t b → IsQuiet v (prepared t env d s) a l
  quiet v (constant x) m env d s a l b reach typed wide deep h n e = not_text (kind_of x) e.0.0
  quiet v (identity k) m env d s a l b reach typed wide deep h n e =
      let same = reads_at a l env b 0 (reads_now a l env b h) in
      λ is. not_text (kind_of (argument b 0)) (texts_at 0 b n) (ap kind_of (sym same) ∙ is)
  quiet v (operation o) m env d s a l b reach typed wide deep h n e =
      λ is. let P : Op → Type 0 = λ q. IsPlainKind (op_signature q).ret in subst P is e.0.0
  quiet v (insert t p xs) m env d s a l b reach (n, typed, inserts) wide deep h none e =
      let made = ap (λ (k : Signature). length k.parameters) inserts.made in
      let inside = inserts.inside in
      let count = simp (length-append, length-take, length-drop) at made in
      quiet v t n _ d (s + 1) a l (put_in b p xs) reach typed (simp (length-append, length-take, length-drop) (omega arith)) deep (reads_inserted a l env b p xs h) (inserted_plain v t n p xs b typed inserts.kinds none e.1) e.1
  quiet v (discard t p ks) m env d s a l b reach (n, typed, discards) wide deep h none e =
      let made = ap (λ (k : Signature). length k.parameters) discards.made in
      let inside = discards.inside in
      let count = simp (length-append, length-take, length-drop) at made in
      quiet v t n _ d (s + 1) a l (taken_out b p (length ks)) reach typed (simp (length-append, length-take, length-drop) (omega arith)) deep (reads_discarded a l env b p (length ks) h) (texts_append (take p b) _ (texts_take p b none) (texts_drop (p + length ks) b none)) e.1
  quiet v (permute t new_type r) m env d s a l b reach (n, typed, reorders, made) wide deep h none e =
      quiet v t n _ d (s + 1) a l (map (argument b) r) reach typed (permuted_wide n m r b reorders) deep (reads_permuted a l env b r h) (texts_reordered b r none) e.1
  quiet v (filter t p fs) m env d s a l b reach (n, typed, inside, returns, firsts, filters) wide deep h none e =
      quiet_filters v fs (drop p n.parameters) (drop p m.parameters) p env d (s + 1) a l b (prepared t) t (length n.parameters) reach.1 filters
      (filter_wide p fs n.parameters m.parameters b inside firsts filters wide) deep h none e.1 e.2
      (λ env' d' s' l' b' wide' deep' h' none' e'. quiet v t n env' d' s' a l' b' reach.0 typed wide' deep' h' none' e')
  quiet v (filter_return t f) m env d s a l b reach (k, typed, last) wide deep h n e =
      let P : Outcome → Type 0 = λ o. WithValue o (λ x. IsQuiet v (prepared f (Local d ∷ []) (d + 1) 0) a (l ++ x ∷ [])) in (
        quiet v t _ env d 0 a l b reach.0 typed wide deep h n e.1,
        subst P (sym (means (world v) t _ env d 0 a l b typed wide deep h))
            (along (mean (world v) t b) (λ x. EntersPlain v f (x ∷ [])) _ (plain_result v t _ b reach.0 typed wide n e.1) e.2
            (λ x p inner. quiet v f _ (Local d ∷ []) (d + 1) 0 a (l ++ x ∷ []) (x ∷ []) reach.1 last (omega arith) (one_more l x d deep) (reads_newest a l x d [] [] deep (reads_nothing a l)) (p, tt) inner)),
      )
  quiet v (fold t c) m env d s a l b reach (k, ks, typed, combiner, begins) wide deep h n e =
      let few = shorter ks m.parameters begins in
      let lead = mean_leading (world v) c _ b combiner (omega arith) in
      let entered = enters_leading v c _ b combiner (omega arith) e.1 in
      let W : Outcome → Type 0 = λ o. WithValue o (λ x. EntersPlain v t (x ∷ b)) in
      let P : Outcome → Type 0 = λ o. WithValue o (λ x. IsQuiet v (prepared t (Local d ∷ env) (d + 1) 0) a (l ++ x ∷ [])) in (
        quiet v c _ env d 0 a l b reach.1 combiner (omega arith) deep h n entered,
        subst P (sym (means (world v) c _ env d 0 a l b combiner (omega arith) deep h))
            (along (mean (world v) c b) (λ x. EntersPlain v t (x ∷ b)) _ (plain_result v c _ b reach.1 combiner (omega arith) n entered) (subst W lead e.2)
            (λ x p inner. quiet v t _ (Local d ∷ env) (d + 1) 0 a (l ++ x ∷ []) (x ∷ b) reach.0 typed (omega arith) (one_more l x d deep) (reads_newest a l x d env b deep h) (p, n) inner)),
      )
  quiet v (guard c x y) m env d s a l b reach (ks, test, begins, one, two) wide deep h n e =
      let few = shorter ks m.parameters begins in
      let lead = mean_leading (world v) c _ b test (omega arith) in
      let entered = enters_leading v c _ b test (omega arith) e.1 in
      let W : Outcome → Type 0 = λ o. WithValue o (λ z. Chosen z (EntersPlain v x b) (EntersPlain v y b)) in
      let P : Outcome → Type 0 = λ o. WithValue o (λ z. Chosen z (IsQuiet v (prepared x env d 0) a l) (IsQuiet v (prepared y env d 0) a l)) in (
        quiet v c _ env d 0 a l b reach.0 test (omega arith) deep h n entered,
        subst P (sym (means (world v) c _ env d 0 a l b test (omega arith) deep h))
            (along (mean (world v) c b) (λ z. Chosen z (EntersPlain v x b) (EntersPlain v y b)) _ (plain_result v c _ b reach.0 test (omega arith) n entered) (subst W lead e.2)
            (λ z p inner. chosen_along z _ _ _ _ (quiet v x m env d 0 a l b reach.1 one wide deep h n) (quiet v y m env d 0 a l b reach.2 two wide deep h n) inner)),
      )
  quiet v (point p x y) m env d s a l b reach (one, two) wide deep h n e =
      one_along (is_valid (world v) p) _ _ _ _ (quiet v x m env d 0 a l b reach.0 one wide deep h n) (quiet v y m env d 0 a l b reach.1 two wide deep h n) e.1
  quiet v (invoke k q) m env d s a l b reach typed wide deep h n e =
      let w = length q.parameters in
      let same : map (value_of a l) (take w env) ≡ take w b = sym (take-map (value_of a l) w env) ∙ ap (λ c. take w c) (reads_now a l env b h) in
      (subst NoTexts (sym same) (texts_take w b n), subst (plain_below v.level v.valid v.targets k) (sym same) e.1)

  quiet_filters : (v : Setting) (fs : Filters) (old new : List Kind) (p : ℕ) (env : List Operand) (d s : ℕ) (a l b : List Value) (go : List Operand → ℕ → ℕ → Code) (t : Tree) (w : ℕ) → ReachAll v fs → AreTyped fs old new → w ≤ length b → d ≡ length l → Reads a l env b → NoTexts b → FiltersPlain v fs p b → WithArguments (filtered (world v) fs p b) (EntersPlain v t) → ((env' : List Operand) (d' s' : ℕ) (l' b' : List Value) → w ≤ length b' → d' ≡ length l' → Reads a l' env' b' → NoTexts b' → EntersPlain v t b' → IsQuiet v (go env' d' s') a l') → IsQuiet v (prepared_filters fs p env d s go) a l
  quiet_filters v no_more old new p env d s a l b go t w reach typed wide deep h n e inner k = k env d s l b wide deep h n inner
  quiet_filters v (absent fs) (z ∷ old) (j ∷ new) p env d s a l b go t w reach typed wide deep h n e inner k =
      quiet_filters v fs old new (p + 1) env d s a l b go t w reach typed.1 wide deep h n e inner k
  quiet_filters v (absent fs) [] new p env d s a l b go t w reach typed wide deep h n e inner k = absurd typed
  quiet_filters v (absent fs) (z ∷ old) [] p env d s a l b go t w reach typed wide deep h n e inner k = absurd typed
  quiet_filters v (present f fs) (z ∷ old) (j ∷ new) p env d s a l b go t w reach typed wide deep h n e inner k =
      let P : Outcome → Type 0 = λ o. WithValue o (λ x. IsQuiet v (prepared_filters fs (p + 1) (slice_set env p (Local d)) (d + 1) 0 go) a (l ++ x ∷ [])) in (
        quiet v f _ (operand_at env p ∷ []) d 0 a l (argument b p ∷ []) reach.0 typed.0 (omega arith) deep (reads_one a l env b p h) (texts_at p b n, tt) e.0,
        subst P (sym (means (world v) f _ (operand_at env p ∷ []) d 0 a l (argument b p ∷ []) typed.0 (omega arith) deep (reads_one a l env b p h)))
            (along (mean (world v) f (argument b p ∷ [])) (λ x. FiltersPlain v fs (p + 1) (slice_set b p x) × WithArguments (filtered (world v) fs (p + 1) (slice_set b p x)) (EntersPlain v t)) _
            (plain_result v f _ (argument b p ∷ []) reach.0 typed.0 (omega arith) (texts_at p b n, tt) e.0) (both_with (mean (world v) f (argument b p ∷ [])) _ _ (EntersPlain v t) e.1 inner)
            (λ x q pair. quiet_filters v fs old new (p + 1) (slice_set env p (Local d)) (d + 1) 0 a (l ++ x ∷ []) (slice_set b p x) go t w reach.1 typed.1 (omega (arith, length-set b p x)) (one_more l x d deep) (reads_set a l x d p env b deep h) (texts_set p b x q n) pair.0 pair.1 k)),
      )
  quiet_filters v (present f fs) [] new p env d s a l b go t w reach typed wide deep h n e inner k = absurd typed
  quiet_filters v (present f fs) (z ∷ old) [] p env d s a l b go t w reach typed wide deep h n e inner k = absurd typed

-- the locals of a tree's code
mutual
  pub shallow : (t : Tree) (m : Signature) (env : List Operand) (d s : ℕ) → IsTyped t m → deep (prepared t env d s) ≤ 16 * depth t
  shallow (constant x) m env d s typed = omega arith
  shallow (identity k) m env d s typed = omega arith
  shallow (operation o) m env d s typed = omega arith
  shallow (insert t p xs) m env d s (n, typed, inserts) = omega (arith, shallow t n (take p env ++ (map Constant xs ++ drop p env)) d (s + 1) typed)
  shallow (discard t p ks) m env d s (n, typed, discards) = omega (arith, shallow t n (take p env ++ drop (p + length ks) env) d (s + 1) typed)
  shallow (permute t new_type r) m env d s (n, typed, reorders, made) = omega (arith, shallow t n (map (operand_at env) r) d (s + 1) typed)
  shallow (filter t p fs) m env d s (n, typed, inside, returns, firsts, filters) =
      let few = few_parameters t n typed in
      let whole = shallow_filters fs (drop p n.parameters) (drop p m.parameters) p env d (s + 1) (prepared t) (16 * max (depth t) (deepest fs)) filters
      (λ env' d' s'. omega (arith, shallow t n env' d' s' typed)) (omega arith) in
      omega (arith, whole, length-drop p n.parameters)
  shallow (filter_return t f) m env d s (k, typed, last) = omega (arith, shallow t _ env d 0 typed, shallow f _ (Local d ∷ []) (d + 1) 0 last)
  shallow (fold t c) m env d s (k, ks, typed, combiner, begins) = omega (arith, shallow c _ env d 0 combiner, shallow t _ (Local d ∷ env) (d + 1) 0 typed)
  shallow (guard c x y) m env d s (ks, test, begins, one, two) = omega (arith, shallow c _ env d 0 test, shallow x m env d 0 one, shallow y m env d 0 two)
  shallow (point p x y) m env d s (one, two) = omega (arith, shallow x m env d 0 one, shallow y m env d 0 two)
  shallow (invoke k q) m env d s typed = omega arith

  shallow_filters : (fs : Filters) (old new : List Kind) (p : ℕ) (env : List Operand) (d s : ℕ) (go : List Operand → ℕ → ℕ → Code) (most : ℕ) → AreTyped fs old new → ((env' : List Operand) (d' s' : ℕ) → deep (go env' d' s') ≤ most) → 16 * deepest fs ≤ most → deep (prepared_filters fs p env d s go) ≤ length old + most
  shallow_filters no_more old new p env d s go most typed k h = omega (arith, k env d s)
  shallow_filters (absent fs) (z ∷ old) (j ∷ new) p env d s go most typed k h = omega (arith, shallow_filters fs old new (p + 1) env d s go most typed.1 k h)
  shallow_filters (absent fs) [] new p env d s go most typed k h = absurd typed
  shallow_filters (absent fs) (z ∷ old) [] p env d s go most typed k h = absurd typed
  shallow_filters (present f fs) (z ∷ old) (j ∷ new) p env d s go most typed k h =
      let rest = shallow_filters fs old new (p + 1) (slice_set env p (Local d)) (d + 1) 0 go most typed.1 k (omega arith) in
      let one = shallow f _ (operand_at env p ∷ []) d 0 typed.0 in
      omega arith
  shallow_filters (present f fs) [] new p env d s go most typed k h = absurd typed
  shallow_filters (present f fs) (z ∷ old) [] p env d s go most typed k h = absurd typed
