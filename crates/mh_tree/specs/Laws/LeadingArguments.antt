-- A typed tree reads only its leading arguments, as many as it has parameters.
use Rattle.std.proofs.Common.{◌≡◌, ℕ, suc, ◌+◌, ◌≤◌, ◌<◌, refl, ap, sym, ◌∙◌, List, [], ◌∷◌, ◌++◌, append_assoc, take, drop, map, length, arith, Result, Ok, Err, length-append, length-take, length-drop, if◌then◌else◌}
use Rattle.std.specs.Prelude.{slice_set}
use Rattle.std.specs.List.{All}
use Rattle.std.proofs.lemmas.List.{take-append-le, drop-append-le, take-append-drop, get_or_append_left, set-append_left}
use Rattle.std.proofs.Math.ListN.{length-set}
use Rattle.mh_type.specs.declared.kind.Kind.{Kind}
use Rattle.mh_type.specs.declared.operation.Op.{Op}
use Rattle.mh_type.specs.declared.operation.Op.TheVariants.{Iadd, Isub, Imul, Idiv, Irem, Ineg, Ieq, Ilt, Ladd, Lsub, Lmul, Ldiv, Lrem, Lneg, Leq, Llt, I2l, L2i, Not, Beq, Concat, Seq, Len}
use Rattle.mh_type.specs.declared.value.Value.{Value}
use Rattle.mh_type.specs.declared.outcome.Throw.{Throw}
use Rattle.mh_type.specs.declared.outcome.Outcome.{Outcome}
use Rattle.mh_type.specs.declared.outcome.Outcome.TheVariants.{Thrown, Value as Value'}
use Rattle.mh_type.specs.declared.outcome.Outcome.TheVariants as outcome
use Rattle.mh_type.specs.Operations.{operate, op_signature, first, second}
use Rattle.mh_type.specs.Signature.{Signature}
use Rattle.mh_tree.specs.Arity.{arity}
use Rattle.mh_tree.specs.Meaning.{◌>>=◌, mean, steps, filtered, filter_steps, with_arguments, with_value, after, after_filters, argument, put_in, taken_out, choose, choose_steps, is_valid}
use Rattle.mh_tree.specs.Tree.{Tree, Filters, constant, identity, operation, insert, discard, permute, filter, filter_return, fold, guard, point, invoke, no_more, absent, present}
use Rattle.mh_tree.specs.Typing.{IsTyped, AreTyped}
use Rattle.mh_tree.specs.Environment.{Environment}

pub as_few : (fs : Filters) (old new : List Kind) → AreTyped fs old new → length new ≤ length old
as_few no_more old new h = let e = ap (λ (ks : List Kind). length ks) h in omega arith
as_few (absent fs) (k ∷ old) (j ∷ new) h = omega (arith, as_few fs old new h.1)
as_few (absent fs) [] new h = absurd h
as_few (absent fs) (k ∷ old) [] h = absurd h
as_few (present f fs) (k ∷ old) (j ∷ new) h = omega (arith, as_few fs old new h.1)
as_few (present f fs) [] new h = absurd h
as_few (present f fs) (k ∷ old) [] h = absurd h

pub as_many : (fs : Filters) (old new : List Kind) → AreTyped fs old new → length old ≤ length new
as_many no_more old new h = let e = ap (λ (ks : List Kind). length ks) h in omega arith
as_many (absent fs) (k ∷ old) (j ∷ new) h = omega (arith, as_many fs old new h.1)
as_many (absent fs) [] new h = absurd h
as_many (absent fs) (k ∷ old) [] h = absurd h
as_many (present f fs) (k ∷ old) (j ∷ new) h = omega (arith, as_many fs old new h.1)
as_many (present f fs) [] new h = absurd h
as_many (present f fs) (k ∷ old) [] h = absurd h

-- filters change kinds, but not the number of parameters
pub same_count : (p : ℕ) (fs : Filters) (old new : List Kind) → p ≤ length old → take p new ≡ take p old → AreTyped fs (drop p old) (drop p new) → length new ≡ length old
same_count p fs old new inside firsts typed =
    let many = as_many fs (drop p old) (drop p new) typed in
    let few = as_few fs (drop p old) (drop p new) typed in
    let e : length (take p new) ≡ length (take p old) = ap (λ (ks : List Kind). length ks) firsts in
    omega (arith, length-take p old, length-take p new, length-drop p old, length-drop p new)

-- the arity of a typed tree is the number of its parameters
pub arity_counts : (t : Tree) (m : Signature) → IsTyped t m → arity t ≡ length m.parameters
arity_counts (constant x) m h = ap (λ (n : Signature). length n.parameters) (sym h)
arity_counts (identity k) m h = ap (λ (n : Signature). length n.parameters) (sym h)
arity_counts (operation o) m h = ap (λ (n : Signature). length n.parameters) (sym h)
arity_counts (insert t p xs) m (n, typed, inserts) =
    let inner = arity_counts t n typed in
    let made = ap (λ (s : Signature). length s.parameters) inserts.made in
    let inside = inserts.inside in
    omega (arith, simp (length-append, length-take, length-drop) at made)
arity_counts (discard t p ks) m (n, typed, discards) =
    let inner = arity_counts t n typed in
    let made = ap (λ (s : Signature). length s.parameters) discards.made in
    let inside = discards.inside in
    omega (arith, simp (length-append, length-take, length-drop) at made)
arity_counts (permute t new_type r) m (n, typed, reorders, made) = ap (λ (s : Signature). length s.parameters) (sym made)
arity_counts (filter t p fs) m (n, typed, inside, returns, firsts, filters) =
    arity_counts t n typed ∙ sym (same_count p fs n.parameters m.parameters inside firsts filters)
arity_counts (filter_return t f) m (k, typed, after) = arity_counts t _ typed
arity_counts (fold t c) m (k, ks, typed, combiner, begins) = omega (arith, arity_counts t _ typed)
arity_counts (guard c x y) m (ks, test, begins, first, second) = arity_counts x m first
arity_counts (point p x y) m (first, second) = arity_counts x m first
arity_counts (invoke s n) m (few, made) = ap (λ (k : Signature). length k.parameters) (sym made)

-- operations that take two arguments, and one
two_more : (a e : List Value) (go : Value → Value → Outcome) → 2 ≤ length a → first (a ++ e) (λ x. second (a ++ e) (go x)) ≡ first a (λ x. second a (go x))
two_more [] e go h = absurd (omega arith)
two_more (x ∷ []) e go h = absurd (omega arith)
two_more (x ∷ y ∷ rest) e go h = refl

one_more : (a e : List Value) (go : Value → Outcome) → 1 ≤ length a → first (a ++ e) go ≡ first a go
one_more [] e go h = absurd (omega arith)
one_more (x ∷ rest) e go h = refl

pub operate_more : (o : Op) (a e : List Value) → length (op_signature o).parameters ≤ length a → operate o (a ++ e) ≡ operate o a
operate_more Ineg a e h = one_more a e _ h
operate_more Lneg a e h = one_more a e _ h
operate_more I2l a e h = one_more a e _ h
operate_more L2i a e h = one_more a e _ h
operate_more Not a e h = one_more a e _ h
operate_more Len a e h = one_more a e _ h
operate_more Iadd a e h = two_more a e _ h
operate_more Isub a e h = two_more a e _ h
operate_more Imul a e h = two_more a e _ h
operate_more Idiv a e h = two_more a e _ h
operate_more Irem a e h = two_more a e _ h
operate_more Ieq a e h = two_more a e _ h
operate_more Ilt a e h = two_more a e _ h
operate_more Ladd a e h = two_more a e _ h
operate_more Lsub a e h = two_more a e _ h
operate_more Lmul a e h = two_more a e _ h
operate_more Ldiv a e h = two_more a e _ h
operate_more Lrem a e h = two_more a e _ h
operate_more Leq a e h = two_more a e _ h
operate_more Llt a e h = two_more a e _ h
operate_more Beq a e h = two_more a e _ h
operate_more Concat a e h = two_more a e _ h
operate_more Seq a e h = two_more a e _ h

pub argument_more : (a e : List Value) (i : ℕ) → i < length a → argument (a ++ e) i ≡ argument a i
argument_more a e i h = get_or_append_left a e _ i h

pub put_in_more : (a e : List Value) (p : ℕ) (xs : List Value) → p ≤ length a → put_in (a ++ e) p xs ≡ put_in a p xs ++ e
put_in_more a e p xs h = rw (take-append-le p a e h, drop-append-le p a e h) (simp append_assoc)

pub taken_out_more : (a e : List Value) (p n : ℕ) → p + n ≤ length a → taken_out (a ++ e) p n ≡ taken_out a p n ++ e
taken_out_more a e p n h =
    let inside : p ≤ length a = omega arith in
    rw (take-append-le p a e inside, drop-append-le (p + n) a e h) (simp append_assoc)

pub reordered_more : (a e : List Value) (n : ℕ) (r : List ℕ) → n ≤ length a → All (λ i. i < n) r → map (argument (a ++ e)) r ≡ map (argument a) r
reordered_more a e n [] h all = refl
reordered_more a e n (i ∷ r) h all =
    let first : i < n = all 0 0 (omega arith) in
    let here : argument (a ++ e) i ≡ argument a i = argument_more a e i (omega arith) in
    let rest = reordered_more a e n r h (λ k d below. all (suc k) d (omega arith)) in
    λ j. here j ∷ rest j

-- further arguments, which a list of filters passes on
abbrev pub with_more : List Value → Result (List Value) Throw → Result (List Value) Throw
with_more e (Ok a) = Ok (a ++ e)
with_more e (Err t) = Err t

abbrev pub count : Filters → ℕ
count no_more = 0
count (absent fs) = 1 + count fs
count (present f fs) = 1 + count fs

pub counted : (fs : Filters) (old new : List Kind) → AreTyped fs old new → count fs ≤ length old
counted no_more old new h = omega arith
counted (absent fs) (k ∷ old) (j ∷ new) h = omega (arith, counted fs old new h.1)
counted (absent fs) [] new h = absurd h
counted (absent fs) (k ∷ old) [] h = absurd h
counted (present f fs) (k ∷ old) (j ∷ new) h = omega (arith, counted fs old new h.1)
counted (present f fs) [] new h = absurd h
counted (present f fs) (k ∷ old) [] h = absurd h

carry : (e : List Value) (o : Outcome) (go go' : Value → Result (List Value) Throw) → ((x : Value) → go x ≡ with_more e (go' x)) → with_value o go ≡ with_more e (with_value o go')
carry e (Value' x) go go' h = h x
carry e (Thrown t) go go' h = refl

carry_steps : (o : Outcome) (go go' : Value → ℕ) → ((x : Value) → go x ≡ go' x) → after o go ≡ after o go'
carry_steps (Value' x) go go' h = h x
carry_steps (Thrown t) go go' h = refl

pub filtered_more : (v : Environment) (fs : Filters) (p : ℕ) (a e : List Value) → p + count fs ≤ length a → filtered v fs p (a ++ e) ≡ with_more e (filtered v fs p a)
filtered_more v no_more p a e h = refl
filtered_more v (absent fs) p a e h = filtered_more v fs (p + 1) a e (omega arith)
filtered_more v (present f fs) p a e h =
    let inside : p < length a = omega arith in
    rw (argument_more a e p inside)
    (carry e (mean v f (argument a p ∷ [])) _ _
    (λ x. rw (set-append_left a e p x inside) (filtered_more v fs (p + 1) (slice_set a p x) e (omega (arith, length-set a p x)))))

filter_steps_more : (v : Environment) (fs : Filters) (p : ℕ) (a e : List Value) → p + count fs ≤ length a → filter_steps v fs p (a ++ e) ≡ filter_steps v fs p a
filter_steps_more v no_more p a e h = refl
filter_steps_more v (absent fs) p a e h = filter_steps_more v fs (p + 1) a e (omega arith)
filter_steps_more v (present f fs) p a e h =
    let inside : p < length a = omega arith in
    let tail : (x : Value) → filter_steps v fs (p + 1) (slice_set (a ++ e) p x) ≡ filter_steps v fs (p + 1) (slice_set a p x) =
    λ (x : Value). rw (set-append_left a e p x inside) (filter_steps_more v fs (p + 1) (slice_set a p x) e (omega (arith, length-set a p x))) in
    rw (argument_more a e p inside)
    (ap (λ n. steps v f (argument a p ∷ []) + n) (carry_steps (mean v f (argument a p ∷ [])) _ _ tail))

-- filters preserve the number of arguments, if none throws
after_value : (o : Outcome) (go : Value → Result (List Value) Throw) (b : List Value) (n : ℕ) → ((x : Value) → go x ≡ Ok b → length b ≡ n) → with_value o go ≡ Ok b → length b ≡ n
after_value (Value' x) go b n k h = k x h
after_value (Thrown x) go b n k h = cc

pub filtered_length : (v : Environment) (fs : Filters) (p : ℕ) (a b : List Value) → filtered v fs p a ≡ Ok b → length b ≡ length a
filtered_length v no_more p a b h = let e : a ≡ b = cc in ap (λ (xs : List Value). length xs) (sym e)
filtered_length v (absent fs) p a b h = filtered_length v fs (p + 1) a b h
filtered_length v (present f fs) p a b h =
    after_value (mean v f (argument a p ∷ [])) _ b (length a)
    (λ x k. filtered_length v fs (p + 1) (slice_set a p x) b k ∙ length-set a p x) h

-- a target that reads only its leading arguments does so after filters
with_arguments_more : (r : Result (List Value) Throw) (e : List Value) (go : List Value → Outcome) → ((b : List Value) → r ≡ Ok b → go (b ++ e) ≡ go b) → with_arguments (with_more e r) go ≡ with_arguments r go
with_arguments_more (Ok b) e go h = h b refl
with_arguments_more (Err t) e go h = refl

after_filters_more : (r : Result (List Value) Throw) (e : List Value) (go : List Value → ℕ) → ((b : List Value) → r ≡ Ok b → go (b ++ e) ≡ go b) → after_filters (with_more e r) go ≡ after_filters r go
after_filters_more (Ok b) e go h = h b refl
after_filters_more (Err t) e go h = refl

pub leading : (c : Tree) (ret : Kind) (ks kinds : List Kind) (a e : List Value) → IsTyped c (record { ret = ret; parameters = ks }) → ks ≡ take (length ks) kinds → length kinds ≤ length a → take (arity c) (a ++ e) ≡ take (arity c) a
leading c ret ks kinds a e typed begins wide =
    let many = arity_counts c _ typed in
    let first : length ks ≡ length (take (length ks) kinds) = ap (λ (xs : List Kind). length xs) begins in
    take-append-le (arity c) a e (omega (arith, length-take (length ks) kinds))

-- further arguments change nothing
pub mean_more : (v : Environment) (t : Tree) (m : Signature) (a e : List Value) → IsTyped t m → length m.parameters ≤ length a → mean v t (a ++ e) ≡ mean v t a
mean_more v (constant x) m a e typed wide = refl
mean_more v (identity k) m a e typed wide =
    let one = arity_counts (identity k) m typed in
    ap outcome.Value (argument_more a e 0 (omega arith))
mean_more v (operation o) m a e typed wide =
    let many = arity_counts (operation o) m typed in
    operate_more o a e (omega arith)
mean_more v (insert t p xs) m a e (n, typed, inserts) wide =
    let made = ap (λ (s : Signature). length s.parameters) inserts.made in
    let inside = inserts.inside in
    let count = simp (length-append, length-take, length-drop) at made in
    rw (put_in_more a e p xs (omega arith))
    (mean_more v t n (put_in a p xs) e typed (simp (length-append, length-take, length-drop) (omega arith)))
mean_more v (discard t p ks) m a e (n, typed, discards) wide =
    let made = ap (λ (s : Signature). length s.parameters) discards.made in
    let inside = discards.inside in
    let count = simp (length-append, length-take, length-drop) at made in
    rw (taken_out_more a e p (length ks) (omega arith))
    (mean_more v t n (taken_out a p (length ks)) e typed (simp (length-append, length-take, length-drop) (omega arith)))
mean_more v (permute t new_type r) m a e (n, typed, reorders, made) wide =
    ap (mean v t) (reordered_more a e (length m.parameters) r wide reorders.inside)
mean_more v (filter t p fs) m a e (n, typed, inside, returns, firsts, filters) wide =
    let same = same_count p fs n.parameters m.parameters inside firsts filters in
    let few = counted fs _ _ filters in
    rw (filtered_more v fs p a e (omega (arith, length-drop p n.parameters)))
    (with_arguments_more (filtered v fs p a) e (mean v t) (λ b h. mean_more v t n b e typed (omega (arith, filtered_length v fs p a b h))))
mean_more v (filter_return t f) m a e (k, typed, after) wide = ap (λ o. o >>= (λ x. mean v f (x ∷ []))) (mean_more v t _ a e typed wide)
mean_more v (fold t c) m a e (k, ks, typed, combiner, begins) wide =
    rw (leading c k ks m.parameters a e combiner begins wide)
    (λ i. mean v c (take (arity c) a) >>= (λ x. mean_more v t _ (x ∷ a) e typed (omega arith) i))
mean_more v (guard c x y) m a e (ks, test, begins, first, second) wide =
    rw (leading c _ ks m.parameters a e test begins wide)
    (λ i. mean v c (take (arity c) a) >>= (λ b. choose b (mean_more v x m a e first wide i) (mean_more v y m a e second wide i)))
mean_more v (point p x y) m a e (first, second) wide =
    λ i. if is_valid v p then mean_more v x m a e first wide i else mean_more v y m a e second wide i
mean_more v (invoke s n) m a e (few, made) wide =
    let many = ap (λ (k : Signature). length k.parameters) made in
    ap (v.calls s) (take-append-le (length n.parameters) a e (omega arith))

steps_more : (v : Environment) (t : Tree) (m : Signature) (a e : List Value) → IsTyped t m → length m.parameters ≤ length a → steps v t (a ++ e) ≡ steps v t a
steps_more v (constant x) m a e typed wide = refl
steps_more v (identity k) m a e typed wide = refl
steps_more v (operation o) m a e typed wide = refl
steps_more v (insert t p xs) m a e (n, typed, inserts) wide =
    let made = ap (λ (s : Signature). length s.parameters) inserts.made in
    let inside = inserts.inside in
    let count = simp (length-append, length-take, length-drop) at made in
    rw (put_in_more a e p xs (omega arith))
    (ap (λ k. 1 + k) (steps_more v t n (put_in a p xs) e typed (simp (length-append, length-take, length-drop) (omega arith))))
steps_more v (discard t p ks) m a e (n, typed, discards) wide =
    let made = ap (λ (s : Signature). length s.parameters) discards.made in
    let inside = discards.inside in
    let count = simp (length-append, length-take, length-drop) at made in
    rw (taken_out_more a e p (length ks) (omega arith))
    (ap (λ k. 1 + k) (steps_more v t n (taken_out a p (length ks)) e typed (simp (length-append, length-take, length-drop) (omega arith))))
steps_more v (permute t new_type r) m a e (n, typed, reorders, made) wide =
    ap (λ b. 1 + steps v t b) (reordered_more a e (length m.parameters) r wide reorders.inside)
steps_more v (filter t p fs) m a e (n, typed, inside, returns, firsts, filters) wide =
    let same = same_count p fs n.parameters m.parameters inside firsts filters in
    let few = counted fs _ _ filters in
    let room : p + count fs ≤ length a = omega (arith, length-drop p n.parameters) in
    let before = filter_steps_more v fs p a e room in
    let passed = filtered_more v fs p a e room in
    rw passed
    (λ i. 1 + (before i + after_filters_more (filtered v fs p a) e (steps v t) (λ b h. steps_more v t n b e typed (omega (arith, filtered_length v fs p a b h))) i))
steps_more v (filter_return t f) m a e (k, typed, last) wide =
    λ i. 1 + (steps_more v t _ a e typed wide i + after (mean_more v t _ a e typed wide i) (λ x. steps v f (x ∷ [])))
steps_more v (fold t c) m a e (k, ks, typed, combiner, begins) wide =
    rw (leading c k ks m.parameters a e combiner begins wide)
    (λ i. 1 + (steps v c (take (arity c) a) + after (mean v c (take (arity c) a)) (λ x. steps_more v t _ (x ∷ a) e typed (omega arith) i)))
steps_more v (guard c x y) m a e (ks, test, begins, first, second) wide =
    rw (leading c _ ks m.parameters a e test begins wide)
    (λ i. 1 + (steps v c (take (arity c) a) + after (mean v c (take (arity c) a)) (λ b. choose_steps b (steps_more v x m a e first wide i) (steps_more v y m a e second wide i))))
steps_more v (point p x y) m a e (first, second) wide =
    λ i. 1 + (if is_valid v p then steps_more v x m a e first wide i else steps_more v y m a e second wide i)
steps_more v (invoke s n) m a e (few, made) wide =
    let many = ap (λ (k : Signature). length k.parameters) made in
    ap (λ b. 1 + v.call_steps s b) (take-append-le (length n.parameters) a e (omega arith))

-- A typed tree does on as many leading arguments as it has parameters the same as on all.
module _ (v : Environment) (t : Tree) (m : Signature) (a : List Value) (typed : IsTyped t m) (wide : length m.parameters ≤ length a) where
  pub enough : length m.parameters ≤ length (take (arity t) a)
  enough = let many = arity_counts t m typed in omega (arith, length-take (arity t) a)

  pub mean_leading : mean v t (take (arity t) a) ≡ mean v t a
  mean_leading =
      sym (mean_more v t m (take (arity t) a) (drop (arity t) a) typed enough) ∙ ap (mean v t) (take-append-drop (arity t) a)

  pub steps_leading : steps v t (take (arity t) a) ≡ steps v t a
  steps_leading =
      sym (steps_more v t m (take (arity t) a) (drop (arity t) a) typed enough) ∙ ap (steps v t) (take-append-drop (arity t) a)
