-- A typed tree that enters no node with String in its type on its leading arguments enters none on all of them.
use Rattle.std.proofs.Common.{◌≡◌, ℕ, ◌+◌, ◌≤◌, ◌<◌, refl, ap, sym, List, [], ◌∷◌, ◌++◌, take, drop, length, arith, Bool, true, false, Result, Ok, Err, subst, length-append, length-take, length-drop}
use Rattle.std.specs.Prelude.{slice_set}
use Rattle.std.proofs.Math.ListN.{length-set}
use Rattle.std.proofs.lemmas.List.{take-append-drop, take-append-le, set-append_left}
use Rattle.mh_type.specs.declared.value.Value.{Value}
use Rattle.mh_type.specs.declared.value.Value.TheVariants.{Int, Long, Boolean, Text}
use Rattle.mh_type.specs.declared.outcome.Throw.{Throw}
use Rattle.mh_type.specs.declared.outcome.Outcome.{Outcome}
use Rattle.mh_type.specs.declared.outcome.Outcome.TheVariants.{Thrown, Value as Value'}
use Rattle.mh_type.specs.Signature.{Signature}
use Rattle.mh_tree.specs.Arity.{arity}
use Rattle.mh_tree.specs.Meaning.{mean, filtered, argument, put_in, taken_out, is_valid}
use Rattle.mh_tree.specs.Tree.{Tree, Filters, constant, identity, operation, insert, discard, permute, filter, filter_return, fold, guard, point, invoke, no_more, absent, present}
use Rattle.mh_tree.specs.Typing.{IsTyped}
use Rattle.mh_tree.specs.Laws.{same_count, filter_count as count, counted, argument_more, put_in_more, taken_out_more, reordered_more, with_more, filtered_more, filtered_length, mean_more, leading, enough}
use Rattle.mh_eval.specs.Entered.{WithValue, Chosen, OneOf, WithArguments, EntersPlain, FiltersPlain, plain_below}
use Rattle.mh_tree.specs.Sites.{Setting, env}

-- a fact of the value that goes on to another
value_along : (o : Outcome) (E Q : Value → Type 0) → WithValue o E → ((x : Value) → E x → Q x) → WithValue o Q
value_along (Value' x) E Q e k = k x e
value_along (Thrown t) E Q e k = tt

pub chosen_along : (z : Value) (A B C D : Type 0) → (A → C) → (B → D) → Chosen z A B → Chosen z C D
chosen_along (Boolean true) A B C D f g e = f e
chosen_along (Boolean false) A B C D f g e = g e
chosen_along (Int x) A B C D f g e = g e
chosen_along (Long x) A B C D f g e = g e
chosen_along (Text x) A B C D f g e = g e

pub one_along : (z : Bool) (A B C D : Type 0) → (A → C) → (B → D) → OneOf z A B → OneOf z C D
one_along true A B C D f g e = f e
one_along false A B C D f g e = g e

-- the arguments after filters, with further ones
arguments_along : (r : Result (List Value) Throw) (e : List Value) (E : List Value → Type 0) → WithArguments r E → ((b : List Value) → r ≡ Ok b → E b → E (b ++ e)) → WithArguments (with_more e r) E
arguments_along (Ok b) e E h k = k b refl h
arguments_along (Err t) e E h k = tt

filters_more : (v : Setting) (fs : Filters) (p : ℕ) (a e : List Value) → p + count fs ≤ length a → FiltersPlain v fs p a → FiltersPlain v fs p (a ++ e)
filters_more v no_more p a e room h = tt
filters_more v (absent fs) p a e room h = filters_more v fs (p + 1) a e (omega arith) h
filters_more v (present f fs) p a e room h =
    let inside : p < length a = omega arith in
    let here = argument_more a e p inside in
    let P : Value → Type 0 = λ y. EntersPlain v f (y ∷ []) in
    let W : Value → Type 0 = λ y. WithValue (mean (env v) f (y ∷ [])) (λ x. FiltersPlain v fs (p + 1) (slice_set (a ++ e) p x)) in (
      subst P (sym here) h.0,
      subst W (sym here)
          (value_along (mean (env v) f (argument a p ∷ [])) _ _ h.1
          (λ x inner. subst (FiltersPlain v fs (p + 1)) (sym (set-append_left a e p x inside)) (filters_more v fs (p + 1) (slice_set a p x) e (omega (arith, length-set a p x)) inner))),
    )

enters_more : (v : Setting) (t : Tree) (m : Signature) (a e : List Value) → IsTyped t m → length m.parameters ≤ length a → EntersPlain v t a → EntersPlain v t (a ++ e)
enters_more v (constant x) m a e typed wide h = h
enters_more v (identity k) m a e typed wide h = h
enters_more v (operation o) m a e typed wide h = h
enters_more v (insert t p xs) m a e (n, typed, inserts) wide h =
    let made = ap (λ (s : Signature). length s.parameters) inserts.made in
    let inside = inserts.inside in
    let count = simp (length-append, length-take, length-drop) at made in (
      h.0,
      subst (EntersPlain v t) (sym (put_in_more a e p xs (omega arith)))
          (enters_more v t n (put_in a p xs) e typed (simp (length-append, length-take, length-drop) (omega arith)) h.1),
    )
enters_more v (discard t p ks) m a e (n, typed, discards) wide h =
    let made = ap (λ (s : Signature). length s.parameters) discards.made in
    let inside = discards.inside in
    let count = simp (length-append, length-take, length-drop) at made in (
      h.0,
      subst (EntersPlain v t) (sym (taken_out_more a e p (length ks) (omega arith)))
          (enters_more v t n (taken_out a p (length ks)) e typed (simp (length-append, length-take, length-drop) (omega arith)) h.1),
    )
enters_more v (permute t new_type r) m a e (n, typed, reorders, made) wide h =
    (h.0, subst (EntersPlain v t) (sym (reordered_more a e (length m.parameters) r wide reorders.inside)) h.1)
enters_more v (filter t p fs) m a e (n, typed, inside, returns, firsts, filters) wide h =
    let same = same_count p fs n.parameters m.parameters inside firsts filters in
    let few = counted fs _ _ filters in
    let room : p + count fs ≤ length a = omega (arith, length-drop p n.parameters) in
    let P : Result (List Value) Throw → Type 0 = λ r. WithArguments r (EntersPlain v t) in (
      h.0,
      filters_more v fs p a e room h.1,
      subst P (sym (filtered_more (env v) fs p a e room))
          (arguments_along (filtered (env v) fs p a) e (EntersPlain v t) h.2
          (λ b is inner. enters_more v t n b e typed (omega (arith, filtered_length (env v) fs p a b is)) inner)),
    )
enters_more v (filter_return t f) m a e (k, typed, last) wide h =
    let P : Outcome → Type 0 = λ o. WithValue o (λ x. EntersPlain v f (x ∷ [])) in
    (h.0, enters_more v t _ a e typed wide h.1, subst P (sym (mean_more (env v) t _ a e typed wide)) h.2)
enters_more v (fold t c) m a e (k, ks, typed, combiner, begins) wide h =
    let lead = leading c k ks m.parameters a e combiner begins wide in
    let P : List Value → Type 0 = λ b. WithValue (mean (env v) c b) (λ x. EntersPlain v t (x ∷ (a ++ e))) in (
      h.0,
      subst (EntersPlain v c) (sym lead) h.1,
      subst P (sym lead) (value_along (mean (env v) c (take (arity c) a)) _ _ h.2 (λ x inner. enters_more v t _ (x ∷ a) e typed (omega arith) inner)),
    )
enters_more v (guard c x y) m a e (ks, test, begins, one, two) wide h =
    let lead = leading c _ ks m.parameters a e test begins wide in
    let P : List Value → Type 0 = λ b. WithValue (mean (env v) c b) (λ z. Chosen z (EntersPlain v x (a ++ e)) (EntersPlain v y (a ++ e))) in (
      h.0,
      subst (EntersPlain v c) (sym lead) h.1,
      subst P (sym lead)
          (value_along (mean (env v) c (take (arity c) a)) _ _ h.2
          (λ z inner. chosen_along z _ _ _ _ (enters_more v x m a e one wide) (enters_more v y m a e two wide) inner)),
    )
enters_more v (point p x y) m a e (one, two) wide h =
    (h.0, one_along (is_valid (env v) p) _ _ _ _ (enters_more v x m a e one wide) (enters_more v y m a e two wide) h.1)
enters_more v (invoke s n) m a e (few, made) wide h =
    let many = ap (λ (k : Signature). length k.parameters) made in
    let lead : take (length n.parameters) (a ++ e) ≡ take (length n.parameters) a = take-append-le (length n.parameters) a e (omega arith) in
    (h.0, subst (plain_below v.level v.valid v.targets s) (sym lead) h.1)

pub enters_leading : (v : Setting) (t : Tree) (m : Signature) (a : List Value) → IsTyped t m → length m.parameters ≤ length a → EntersPlain v t (take (arity t) a) → EntersPlain v t a
enters_leading v t m a typed wide h =
    subst (EntersPlain v t) (take-append-drop (arity t) a)
    (enters_more v t m (take (arity t) a) (drop (arity t) a) typed (enough (env v) t m a typed wide) h)
