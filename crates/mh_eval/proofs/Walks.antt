-- Walks of the nodes of a tree, from those of their parts.
use Rattle.std.proofs.Common.{◌≡◌, ℕ, ◌+◌, ◌*◌, ◌≤◌, ◌∙◌, ap, sym, subst, refl, arith, Bool, true, false, max, if◌then◌else◌, List, [], ◌∷◌, ◌++◌, take, drop, map, length, length-append, length-take, length-drop, Result, Ok, Err, append-nil}
use Rattle.std.specs.Prelude.{IsOk, ◌<◌}
use Rattle.std.specs.List.{All}
use Rattle.std.proofs.lemmas.List.Elements.{All-get_or, All-from_get_or}
use Rattle.std.proofs.lemmas.List.{append_assoc, take-append-drop, take-append-le, length-map}
use Rattle.mh_type.specs.declared.kind.Kind.{Kind}
use Rattle.mh_type.specs.declared.value.Value.{Value}
use Rattle.mh_type.specs.declared.value.Value.TheVariants as value
use Rattle.mh_type.specs.declared.outcome.Outcome.{Outcome}
use Rattle.mh_type.specs.declared.outcome.Outcome.TheVariants as outcome
use Rattle.mh_type.specs.declared.kind.Kind.TheVariants as kind
use Rattle.mh_type.specs.declared.operation.Op.{Op}
use Rattle.mh_type.specs.declared.operation.Op.TheVariants.{Concat}
use Rattle.mh_type.specs.Operations.{operate, op_signature}
use Rattle.mh_type.specs.Signature.{Signature}
use Rattle.mh_tree.specs.Arity.{arity}
use Rattle.mh_tree.specs.Limits.{depth, most_steps, point_bound}
use Rattle.mh_tree.specs.Meaning.{◌>>=◌, mean, steps, after, argument, put_in, taken_out, choose, choose_steps, is_valid}
use Rattle.mh_tree.specs.Tree.{Tree, constant, identity, operation, insert, discard, permute, filter, filter_return, fold, guard, point, invoke}
use Rattle.mh_tree.specs.TreeOf.{tree_of, tree_step}
use Rattle.mh_tree.specs.declared.node.Node.TheVariants.{Identity, Operation, Invoke, rolls-Identity, rolls-Operation, rolls-Invoke}
use Rattle.mh_tree.specs.declared.node.Node.TheOpen as open_node
use Rattle.mh_tree.specs.declared.node.Node.TheFolds.{fold-roll-Node}
use Rattle.mh_tree.specs.Typing.{IsTyped}
use Rattle.mh_type.specs.Kinds.{kind_of}
use Rattle.mh_tree.specs.inner.Widths.{CanRun}
use Rattle.mh_tree.specs.Laws.{effort, argument_more, arity_counts, mean_leading, mean_more, steps_leading, put_in_more, taken_out_more, reordered_more, few_parameters}
use Rattle.mh_eval.specs.Answers.{Gives, Ran}
use Rattle.mh_eval.specs.Entered.{EntersPlain, IsPlainKind, WithValue, Chosen, OneOf}
use Rattle.mh_eval.specs.Frames.{Extends}
use Rattle.mh_eval.specs.Quiet.{IsAnswered, NoTexts}
use Rattle.mh_eval.specs.inner.Walked.{Walked, Ends, settled, is_true}
use Rattle.mh_eval.specs.declared.answer.Answer.{Answer}
use Rattle.mh_eval.specs.declared.answer.Answer.TheVariants.{Int, Long, Boolean, Text, Thrown, NoMemory}
use Rattle.mh_eval.proofs.AnswersGiven.{gives_ran}
use Rattle.mh_eval.proofs.Branches.{guard_mean, guard_steps, fold_mean, fold_steps, shorter}
use Rattle.mh_eval.proofs.EntersLeading.{enters_leading}
use Rattle.mh_eval.proofs.Extending.{front_texts}
use Rattle.mh_eval.proofs.QuietTrees.{not_text, plain_result, texts_at, texts_append, texts_take, texts_drop, texts_reordered, inserted_plain}
use Rattle.mh_tree.specs.Sites.{Setting, env, EachInvoke, MayReach, most_at, greatest_steps}

-- one step more
pub ran_more : (r : Answer) (k : ℕ) (o : Outcome) (m : ℕ) → Ran r k o m → Ran r (1 + k) o (1 + m)
ran_more (Int x) k o m h = (h.0, ap (λ n. 1 + n) h.1)
ran_more (Long x) k o m h = (h.0, ap (λ n. 1 + n) h.1)
ran_more (Boolean x) k o m h = (h.0, ap (λ n. 1 + n) h.1)
ran_more (Text x) k o m h = (h.0, ap (λ n. 1 + n) h.1)
ran_more (Thrown t) k o m h = (h.0, ap (λ n. 1 + n) h.1)
ran_more NoMemory k o m h = tt

-- the steps before it, and one more
pub ran_after : (r : Answer) (j k : ℕ) (o : Outcome) (m : ℕ) → Ran r j o m → Ran r (1 + (k + j)) o (1 + (k + m))
ran_after (Int x) j k o m h = (h.0, ap (λ n. 1 + (k + n)) h.1)
ran_after (Long x) j k o m h = (h.0, ap (λ n. 1 + (k + n)) h.1)
ran_after (Boolean x) j k o m h = (h.0, ap (λ n. 1 + (k + n)) h.1)
ran_after (Text x) j k o m h = (h.0, ap (λ n. 1 + (k + n)) h.1)
ran_after (Thrown t) j k o m h = (h.0, ap (λ n. 1 + (k + n)) h.1)
ran_after NoMemory j k o m h = tt

-- the same outcome and steps, in other words
pub ran_as : (r : Answer) (k : ℕ) (o p : Outcome) (m n : ℕ) → Ran r k o m → o ≡ p → m ≡ n → Ran r k p n
ran_as r k o p m n h same more =
    let P : Outcome → Type 0 = λ q. Ran r k q n in
    subst P same (subst (Ran r k o) more h)

-- a frame that is narrower than the arguments
pub first_sixteen : (r : Answer) (k : ℕ) (v : Setting) (t : Tree) (a : List Value) (w : Setting) (n c : ℕ) → CanRun t (length a) w → Walked r k v t (take 16 a) n c → Walked r k v t a n c
first_sixteen r k v t a w n c runs h =
    let few : length runs.signature.parameters ≤ 16 = few_parameters t runs.signature runs.typed in
    let wide : length runs.signature.parameters ≤ length (take 16 a) = omega (arith, few, runs.wide, length-take 16 a) in
    let whole : take 16 a ++ drop 16 a ≡ a = take-append-drop 16 a in
    let same : mean (env v) t (take 16 a) ≡ mean (env v) t a = sym (mean_more (env v) t runs.signature (take 16 a) (drop 16 a) runs.typed wide) ∙ ap (mean (env v) t) whole in
    let counts : arity t ≤ length (take 16 a) = omega (arith, arity_counts t runs.signature runs.typed, wide) in
    let leads : take (arity t) (take 16 a) ≡ take (arity t) a = sym (take-append-le (arity t) (take 16 a) (drop 16 a) counts) ∙ ap (take (arity t)) whole in
    let more : steps (env v) t (take 16 a) ≡ steps (env v) t a =
    sym (steps_leading (env v) t runs.signature (take 16 a) runs.typed wide) ∙ ap (steps (env v) t) leads ∙ steps_leading (env v) t runs.signature a runs.typed runs.wide in
    record {
      ran = ran_as r k _ _ _ _ h.ran same more;
      few = h.few;
      quiet = λ e plain none room.
          let all : a ++ e ≡ take 16 a ++ (drop 16 a ++ e) = ap (λ (l : List Value). l ++ e) (sym whole) ∙ append_assoc (take 16 a) (drop 16 a) e in
          h.quiet (drop 16 a ++ e) (subst (EntersPlain v t) all plain) (subst NoTexts all none) room;
    }

-- with less room
pub within : (r : Answer) (k : ℕ) (v : Setting) (t : Tree) (a : List Value) (m n c d : ℕ) → Walked r k v t a m d → m ≤ n → c ≤ d → Walked r k v t a n c
within r k v t a m n c d h few room = record {
  ran = h.ran;
  few = h.few;
  quiet = λ e plain none space. h.quiet e plain none (omega (arith, few, room, space));
}

-- a node that hands other arguments to its target
module _ (v : Setting) (u t : Tree) (a b : List Value) (deeper : 1 + depth t ≤ depth u) (larger : 1 + most_steps (most_at v.level) t ≤ most_steps (most_at v.level) u) (same : mean (env v) u a ≡ mean (env v) t b) (more : steps (env v) u a ≡ 1 + steps (env v) t b) (enters : (e : List Value) → EntersPlain v u (a ++ e) → NoTexts (a ++ e) → (f : List Value) × EntersPlain v t (b ++ f) × NoTexts (b ++ f)) (n c : ℕ) where
  pub through : (r : Answer) (k m d : ℕ) → Walked r k v t b m d → m ≤ n + 32 → c ≤ d → Walked r (1 + k) v u a n c
  through r k m d h few room = record {
    ran = ran_as r (1 + k) _ _ _ _ (ran_more r k _ _ h.ran) (sym same) (sym more);
    few = omega (arith, h.few, larger);
    quiet = λ e plain none space.
        let both = enters e plain none in
        h.quiet both.0 both.1 both.2 (omega (arith, space, deeper, few, room));
  }

-- each tree has a level
pub some_level : (t : Tree) → 1 ≤ depth t
some_level (constant x) = omega arith
some_level (identity k) = omega arith
some_level (operation o) = omega arith
some_level (insert t p xs) = omega arith
some_level (discard t p ks) = omega arith
some_level (permute t m r) = omega arith
some_level (filter t p fs) = omega arith
some_level (filter_return t f) = omega arith
some_level (fold t c) = omega arith
some_level (guard c x y) = omega arith
some_level (point p x y) = omega arith
some_level (invoke s n) = omega arith

pub not_ok : {E : Type 0} (A : Type 0) (e : E) → IsOk {T = A} {E = E} (Err e) → ⊥
not_ok A e h = cc

-- a node whose arguments for a part were refused memory
pub refused : {A E : Type 0} (v : Setting) (u : Tree) (a b old new : List Value) (c d : ℕ) (e : E) → Extends {A = A} {E = E} (Err e) old new b c d → length b ≤ 32 * depth u → ((f : List Value) → EntersPlain v u (a ++ f) → NoTexts (a ++ f) → NoTexts b) → Walked NoMemory 0 v u a (length old) c
refused {A} v u a b old new c d e h few plain = record {
  ran = tt;
  few = omega arith;
  quiet = λ f enters none room. not_ok A e (h.quiet (plain f enters none) (omega (arith, few, room)));
}

module _ (v : Setting) (t : Tree) (p : ℕ) (xs a : List Value) (runs : CanRun (insert t p xs) (length a) v) where
  insert_inside : p ≤ length a
  insert_inside =
      let made = ap (λ (s : Signature). length s.parameters) runs.typed.2.made in
      let inside = runs.typed.2.inside in
      let count = simp (length-append, length-take, length-drop) at made in
      omega (arith, runs.wide)

  insert_few : length (put_in a p xs) ≤ length a + 16
  insert_few =
      let inside = runs.typed.2.inside in
      simp (length-append, length-take, length-drop) (omega (arith, few_parameters t runs.typed.0 runs.typed.1))

  insert_enters : (e : List Value) → EntersPlain v (insert t p xs) (a ++ e) → NoTexts (a ++ e) → EntersPlain v t (put_in a p xs ++ e) × NoTexts (put_in a p xs ++ e)
  insert_enters e plain none =
      let is = put_in_more a e p xs insert_inside in
      (subst (EntersPlain v t) is plain.1, subst NoTexts is (inserted_plain v t runs.typed.0 p xs (a ++ e) runs.typed.1 runs.typed.2.kinds none plain.1))

  pub insert_runs : CanRun t (length (put_in a p xs)) v
  insert_runs =
      let made = ap (λ (s : Signature). length s.parameters) runs.typed.2.made in
      let inside = runs.typed.2.inside in
      let count = simp (length-append, length-take, length-drop) at made in
      record {
        signature = runs.typed.0;
        typed = runs.typed.1;
        wide = simp (length-append, length-take, length-drop) (omega (arith, runs.wide));
        known = runs.known;
        small = omega (arith, runs.small);
        invokes = runs.invokes;
      }

  pub insert_walks : (n c : ℕ) (r : Answer) (k m d : ℕ) → Walked r k v t (put_in a p xs) m d → m ≤ n + 32 → c ≤ d → Walked r (1 + k) v (insert t p xs) a n c
  insert_walks = through v (insert t p xs) t a (put_in a p xs) (omega arith) (omega arith) refl refl (λ e plain none. let both = insert_enters e plain none in (e, both.0, both.1))

  pub insert_refused : {A E : Type 0} (old new : List Value) (c d : ℕ) (e : E) → length a ≤ 16 → Extends {A = A} {E = E} (Err e) old new (put_in a p xs) c d → Walked NoMemory 0 v (insert t p xs) a (length old) c
  insert_refused old new c d e narrow h =
      refused v (insert t p xs) a (put_in a p xs) old new c d e h (omega (arith, insert_few, narrow, some_level t))
      (λ f plain none. front_texts (put_in a p xs) f (insert_enters f plain none).1)

module _ (v : Setting) (t : Tree) (p : ℕ) (ks : List Kind) (a : List Value) (runs : CanRun (discard t p ks) (length a) v) where
  discard_count : length runs.signature.parameters ≡ length runs.typed.0.parameters + length ks
  discard_count =
      let made = ap (λ (s : Signature). length s.parameters) runs.typed.2.made in
      let inside = runs.typed.2.inside in
      let count = simp (length-append, length-take, length-drop) at made in
      omega arith

  pub discard_inside : p + length ks ≤ length a
  discard_inside = let inside = runs.typed.2.inside in omega (arith, discard_count, runs.wide)

  discard_enters : (e : List Value) → EntersPlain v (discard t p ks) (a ++ e) → NoTexts (a ++ e) → EntersPlain v t (taken_out a p (length ks) ++ e) × NoTexts (taken_out a p (length ks) ++ e)
  discard_enters e plain none =
      let is = taken_out_more a e p (length ks) discard_inside in
      let texts = texts_append (take p (a ++ e)) _ (texts_take p (a ++ e) none) (texts_drop (p + length ks) (a ++ e) none) in
      (subst (EntersPlain v t) is plain.1, subst NoTexts is texts)

  pub discard_runs : CanRun t (length (taken_out a p (length ks))) v
  discard_runs = record {
    signature = runs.typed.0;
    typed = runs.typed.1;
    wide = simp (length-append, length-take, length-drop) (omega (arith, runs.wide, discard_count, discard_inside));
    known = runs.known;
    small = omega (arith, runs.small);
    invokes = runs.invokes;
  }

  pub discard_walks : (n c : ℕ) (r : Answer) (k m d : ℕ) → Walked r k v t (taken_out a p (length ks)) m d → m ≤ n + 32 → c ≤ d → Walked r (1 + k) v (discard t p ks) a n c
  discard_walks = through v (discard t p ks) t a (taken_out a p (length ks)) (omega arith) (omega arith) refl refl (λ e plain none. let both = discard_enters e plain none in (e, both.0, both.1))

  pub discard_refused : {A E : Type 0} (old new : List Value) (c d : ℕ) (e : E) → length a ≤ 16 → Extends {A = A} {E = E} (Err e) old new (taken_out a p (length ks)) c d → Walked NoMemory 0 v (discard t p ks) a (length old) c
  discard_refused old new c d e narrow h =
      let few : length (taken_out a p (length ks)) ≤ 16 = simp (length-append, length-take, length-drop) (omega (arith, narrow, discard_inside)) in
      refused v (discard t p ks) a (taken_out a p (length ks)) old new c d e h (omega (arith, few, some_level t))
      (λ f plain none. front_texts (taken_out a p (length ks)) f (discard_enters f plain none).1)

module _ (v : Setting) (t : Tree) (m : Signature) (r : List ℕ) (a : List Value) (runs : CanRun (permute t m r) (length a) v) where
  permute_count : length r ≡ length runs.typed.0.parameters
  permute_count = sym (ap (λ (ks : List Kind). length ks) runs.typed.2.same ∙ length-map r _)

  pub permute_inside : All (λ i. i < length a) r
  permute_inside =
      All-from_get_or (λ i. i < length a) r 0
      (λ j below. omega (arith, runs.wide, All-get_or (λ i. i < length runs.signature.parameters) r j 0 below runs.typed.2.inside))

  permute_enters : (e : List Value) → EntersPlain v (permute t m r) (a ++ e) → NoTexts (a ++ e) → EntersPlain v t (map (argument a) r ++ []) × NoTexts (map (argument a) r ++ [])
  permute_enters e plain none =
      let is = reordered_more a e (length runs.signature.parameters) r runs.wide runs.typed.2.inside ∙ sym (append-nil (map (argument a) r)) in
      (subst (EntersPlain v t) is plain.1, subst NoTexts is (texts_reordered (a ++ e) r none))

  pub permute_runs : CanRun t (length (map (argument a) r)) v
  permute_runs = record {
    signature = runs.typed.0;
    typed = runs.typed.1;
    wide = omega (arith, permute_count, length-map r (argument a));
    known = runs.known;
    small = omega (arith, runs.small);
    invokes = runs.invokes;
  }

  pub permute_walks : (n c : ℕ) (s : Answer) (k j d : ℕ) → Walked s k v t (map (argument a) r) j d → j ≤ n + 32 → c ≤ d → Walked s (1 + k) v (permute t m r) a n c
  permute_walks = through v (permute t m r) t a (map (argument a) r) (omega arith) (omega arith) refl refl (λ e plain none. let both = permute_enters e plain none in ([], both.0, both.1))

  pub permute_refused : {A E : Type 0} (old new : List Value) (c d : ℕ) (e : E) → Extends {A = A} {E = E} (Err e) old new (map (argument a) r) c d → Walked NoMemory 0 v (permute t m r) a (length old) c
  permute_refused old new c d e h =
      refused v (permute t m r) a (map (argument a) r) old new c d e h (omega (arith, permute_count, length-map r (argument a), few_parameters t runs.typed.0 runs.typed.1, some_level t))
      (λ f plain none. front_texts (map (argument a) r) [] (permute_enters f plain none).1)

abbrev value_or : Value → Result Value Answer → Value
value_or d (Ok x) = x
value_or d (Err r) = d

abbrev answer_or : Result Value Answer → Answer
answer_or (Ok x) = NoMemory
answer_or (Err r) = r

-- an answer with a value
pub settles : (r : Answer) (x : Value) → settled r ≡ Ok x → (k : ℕ) (o : Outcome) (m : ℕ) → Ran r k o m → (o ≡ outcome.Value x) × (k ≡ m)
settles (Int y) x is k o m h = (h.0 ∙ ap (λ s. outcome.Value (value_or x s)) is, h.1)
settles (Long y) x is k o m h = (h.0 ∙ ap (λ s. outcome.Value (value_or x s)) is, h.1)
settles (Boolean y) x is k o m h = (h.0 ∙ ap (λ s. outcome.Value (value_or x s)) is, h.1)
settles (Text y) x is k o m h = (h.0 ∙ ap (λ s. outcome.Value (value_or x s)) is, h.1)
settles (Thrown t) x is k o m h = cc
settles NoMemory x is k o m h = cc

-- an answer that ends the walk
pub ends : (r q : Answer) → settled r ≡ Err q → (k : ℕ) (o : Outcome) (m : ℕ) → Ran r k o m → Ends q k o m
ends (Int y) q is k o m h = cc
ends (Long y) q is k o m h = cc
ends (Boolean y) q is k o m h = cc
ends (Text y) q is k o m h = cc
ends (Thrown t) q is k o m h = let P : Answer → Type 0 = λ s. Ends s k o m in subst P (ap answer_or is) h
ends NoMemory q is k o m h = let P : Answer → Type 0 = λ s. Ends s k o m in subst P (ap answer_or is) tt

pub still_answered : (r q : Answer) → settled r ≡ Err q → IsAnswered r → IsAnswered q
still_answered (Int y) q is h = cc
still_answered (Long y) q is h = cc
still_answered (Boolean y) q is h = cc
still_answered (Text y) q is h = cc
still_answered (Thrown t) q is h = subst IsAnswered (ap answer_or is) h
still_answered NoMemory q is h = absurd h

-- nothing runs after it
pub ended : (q : Answer) (k : ℕ) (o : Outcome) (m : ℕ) (go : Value → Outcome) (more : Value → ℕ) → Ends q k o m → Ran q (1 + k) (o >>= go) (1 + (m + after o more))
ended (Thrown t) k o m go more h = let none = ap (λ p. after p more) h.0 in (ap (λ p. p >>= go) h.0, omega (arith, none, h.1))
ended NoMemory k o m go more h = tt
ended (Int y) k o m go more h = absurd h
ended (Long y) k o m go more h = absurd h
ended (Boolean y) k o m go more h = absurd h
ended (Text y) k o m go more h = absurd h

-- a node whose first part gives a value on which it goes on
module _ (v : Setting) (u t : Tree) (a : List Value) (go : Value → Outcome) (more : Value → ℕ) (same : mean (env v) u a ≡ (mean (env v) t a >>= go)) (count : steps (env v) u a ≡ 1 + (steps (env v) t a + after (mean (env v) t a) more)) (deeper : 1 + depth t ≤ depth u) (larger : 1 + most_steps (most_at v.level) t ≤ most_steps (most_at v.level) u) (enters : (e : List Value) → EntersPlain v u (a ++ e) → NoTexts (a ++ e) → EntersPlain v t (a ++ e)) (n c : ℕ) (r : Answer) (k : ℕ) (first : Walked r k v t a n c) where
  pub part_ends : (q : Answer) → settled r ≡ Err q → Walked q (1 + k) v u a n c
  part_ends q is = record {
    ran = ran_as q (1 + k) _ _ _ _ (ended q k _ _ go more (ends r q is k _ _ first.ran)) (sym same) (sym count);
    few = omega (arith, first.few, larger);
    quiet = λ e plain none room. still_answered r q is (first.quiet e (enters e plain none) none (omega (arith, room, deeper)));
  }

  pub part_goes : (x : Value) → settled r ≡ Ok x → (g : Tree) (b : List Value) (s : Answer) (j m d : ℕ) → Walked s j v g b m d → go x ≡ mean (env v) g b → more x ≡ steps (env v) g b → most_steps (most_at v.level) t + most_steps (most_at v.level) g + 1 ≤ most_steps (most_at v.level) u → 1 + depth g ≤ depth u → m ≤ n + 32 → c ≤ d → ((e : List Value) → mean (env v) t a ≡ outcome.Value x → EntersPlain v u (a ++ e) → NoTexts (a ++ e) → (f : List Value) × EntersPlain v g (b ++ f) × NoTexts (b ++ f)) → Walked s (1 + (k + j)) v u a n c
  part_goes x is g b s j m d h goes adds big deep few room next =
      let given = settles r x is k _ _ first.ran in
      let outcome_is : mean (env v) g b ≡ mean (env v) u a = sym (same ∙ ap (λ o. o >>= go) given.0 ∙ goes) in
      let after_is : after (mean (env v) t a) more ≡ steps (env v) g b = ap (λ o. after o more) given.0 ∙ adds in
      let steps_is : 1 + (k + steps (env v) g b) ≡ steps (env v) u a = omega (arith, count, after_is, given.1) in
      record {
        ran = ran_as s (1 + (k + j)) _ _ _ _ (ran_after s j k _ _ h.ran) outcome_is steps_is;
        few = omega (arith, h.few, first.few, big);
        quiet = λ e plain none space.
            let both = next e given.0 plain none in
            h.quiet both.0 both.1 both.2 (omega (arith, space, deep, few, room));
      }

-- a fact of the value of an outcome
pub of_value : (o : Outcome) (x : Value) (P : Value → Type 0) → o ≡ outcome.Value x → WithValue o P → P x
of_value o x P is h = subst (λ q. WithValue q P) is h

module _ (v : Setting) (t f' : Tree) (a : List Value) (runs : CanRun (filter_return t f') (length a) v) where
  return_next : (x : Value) (e : List Value) → mean (env v) t a ≡ outcome.Value x → EntersPlain v (filter_return t f') (a ++ e) → NoTexts (a ++ e) → (g : List Value) × EntersPlain v f' (x ∷ g) × NoTexts (x ∷ g)
  return_next x e given plain none =
      let is = mean_more (env v) t _ a e runs.typed.1 runs.wide ∙ given in
      let all : length runs.signature.parameters ≤ length (a ++ e) = omega (arith, runs.wide, length-append a e) in
      let text = plain_result v t _ (a ++ e) runs.invokes.0 runs.typed.1 all none plain.1 in
      ([], of_value _ x (λ y. EntersPlain v f' (y ∷ [])) is plain.2, (of_value _ x (λ y. IsPlainKind (kind_of y)) is text, tt))

  module _ (n c : ℕ) (r : Answer) (k : ℕ) (first : Walked r k v t a n c) where
    pub return_ends : (q : Answer) → settled r ≡ Err q → Walked q (1 + k) v (filter_return t f') a n c
    return_ends = part_ends v (filter_return t f') t a (λ x. mean (env v) f' (x ∷ [])) (λ x. steps (env v) f' (x ∷ [])) refl refl (omega arith) (omega arith) (λ e plain none. plain.1) n c r k first

    pub return_goes : (x : Value) → settled r ≡ Ok x → (s : Answer) (j m d : ℕ) → Walked s j v f' (x ∷ []) m d → m ≤ n + 32 → c ≤ d → Walked s (1 + (k + j)) v (filter_return t f') a n c
    return_goes x is s j m d h few room =
        part_goes v (filter_return t f') t a (λ y. mean (env v) f' (y ∷ [])) (λ y. steps (env v) f' (y ∷ [])) refl refl (omega arith) (omega arith) (λ e plain none. plain.1) n c r k first
        x is f' (x ∷ []) s j m d h refl refl (omega arith) (omega arith) few room (return_next x)

    pub return_refused : {A E : Type 0} (x : Value) → settled r ≡ Ok x → (mid new : List Value) (d f : ℕ) (e : E) → Extends {A = A} {E = E} (Err e) mid new (x ∷ []) d f → length mid ≤ n → c ≤ d → Walked NoMemory 0 v (filter_return t f') a n c
    return_refused x is mid new d f e h few room =
        let given = (settles r x is k _ _ first.ran).0 in
        within NoMemory 0 v (filter_return t f') a (length mid) n c d
        (refused v (filter_return t f') a (x ∷ []) mid new d f e h (omega arith) (λ g plain none. let next = return_next x g given plain none in (next.2.0, tt))) few room

module _ (v : Setting) (t c' : Tree) (a : List Value) (runs : CanRun (fold t c') (length a) v) where
  fold_wide : length runs.typed.1 ≤ length a
  fold_wide = omega (arith, shorter runs.typed.1 runs.signature.parameters runs.typed.4, runs.wide)

  fold_enters : (e : List Value) → EntersPlain v (fold t c') (a ++ e) → NoTexts (a ++ e) → EntersPlain v c' (a ++ e)
  fold_enters e plain none = enters_leading v c' _ (a ++ e) runs.typed.3 (omega (arith, fold_wide, length-append a e)) plain.1

  pub fold_next : (x : Value) (e : List Value) → mean (env v) c' a ≡ outcome.Value x → EntersPlain v (fold t c') (a ++ e) → NoTexts (a ++ e) → (g : List Value) × EntersPlain v t ((x ∷ a) ++ g) × NoTexts ((x ∷ a) ++ g)
  fold_next x e given plain none =
      let wide : length runs.typed.1 ≤ length (a ++ e) = omega (arith, fold_wide, length-append a e) in
      let all = mean_more (env v) c' _ a e runs.typed.3 fold_wide ∙ given in
      let is = mean_leading (env v) c' _ (a ++ e) runs.typed.3 wide ∙ all in
      let text = plain_result v c' _ (a ++ e) runs.invokes.1 runs.typed.3 wide none (fold_enters e plain none) in
      (e, of_value _ x (λ y. EntersPlain v t (y ∷ (a ++ e))) is plain.2, (of_value _ x (λ y. IsPlainKind (kind_of y)) all text, none))

  module _ (n c : ℕ) (r : Answer) (k : ℕ) (first : Walked r k v c' a n c) where
    pub fold_ends : (q : Answer) → settled r ≡ Err q → Walked q (1 + k) v (fold t c') a n c
    fold_ends = part_ends v (fold t c') c' a (λ x. mean (env v) t (x ∷ a)) (λ x. steps (env v) t (x ∷ a)) (fold_mean v t c' a runs) (fold_steps v t c' a runs) (omega arith) (omega arith) fold_enters n c r k first

    pub fold_goes : (x : Value) → settled r ≡ Ok x → (s : Answer) (j m d : ℕ) → Walked s j v t (x ∷ a) m d → m ≤ n + 32 → c ≤ d → Walked s (1 + (k + j)) v (fold t c') a n c
    fold_goes x is s j m d h few room =
        part_goes v (fold t c') c' a (λ y. mean (env v) t (y ∷ a)) (λ y. steps (env v) t (y ∷ a)) (fold_mean v t c' a runs) (fold_steps v t c' a runs) (omega arith) (omega arith) fold_enters n c r k first
        x is t (x ∷ a) s j m d h refl refl (omega arith) (omega arith) few room (fold_next x)

    pub fold_refused : {A E : Type 0} (x : Value) → settled r ≡ Ok x → (mid new : List Value) (d f : ℕ) (e : E) → Extends {A = A} {E = E} (Err e) mid new (x ∷ a) d f → length a ≤ 16 → length mid ≤ n → c ≤ d → Walked NoMemory 0 v (fold t c') a n c
    fold_refused x is mid new d f e h narrow few room =
        let given = (settles r x is k _ _ first.ran).0 in
        within NoMemory 0 v (fold t c') a (length mid) n c d
        (refused v (fold t c') a (x ∷ a) mid new d f e h (omega (arith, narrow)) (λ g plain none. let next = fold_next x g given plain none in front_texts (x ∷ a) next.0 next.2)) few room

-- one of two trees
abbrev pub one_of : Bool → Tree → Tree → Tree
one_of b x y = if b then x else y

pub one_size : (c : ℕ) (b : Bool) (x y : Tree) → most_steps c (one_of b x y) ≤ most_steps c x + most_steps c y
one_size c true x y = omega arith
one_size c false x y = omega arith

pub one_effort : (b : Bool) (x y : Tree) → effort (one_of b x y) ≤ effort x + effort y
one_effort true x y = omega arith
one_effort false x y = omega arith

pub one_depth : (b : Bool) (x y : Tree) → depth (one_of b x y) ≤ max (depth x) (depth y)
one_depth true x y = omega arith
one_depth false x y = omega arith

pub one_mean : (b : Bool) (v : Setting) (x y : Tree) (a : List Value) → (if b then mean (env v) x a else mean (env v) y a) ≡ mean (env v) (one_of b x y) a
one_mean true v x y a = refl
one_mean false v x y a = refl

one_steps : (b : Bool) (v : Setting) (x y : Tree) (a : List Value) → (if b then steps (env v) x a else steps (env v) y a) ≡ steps (env v) (one_of b x y) a
one_steps true v x y a = refl
one_steps false v x y a = refl

one_plain : (b : Bool) (v : Setting) (x y : Tree) (a : List Value) → OneOf b (EntersPlain v x a) (EntersPlain v y a) → EntersPlain v (one_of b x y) a
one_plain true v x y a h = h
one_plain false v x y a h = h

chosen_mean : (z : Value) (v : Setting) (x y : Tree) (a : List Value) → choose z (mean (env v) x a) (mean (env v) y a) ≡ mean (env v) (one_of (is_true z) x y) a
chosen_mean (value.Boolean b) v x y a = one_mean b v x y a
chosen_mean (value.Int i) v x y a = refl
chosen_mean (value.Long i) v x y a = refl
chosen_mean (value.Text s) v x y a = refl

chosen_steps : (z : Value) (v : Setting) (x y : Tree) (a : List Value) → choose_steps z (steps (env v) x a) (steps (env v) y a) ≡ steps (env v) (one_of (is_true z) x y) a
chosen_steps (value.Boolean b) v x y a = one_steps b v x y a
chosen_steps (value.Int i) v x y a = refl
chosen_steps (value.Long i) v x y a = refl
chosen_steps (value.Text s) v x y a = refl

chosen_plain : (z : Value) (v : Setting) (x y : Tree) (a : List Value) → Chosen z (EntersPlain v x a) (EntersPlain v y a) → EntersPlain v (one_of (is_true z) x y) a
chosen_plain (value.Boolean true) v x y a h = h
chosen_plain (value.Boolean false) v x y a h = h
chosen_plain (value.Int i) v x y a h = h
chosen_plain (value.Long i) v x y a h = h
chosen_plain (value.Text s) v x y a h = h

module _ (v : Setting) (t x y : Tree) (a : List Value) (runs : CanRun (guard t x y) (length a) v) where
  guard_wide : length runs.typed.0 ≤ length a
  guard_wide = omega (arith, shorter runs.typed.0 runs.signature.parameters runs.typed.2, runs.wide)

  guard_enters : (e : List Value) → EntersPlain v (guard t x y) (a ++ e) → NoTexts (a ++ e) → EntersPlain v t (a ++ e)
  guard_enters e plain none = enters_leading v t _ (a ++ e) runs.typed.1 (omega (arith, guard_wide, length-append a e)) plain.1

  guard_next : (z : Value) (e : List Value) → mean (env v) t a ≡ outcome.Value z → EntersPlain v (guard t x y) (a ++ e) → NoTexts (a ++ e) → (g : List Value) × EntersPlain v (one_of (is_true z) x y) (a ++ g) × NoTexts (a ++ g)
  guard_next z e given plain none =
      let wide : length runs.typed.0 ≤ length (a ++ e) = omega (arith, guard_wide, length-append a e) in
      let is = mean_leading (env v) t _ (a ++ e) runs.typed.1 wide ∙ mean_more (env v) t _ a e runs.typed.1 guard_wide ∙ given in
      (e, chosen_plain z v x y (a ++ e) (of_value _ z (λ q. Chosen q (EntersPlain v x (a ++ e)) (EntersPlain v y (a ++ e))) is plain.2), none)

  module _ (n c : ℕ) (r : Answer) (k : ℕ) (first : Walked r k v t a n c) where
    pub guard_ends : (q : Answer) → settled r ≡ Err q → Walked q (1 + k) v (guard t x y) a n c
    guard_ends = part_ends v (guard t x y) t a (λ z. choose z (mean (env v) x a) (mean (env v) y a)) (λ z. choose_steps z (steps (env v) x a) (steps (env v) y a)) (guard_mean v t x y a runs) (guard_steps v t x y a runs) (omega arith) (omega arith) guard_enters n c r k first

    pub guard_goes : (z : Value) → settled r ≡ Ok z → (s : Answer) (j m d : ℕ) → Walked s j v (one_of (is_true z) x y) a m d → m ≤ n + 32 → c ≤ d → Walked s (1 + (k + j)) v (guard t x y) a n c
    guard_goes z is s j m d h few room =
        part_goes v (guard t x y) t a (λ q. choose q (mean (env v) x a) (mean (env v) y a)) (λ q. choose_steps q (steps (env v) x a) (steps (env v) y a)) (guard_mean v t x y a runs) (guard_steps v t x y a runs) (omega arith) (omega arith) guard_enters n c r k first
        z is (one_of (is_true z) x y) a s j m d h (chosen_mean z v x y a) (chosen_steps z v x y a) (omega (arith, one_size (most_at v.level) (is_true z) x y)) (omega (arith, one_depth (is_true z) x y)) few room (guard_next z)

pub one_runs : (b : Bool) (x y : Tree) (m : Signature) (n : ℕ) (w : Setting) → IsTyped x m → IsTyped y m → length m.parameters ≤ n → point_bound x ≤ length w.valid → point_bound y ≤ length w.valid → most_steps (most_at w.level) x + most_steps (most_at w.level) y ≤ greatest_steps → EachInvoke (MayReach w.level w.targets (length w.valid)) x → EachInvoke (MayReach w.level w.targets (length w.valid)) y → CanRun (one_of b x y) n w
one_runs true x y m n w one two wide p q small e f = record { signature = m; typed = one; wide = wide; known = p; small = omega (arith, small); invokes = e }
one_runs false x y m n w one two wide p q small e f = record { signature = m; typed = two; wide = wide; known = q; small = omega (arith, small); invokes = f }

pub point_walks : (v : Setting) (p : ℕ) (x y : Tree) (a : List Value) (n c : ℕ) (r : Answer) (k m d : ℕ) → Walked r k v (one_of (is_valid (env v) p) x y) a m d → m ≤ n + 32 → c ≤ d → Walked r (1 + k) v (point p x y) a n c
point_walks v p x y a =
    let b = is_valid (env v) p in
    through v (point p x y) (one_of b x y) a a (omega (arith, one_depth b x y)) (omega (arith, one_size (most_at v.level) b x y)) (one_mean b v x y a) (ap (λ n. 1 + n) (one_steps b v x y a))
    (λ e plain none. (e, one_plain b v x y (a ++ e) plain.1, none))

pub sixteen_runs : (t : Tree) (a : List Value) (w : Setting) → CanRun t (length a) w → CanRun t (length (take 16 a)) w
sixteen_runs t a w runs = record {
  signature = runs.signature;
  typed = runs.typed;
  wide = omega (arith, runs.wide, few_parameters t runs.signature runs.typed, length-take 16 a);
  known = runs.known;
  small = runs.small;
  invokes = runs.invokes;
}

pub identity_walks : (v : Setting) (k : Kind) (a : List Value) (n c : ℕ) (w : Setting) (r : Answer) (x : Value) → CanRun (identity k) (length a) w → x ≡ argument a 0 → Gives r (outcome.Value x) → ((kind_of x ≡ kind.Text → ⊥) → IsAnswered r) → Walked r 1 v (identity k) a n c
identity_walks v k a n c w r x runs is gives answers =
    let many : 0 < length a = omega (arith, runs.wide, ap (λ (s : Signature). length s.parameters) runs.typed) in
    record {
      ran = ran_as r 1 _ _ 1 1 (gives_ran r _ 1 gives) (ap outcome.Value is) refl;
      few = omega arith;
      quiet = λ e plain none room.
          answers (not_text (kind_of x) (subst (λ y. IsPlainKind (kind_of y)) (argument_more a e 0 many ∙ sym is) (texts_at 0 (a ++ e) none)));
    }

pub operation_walks : (v : Setting) (o : Op) (a : List Value) (n c : ℕ) (r : Answer) → Gives r (operate o a) → ((o ≡ Concat → ⊥) → IsAnswered r) → Walked r 1 v (operation o) a n c
operation_walks v o a n c r gives answers = record {
  ran = gives_ran r _ 1 gives;
  few = omega arith;
  quiet = λ e plain none room. answers (λ is. let P : Op → Type 0 = λ q. IsPlainKind (op_signature q).ret in subst P is plain.0.0);
}

pub tree_of_identity : (k : Kind) → tree_of (Identity k) ≡ identity k
tree_of_identity k = ap tree_of (sym (rolls-Identity k)) ∙ fold-roll-Node Tree tree_step (open_node.Identity k)

pub tree_of_operation : (o : Op) → tree_of (Operation o) ≡ operation o
tree_of_operation o = ap tree_of (sym (rolls-Operation o)) ∙ fold-roll-Node Tree tree_step (open_node.Operation o)

pub tree_of_invoke : (site : ℕ) (n : Signature) → tree_of (Invoke site n) ≡ invoke site n
tree_of_invoke site n = ap tree_of (sym (rolls-Invoke site n)) ∙ fold-roll-Node Tree tree_step (open_node.Invoke site n)
