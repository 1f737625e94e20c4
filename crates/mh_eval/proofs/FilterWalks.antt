-- Walks of filters, and of a tree with filters.
use Rattle.std.proofs.Common.{◌≡◌, ℕ, ◌+◌, ◌≤◌, ◌∙◌, ap, sym, subst, refl, arith, false, List, [], ◌∷◌, ◌++◌, drop, length, length-drop, Result, Ok, Err}
use Rattle.std.specs.Prelude.{slice_set}
use Rattle.std.proofs.lemmas.List.{set-append_left, get_or-drop, drop-set-add}
use Rattle.mh_type.specs.declared.value.Value.{Value}
use Rattle.mh_type.specs.declared.value.Value.TheVariants as value
use Rattle.mh_type.specs.declared.outcome.Throw.{Throw}
use Rattle.mh_type.specs.declared.outcome.Outcome.{Outcome}
use Rattle.mh_type.specs.declared.outcome.Outcome.TheVariants as outcome
use Rattle.mh_type.specs.Kinds.{kind_of}
use Rattle.mh_tree.specs.Meaning.{mean, steps, filtered, filter_steps, with_value, after, argument}
use Rattle.mh_tree.specs.Tree.{Tree, Filters, filter, no_more, absent, present}
use Rattle.mh_tree.specs.inner.Widths.{CanRun, CanFilter}
use Rattle.mh_tree.specs.Laws.{argument_more, filtered_more, with_more, same_count, filter_count as count, counted}
use Rattle.mh_eval.specs.Answers.{Ran}
use Rattle.mh_eval.specs.Entered.{EntersPlain, FiltersPlain, IsPlainKind, WithArguments}
use Rattle.mh_eval.specs.Frames.{Extends}
use Rattle.mh_eval.specs.Quiet.{NoTexts}
use Rattle.mh_eval.specs.inner.Walked.{Walked, Placed, Passed, Ends, Stops, Settles}
use Rattle.mh_eval.specs.declared.answer.Answer.{Answer}
use Rattle.mh_eval.specs.declared.answer.Answer.TheVariants.{Int, Long, Boolean, Text, Thrown, NoMemory}
use Rattle.mh_eval.proofs.Extending.{front_texts}
use Rattle.mh_eval.proofs.FilterRuns.{filter_throws, filter_throws_steps, filter_goes, filter_goes_steps}
use Rattle.mh_eval.proofs.QuietTrees.{plain_result, plain_filters, texts_at, texts_set}
use Rattle.mh_eval.proofs.Walks.{of_value, ran_as, ran_after, refused}
use Rattle.mh_tree.specs.Sites.{Setting, env}

ends_ran : (q : Answer) (k : ℕ) (o : Outcome) (m : ℕ) → Ends q k o m → Ran q k o m
ends_ran (Thrown t) k o m h = h
ends_ran NoMemory k o m h = tt
ends_ran (Int x) k o m h = absurd h
ends_ran (Long x) k o m h = absurd h
ends_ran (Boolean x) k o m h = absurd h
ends_ran (Text x) k o m h = absurd h

-- no filters
pub passed_none : {A : Type 0} (u : A) (v : Setting) (p : ℕ) (a : List Value) (n c : ℕ) → Passed (Ok u) 0 v no_more p a a n c
passed_none u v p a n c = record { value = (refl, refl); few = omega arith; quiet = λ e plain none room. tt }

-- a place with no filter
pub passed_absent : {A : Type 0} (r : Result A Answer) (k : ℕ) (v : Setting) (fs : Filters) (p : ℕ) (a b : List Value) (n c : ℕ) → Passed r k v fs (p + 1) a b n c → Passed r k v (absent fs) p a b n c
passed_absent r k v fs p a b n c h = record { value = h.value; few = h.few; quiet = λ e plain none room. h.quiet e plain none room }

stops_filter : (q : Answer) (k : ℕ) (o : Outcome) (m : ℕ) (go : Value → Result (List Value) Throw) (more : Value → ℕ) → Ends q k o m → Stops q k (with_value o go) (m + after o more)
stops_filter (Thrown t) k o m go more h = let none = ap (λ x. after x more) h.0 in (ap (λ x. with_value x go) h.0, omega (arith, none, h.1))
stops_filter NoMemory k o m go more h = tt
stops_filter (Int x) k o m go more h = absurd h
stops_filter (Long x) k o m go more h = absurd h
stops_filter (Boolean x) k o m go more h = absurd h
stops_filter (Text x) k o m go more h = absurd h

stops_later : (q : Answer) (j k m n : ℕ) (r s : Result (List Value) Throw) → Stops q j r m → r ≡ s → k + m ≡ n → Stops q (k + j) s n
stops_later (Thrown t) j k m n r s h same more = (sym same ∙ h.0, omega (arith, h.1, more))
stops_later NoMemory j k m n r s h same more = tt
stops_later (Int x) j k m n r s h same more = absurd h
stops_later (Long x) j k m n r s h same more = absurd h
stops_later (Boolean x) j k m n r s h same more = absurd h
stops_later (Text x) j k m n r s h same more = absurd h

-- a filter that is there
module _ (v : Setting) (f : Tree) (fs : Filters) (base p : ℕ) (old new : List Value) (c k : ℕ) (can : CanFilter (present f fs) p (length (drop base old)) v) where
  here : argument old (base + p) ≡ argument (drop base old) p
  here = sym (get_or-drop base old p (value.Boolean false))

  same_here : (e : List Value) → argument (drop base old ++ e) p ≡ argument old (base + p)
  same_here e = argument_more (drop base old) e p can.0 ∙ sym here

  here_plain : (e : List Value) → FiltersPlain v (present f fs) p (drop base old ++ e) → EntersPlain v f (argument old (base + p) ∷ [])
  here_plain e plain = subst (λ x. EntersPlain v f (x ∷ [])) (same_here e) plain.0

  here_texts : (e : List Value) → NoTexts (drop base old ++ e) → NoTexts (argument old (base + p) ∷ [])
  here_texts e none = (subst (λ x. IsPlainKind (kind_of x)) (same_here e) (texts_at p (drop base old ++ e) none), tt)

  pub present_ends : {A B : Type 0} (q : Answer) (b : List Value) → Placed {A = A} (Err q) k v f (base + p) old new c → Passed {A = B} (Err q) k v (present f fs) p (drop base old) b (length old) c
  present_ends q b h =
      let W : Value → Type 0 = λ x. Ends q k (mean (env v) f (x ∷ [])) (steps (env v) f (x ∷ [])) in
      record {
        value = stops_filter q k _ _ _ _ (subst W here h.value.0);
        few = omega (arith, h.few);
        quiet = λ e plain none room. h.quiet (here_plain e plain) (here_texts e none) (omega (arith, room));
      }

  present_value : {A : Type 0} (r : Result A Answer) (j : ℕ) (x : Value) (b : List Value) → mean (env v) f (argument (drop base old) p ∷ []) ≡ outcome.Value x → k ≡ steps (env v) f (argument (drop base old) p ∷ []) → Settles r (λ s. Stops s j (filtered (env v) fs (p + 1) (slice_set (drop base old) p x)) (filter_steps (env v) fs (p + 1) (slice_set (drop base old) p x))) ((filtered (env v) fs (p + 1) (slice_set (drop base old) p x) ≡ Ok b) × (j ≡ filter_steps (env v) fs (p + 1) (slice_set (drop base old) p x))) → Settles r (λ s. Stops s (k + j) (filtered (env v) (present f fs) p (drop base old)) (filter_steps (env v) (present f fs) p (drop base old))) ((filtered (env v) (present f fs) p (drop base old) ≡ Ok b) × (k + j ≡ filter_steps (env v) (present f fs) p (drop base old)))
  present_value (Ok u) j x b given count h =
      let a = drop base old in
      let later = ap (λ o. after o (λ y. filter_steps (env v) fs (p + 1) (slice_set a p y))) given in
      (ap (λ o. with_value o (λ y. filtered (env v) fs (p + 1) (slice_set a p y))) given ∙ h.0, omega (arith, later, count, h.1))
  present_value (Err q) j x b given count h =
      let a = drop base old in
      let later = ap (λ o. after o (λ y. filter_steps (env v) fs (p + 1) (slice_set a p y))) given in
      stops_later q j k _ _ _ _ h (sym (ap (λ o. with_value o (λ y. filtered (env v) fs (p + 1) (slice_set a p y))) given)) (omega (arith, later, count))

  pub present_goes : {A B : Type 0} (u : A) (r : Result B Answer) (j n d : ℕ) (b : List Value) → Placed (Ok u) k v f (base + p) old new c → Passed r j v fs (p + 1) (drop base new) b n d → n ≤ length old → c ≤ d → Passed r (k + j) v (present f fs) p (drop base old) b (length old) c
  present_goes u r j n d b h rest few room =
      let a = drop base old in
      let x = argument new (base + p) in
      let given : mean (env v) f (argument a p ∷ []) ≡ outcome.Value x = ap (λ y. mean (env v) f (y ∷ [])) (sym here) ∙ h.value.0 in
      let count : k ≡ steps (env v) f (argument a p ∷ []) = h.value.1 ∙ ap (λ y. steps (env v) f (y ∷ [])) here in
      let now : drop base new ≡ slice_set a p x = ap (drop base) h.value.2 ∙ drop-set-add base old p x in
      let inner = rw (now) at rest in
      record {
        value = present_value r j x b given count inner.value;
        few = omega (arith, h.few, rest.few);
        quiet = λ e plain none space.
            let all : mean (env v) f (argument (a ++ e) p ∷ []) ≡ outcome.Value x = ap (λ y. mean (env v) f (y ∷ [])) (same_here e) ∙ h.value.0 in
            let next = of_value _ x (λ y. FiltersPlain v fs (p + 1) (slice_set (a ++ e) p y)) all plain.1 in
            let text = of_value _ x (λ y. IsPlainKind (kind_of y)) h.value.0 (plain_result v f can.1.signature (argument old (base + p) ∷ []) can.1.invokes can.1.typed can.1.wide (here_texts e none) (here_plain e plain)) in
            let set = set-append_left a e p x can.0 in
            inner.quiet e (subst (FiltersPlain v fs (p + 1)) set next) (subst NoTexts set (texts_set p (a ++ e) x text none)) (omega (arith, space, few, room));
      }

-- a tree with filters
module _ (v : Setting) (t : Tree) (p : ℕ) (fs : Filters) (a : List Value) (runs : CanRun (filter t p fs) (length a) v) where
  filters_room : p + count fs ≤ length a
  filters_room =
      let n = runs.typed.0 in
      let same = same_count p fs n.parameters runs.signature.parameters runs.typed.2 runs.typed.4 runs.typed.5 in
      let few = counted fs _ _ runs.typed.5 in
      let less = runs.typed.2 in
      omega (arith, length-drop p n.parameters, runs.wide, same, few, less)

  pub filter_refused : {A E : Type 0} (old new b : List Value) (c d : ℕ) (e : E) → b ≡ a → length a ≤ 16 → Extends {A = A} {E = E} (Err e) old new b c d → Walked NoMemory 0 v (filter t p fs) a (length old) c
  filter_refused old new b c d e same narrow h =
      let many = ap (λ (l : List Value). length l) same in
      refused v (filter t p fs) a b old new c d e h (omega (arith, narrow, many)) (λ g plain none. subst NoTexts (sym same) (front_texts a g none))

  ends_as : (q : Answer) (k : ℕ) → Stops q k (filtered (env v) fs p a) (filter_steps (env v) fs p a) → Ends q (1 + k) (mean (env v) (filter t p fs) a) (steps (env v) (filter t p fs) a)
  ends_as (Thrown x) k h = (filter_throws v t p fs a x h.0, omega (arith, h.1, filter_throws_steps v t p fs a x h.0))
  ends_as NoMemory k h = tt
  ends_as (Int x) k h = absurd h
  ends_as (Long x) k h = absurd h
  ends_as (Boolean x) k h = absurd h
  ends_as (Text x) k h = absurd h

  pub filter_ends : {A : Type 0} (q : Answer) (k n' c' : ℕ) (b : List Value) → Passed {A = A} (Err q) k v fs p a b n' c' → (n c : ℕ) → n' ≤ n + 16 → c ≤ c' → Walked q (1 + k) v (filter t p fs) a n c
  filter_ends q k n' c' b passed n c few room = record {
    ran = ends_ran q (1 + k) _ _ (ends_as q k passed.value);
    few = omega (arith, passed.few);
    quiet = λ e plain none space. passed.quiet e plain.1 none (omega (arith, space, few, room));
  }

  pub filter_goes_on : {A : Type 0} (u : A) (k n' c' : ℕ) (b : List Value) → Passed (Ok u) k v fs p a b n' c' → (n c : ℕ) (s : Answer) (j m d : ℕ) → Walked s j v t b m d → m ≤ n + 32 → c ≤ d → Walked s (1 + (k + j)) v (filter t p fs) a n c
  filter_goes_on u k n' c' b passed n c s j m d h few room =
      let same = filter_goes v t p fs a b passed.value.0 in
      let total = filter_goes_steps v t p fs a b passed.value.0 in
      record {
        ran = ran_as s (1 + (k + j)) _ _ _ _ (ran_after s j k _ _ h.ran) (sym same) (omega (arith, total, passed.value.1));
        few = omega (arith, h.few, passed.few);
        quiet = λ e plain none space.
            let whole : filtered (env v) fs p (a ++ e) ≡ Ok (b ++ e) = filtered_more (env v) fs p a e filters_room ∙ ap (with_more e) passed.value.0 in
            let T : Result (List Value) Throw → Type 0 = λ r. WithArguments r (EntersPlain v t) in
            let N : Result (List Value) Throw → Type 0 = λ r. WithArguments r NoTexts in
            h.quiet e (subst T whole plain.2) (subst N whole (plain_filters v fs _ _ p (a ++ e) runs.invokes.1 runs.typed.5 none plain.1)) (omega (arith, space, few, room));
      }
