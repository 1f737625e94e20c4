-- The outcome and the steps of a tree for arguments in an environment (the pseudo-code of each combinator in
-- `java.lang.invoke.MethodHandles`, Java SE 17). The first throw of a part that runs is the outcome.
use Rattle.std.specs.Prelude.{ℕ, ◌+◌, Bool, false, Result, Ok, Err, List, [], ◌∷◌, ◌++◌, take, drop, map, length, slice_index_or, slice_set, if◌then◌else◌}
use Rattle.mh_type.specs.declared.value.Value.{Value}
use Rattle.mh_type.specs.declared.value.Value.TheVariants.{Boolean}
use Rattle.mh_type.specs.declared.outcome.Outcome.{Outcome}
use Rattle.mh_type.specs.declared.outcome.Outcome.TheVariants as outcome
use Rattle.mh_type.specs.declared.outcome.Throw.{Throw}
use Rattle.mh_type.specs.Operations.{operate}
use Rattle.mh_tree.specs.Arity.{arity}
use Rattle.mh_tree.specs.Environment.{Environment, Steps}
use Rattle.mh_tree.specs.Tree.{Tree, Filters, constant, identity, operation, insert, discard, permute, filter, filter_return, fold, guard, point, invoke, no_more, absent, present}

infixl 10 ◌>>=◌
-- continues with a value, and stops at a throw
abbrev pub ◌>>=◌ : Outcome → (Value → Outcome) → Outcome
(outcome.Value x) >>= go = go x
(outcome.Thrown t) >>= go = outcome.Thrown t

-- the argument at a position
abbrev pub argument : List Value → ℕ → Value
argument a i = slice_index_or a i (Boolean false)

-- whether a point is valid (`SwitchPoint.hasBeenInvalidated`)
abbrev pub is_valid : Environment → ℕ → Bool
is_valid v p = slice_index_or v.valid p false

-- continues by a truth value
abbrev pub choose : Value → Outcome → Outcome → Outcome
choose (Boolean b) x y = if b then x else y
choose _ x y = y

-- arguments with values inserted before a position (`MethodHandles.insertArguments`)
abbrev pub put_in : List Value → ℕ → List Value → List Value
put_in a p xs = take p a ++ (xs ++ drop p a)

-- arguments without n of them from a position on (`MethodHandles.dropArguments`)
abbrev pub taken_out : List Value → ℕ → ℕ → List Value
taken_out a p n = take p a ++ drop (p + n) a

-- the outcome of continuing with the arguments, or the throw of a filter
abbrev pub with_arguments : Result (List Value) Throw → (List Value → Outcome) → Outcome
with_arguments (Ok a) go = go a
with_arguments (Err t) go = outcome.Thrown t

-- continues with the value of a filter
abbrev pub with_value : Outcome → (Value → Result (List Value) Throw) → Result (List Value) Throw
with_value (outcome.Value x) go = go x
with_value (outcome.Thrown t) go = Err t

abbrev mutual
  -- The outcome. A test, a combiner, and a site that is invoked are passed as many of the leading arguments as they have parameters
  -- (`MethodHandles.guardWithTest`, `MethodHandles.foldArguments`).
  pub mean : Environment → Tree → List Value → Outcome
  mean v (constant x) a = outcome.Value x
  mean v (identity k) a = outcome.Value (argument a 0)
  mean v (operation o) a = operate o a
  mean v (insert t p xs) a = mean v t (put_in a p xs)
  mean v (discard t p ks) a = mean v t (taken_out a p (length ks))
  mean v (permute t m r) a = mean v t (map (argument a) r)
  mean v (filter t p fs) a = with_arguments (filtered v fs p a) (mean v t)
  mean v (filter_return t f) a = do
    x ← mean v t a
    mean v f (x ∷ [])
  mean v (fold t c) a = do
    x ← mean v c (take (arity c) a)
    mean v t (x ∷ a)
  mean v (guard c x y) a = do
    b ← mean v c (take (arity c) a)
    choose b (mean v x a) (mean v y a)
  mean v (point p x y) a = if is_valid v p then mean v x a else mean v y a
  mean v (invoke s n) a = v.calls s (take (length n.parameters) a)

  -- the arguments after the filters from position p on have run, from left to right
  pub filtered : Environment → Filters → ℕ → List Value → Result (List Value) Throw
  filtered v no_more p a = Ok a
  filtered v (absent fs) p a = filtered v fs (p + 1) a
  filtered v (present f fs) p a = with_value (mean v f (argument a p ∷ [])) (λ x. filtered v fs (p + 1) (slice_set a p x))

-- the steps after a value; a throw takes none
abbrev pub after : Outcome → (Value → Steps) → Steps
after (outcome.Value x) go = go x
after (outcome.Thrown t) go = 0

-- the steps after filters
abbrev pub after_filters : Result (List Value) Throw → (List Value → Steps) → Steps
after_filters (Ok a) go = go a
after_filters (Err t) go = 0

-- the steps of the chosen branch
abbrev pub choose_steps : Value → Steps → Steps → Steps
choose_steps (Boolean b) x y = if b then x else y
choose_steps _ x y = y

abbrev mutual
  -- the number of nodes evaluated, including one that throws
  pub steps : Environment → Tree → List Value → Steps
  steps v (constant x) a = 1
  steps v (identity k) a = 1
  steps v (operation o) a = 1
  steps v (insert t p xs) a = 1 + steps v t (put_in a p xs)
  steps v (discard t p ks) a = 1 + steps v t (taken_out a p (length ks))
  steps v (permute t m r) a = 1 + steps v t (map (argument a) r)
  steps v (filter t p fs) a = 1 + (filter_steps v fs p a + after_filters (filtered v fs p a) (steps v t))
  steps v (filter_return t f) a = 1 + (steps v t a + after (mean v t a) (λ x. steps v f (x ∷ [])))
  steps v (fold t c) a =
      let leading = take (arity c) a in
      1 + (steps v c leading + after (mean v c leading) (λ x. steps v t (x ∷ a)))
  steps v (guard c x y) a =
      let leading = take (arity c) a in
      1 + (steps v c leading + after (mean v c leading) (λ b. choose_steps b (steps v x a) (steps v y a)))
  steps v (point p x y) a = 1 + (if is_valid v p then steps v x a else steps v y a)
  steps v (invoke s n) a = 1 + v.call_steps s (take (length n.parameters) a)

  -- the steps of the filters from position p on
  pub filter_steps : Environment → Filters → ℕ → List Value → Steps
  filter_steps v no_more p a = 0
  filter_steps v (absent fs) p a = filter_steps v fs (p + 1) a
  filter_steps v (present f fs) p a =
      let x = argument a p ∷ [] in
      steps v f x + after (mean v f x) (λ y. filter_steps v fs (p + 1) (slice_set a p y))
