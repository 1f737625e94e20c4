-- Trees of which no node that is evaluated has String in its type. A test, and a combiner, is passed as many of the leading arguments as it
-- has parameters.
use Rattle.std.specs.Prelude.{ℕ, zero, suc, ◌+◌, Bool, true, false, List, [], ◌∷◌, take, map, length, slice_set, Result, Ok, Err}
use Rattle.mh_type.specs.declared.kind.Kind.{Kind}
use Rattle.mh_type.specs.declared.kind.Kind.TheVariants as kind
use Rattle.mh_type.specs.declared.value.Value.{Value}
use Rattle.mh_type.specs.declared.value.Value.TheVariants.{Boolean}
use Rattle.mh_type.specs.declared.outcome.Outcome.{Outcome}
use Rattle.mh_type.specs.declared.outcome.Outcome.TheVariants as outcome
use Rattle.mh_type.specs.declared.outcome.Throw.{Throw}
use Rattle.mh_type.specs.Signature.{Signature}
use Rattle.mh_tree.specs.Arity.{arity}
use Rattle.mh_tree.specs.Meaning.{mean, filtered, argument, put_in, taken_out, is_valid}
use Rattle.mh_tree.specs.Tree.{Tree, Filters, constant, identity, operation, insert, discard, permute, filter, filter_return, fold, guard, point, invoke, no_more, absent, present}
use Rattle.mh_tree.specs.TypeOf.{type_of}
use Rattle.mh_tree.specs.Environment.{Environment}
use Rattle.mh_tree.specs.Handle.{TypedTree}
use Rattle.mh_tree.specs.Sites.{Setting, env, below, target_at}

abbrev pub IsPlainKind : Kind → Type 0
IsPlainKind kind.Text = ⊥
IsPlainKind _ = Unit {0}

abbrev pub ArePlain : List Kind → Type 0
ArePlain [] = Unit {0}
ArePlain (k ∷ ks) = IsPlainKind k × ArePlain ks

-- a type without String
abbrev pub IsPlain : Signature → Type 0
IsPlain m = IsPlainKind m.ret × ArePlain m.parameters

-- a fact of the value, if there is one
abbrev pub WithValue : Outcome → (Value → Type 0) → Type 0
WithValue (outcome.Value x) P = P x
WithValue (outcome.Thrown t) P = Unit {0}

-- the first for true, and otherwise the second
abbrev pub Chosen : Value → Type 0 → Type 0 → Type 0
Chosen (Boolean true) X Y = X
Chosen _ X Y = Y

-- the first if a truth of the world is true, and otherwise the second
abbrev pub OneOf : Bool → Type 0 → Type 0 → Type 0
OneOf true X Y = X
OneOf false X Y = Y

-- a fact of the arguments after filters, if none threw
abbrev pub WithArguments : Result (List Value) Throw → (List Value → Type 0) → Type 0
WithArguments (Ok a) P = P a
WithArguments (Err t) P = Unit {0}

abbrev mutual
  -- each node that is evaluated on the arguments, if q says it of the nodes of a site's tree
  pub PlainBy : (ℕ → List Value → Type 0) → Environment → Tree → List Value → Type 0
  PlainBy q v (constant x) a = IsPlain (type_of (constant x)) × Unit {0}
  PlainBy q v (identity k) a = IsPlain (type_of (identity k)) × Unit {0}
  PlainBy q v (operation o) a = IsPlain (type_of (operation o)) × Unit {0}
  PlainBy q v (insert t p xs) a = IsPlain (type_of (insert t p xs)) × PlainBy q v t (put_in a p xs)
  PlainBy q v (discard t p ks) a = IsPlain (type_of (discard t p ks)) × PlainBy q v t (taken_out a p (length ks))
  PlainBy q v (permute t m r) a = IsPlain (type_of (permute t m r)) × PlainBy q v t (map (argument a) r)
  PlainBy q v (filter t p fs) a =
      IsPlain (type_of (filter t p fs)) × PlainFilters q v fs p a × WithArguments (filtered v fs p a) (PlainBy q v t)
  PlainBy q v (filter_return t f) a =
      IsPlain (type_of (filter_return t f)) × PlainBy q v t a × WithValue (mean v t a) (λ x. PlainBy q v f (x ∷ []))
  PlainBy q v (fold t c) a =
      let leading = take (arity c) a in
      IsPlain (type_of (fold t c)) × PlainBy q v c leading × WithValue (mean v c leading) (λ x. PlainBy q v t (x ∷ a))
  PlainBy q v (guard c x y) a =
      let leading = take (arity c) a in
      IsPlain (type_of (guard c x y)) × PlainBy q v c leading
      × WithValue (mean v c leading) (λ b. Chosen b (PlainBy q v x a) (PlainBy q v y a))
  PlainBy q v (point p x y) a = IsPlain (type_of (point p x y)) × OneOf (is_valid v p) (PlainBy q v x a) (PlainBy q v y a)
  PlainBy q v (invoke s n) a = IsPlain (type_of (invoke s n)) × q s (take (length n.parameters) a)

  -- each node that is evaluated by the filters from position p on
  pub PlainFilters : (ℕ → List Value → Type 0) → Environment → Filters → ℕ → List Value → Type 0
  PlainFilters q v no_more p a = Unit {0}
  PlainFilters q v (absent fs) p a = PlainFilters q v fs (p + 1) a
  PlainFilters q v (present f fs) p a =
      PlainBy q v f (argument a p ∷ []) × WithValue (mean v f (argument a p ∷ [])) (λ x. PlainFilters q v fs (p + 1) (slice_set a p x))

-- the nodes of a site's tree, and of those that it invokes, less than d trees deep
abbrev pub plain_below : ℕ → List Bool → List TypedTree → ℕ → List Value → Type 0
plain_below zero valid targets s a = Unit {0}
plain_below (suc d) valid targets s a = PlainBy (plain_below d valid targets) (below d valid targets) (target_at targets s).tree a

-- each node that is evaluated on the arguments, also in invoked trees, has no String in its type
abbrev pub EntersPlain : Setting → Tree → List Value → Type 0
EntersPlain x t a = PlainBy (plain_below x.level x.valid x.targets) (env x) t a

abbrev pub FiltersPlain : Setting → Filters → ℕ → List Value → Type 0
FiltersPlain x fs p a = PlainFilters (plain_below x.level x.valid x.targets) (env x) fs p a
