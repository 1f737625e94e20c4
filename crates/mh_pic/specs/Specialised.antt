-- A tree specialised for needs, which are points that are valid, and for a key, which the argument at the key position equals. The walk
-- goes down from the root through points and guards, by the first case that fits:
--   1. a point that is needed: its specialised target;
--   2. any other point: the point over its specialised branches;
--   3. a guard by a key test of the key's kind: its specialised target if the keys are equal, otherwise its specialised fallback;
--   4. any other guard: its test without needed points, and its specialised branches;
--   5. any other node: the node over its parts without needed points.
use Rattle.std.specs.Prelude.{◌≡◌, ◌≤◌, ℕ, Bool, true, false, Option, Some, None, List, ◌==◌, ◌||◌, if◌then◌else◌, slice_index_or}
use Rattle.std.specs.List.{list_any}
use Rattle.mh_type.specs.declared.kind.Kind.{Kind}
use Rattle.mh_type.specs.declared.value.Value.{Value}
use Rattle.mh_type.specs.Fits.{Fits}
use Rattle.mh_type.specs.Signature.{Signature}
use Rattle.mh_tree.specs.Environment.{Environment}
use Rattle.mh_tree.specs.Handle.{TypedTree}
use Rattle.mh_tree.specs.Meaning.{argument, is_valid, mean, steps}
use Rattle.mh_tree.specs.Tree.{Tree, Filters, constant, identity, operation, insert, discard, permute, filter, filter_return, fold, guard, point, invoke, no_more, absent, present}
use Rattle.mh_tree.specs.Typing.{IsTyped}
use Rattle.mh_pic.specs.Keys.{key_in, decided}

-- whether a point is among these
abbrev pub is_among : List ℕ → ℕ → Bool
is_among ps p = list_any (λ q. q == p) ps

-- v has each need valid
abbrev pub AreValid : Environment → List ℕ → Type 0
AreValid v needs = (p : ℕ) → is_among needs p ≡ true → is_valid v p ≡ true

abbrev mutual
  -- the tree in which these points are taken as valid, so that each is its target, or as invalid, so that each is its fallback
  pub resolved : Bool → List ℕ → Tree → Tree
  resolved valid ps (constant x) = constant x
  resolved valid ps (identity k) = identity k
  resolved valid ps (operation o) = operation o
  resolved valid ps (insert t p xs) = insert (resolved valid ps t) p xs
  resolved valid ps (discard t p ks) = discard (resolved valid ps t) p ks
  resolved valid ps (permute t m r) = permute (resolved valid ps t) m r
  resolved valid ps (filter t p fs) = filter (resolved valid ps t) p (resolved_filters valid ps fs)
  resolved valid ps (filter_return t f) = filter_return (resolved valid ps t) (resolved valid ps f)
  resolved valid ps (fold t c) = fold (resolved valid ps t) (resolved valid ps c)
  resolved valid ps (guard c x y) = guard (resolved valid ps c) (resolved valid ps x) (resolved valid ps y)
  resolved valid ps (point p x y) =
      if is_among ps p then (if valid then resolved valid ps x else resolved valid ps y) else point p (resolved valid ps x) (resolved valid ps y)
  resolved valid ps (invoke s n) = invoke s n

  pub resolved_filters : Bool → List ℕ → Filters → Filters
  resolved_filters valid ps no_more = no_more
  resolved_filters valid ps (absent fs) = absent (resolved_filters valid ps fs)
  resolved_filters valid ps (present f fs) = present (resolved valid ps f) (resolved_filters valid ps fs)

-- the tree without the needed points: each is its target
abbrev pub stripped : List ℕ → Tree → Tree
stripped needs t = resolved true needs t

-- the tree without these points: each is its fallback
abbrev pub retired : List ℕ → Tree → Tree
retired ps t = resolved false ps t

-- a tree with its type, without these points: each is its fallback
abbrev pub retired_tree : List ℕ → TypedTree → TypedTree
retired_tree ps h = record { tree = retired ps h.tree; signature = h.signature }

-- How a tree keeps in w the meaning that it had in v if these points are taken as valid, or as invalid: v has each of them so, and w has
-- each other point as v does. Invocations return the same, in at most as many steps.
pub record Resolves (valid : Bool) (ps : List ℕ) (v w : Environment) : Type 0 where
  pub taken : (p : ℕ) → is_among ps p ≡ true → is_valid v p ≡ valid
  pub others : (p : ℕ) → is_among ps p ≡ false → is_valid w p ≡ is_valid v p
  pub calls : (s : ℕ) → (a : List Value) → w.calls s a ≡ v.calls s a
  pub quick : (s : ℕ) → (a : List Value) → w.call_steps s a ≤ v.call_steps s a

-- the validity of points before and after: these were invalid, whatever they are now, and each other point is as it was
pub record Retires (ps : List ℕ) (old new : List Bool) : Type 0 where
  pub taken : (p : ℕ) → is_among ps p ≡ true → slice_index_or old p false ≡ false
  pub others : (p : ℕ) → is_among ps p ≡ false → slice_index_or new p false ≡ slice_index_or old p false

-- the branch that a decided test takes, or a guard if it is not decided
abbrev pub branch : Option Bool → Tree → Tree → Tree → Tree
branch (Some true) c x y = x
branch (Some false) c x y = y
branch None c x y = guard c x y

-- the tree for these needs and this key
abbrev pub specialised : List ℕ → List Kind → Value → Tree → Tree
specialised needs kinds key (guard c x y) =
    branch (decided key (key_in kinds c)) (stripped needs c) (specialised needs kinds key x) (specialised needs kinds key y)
specialised needs kinds key (point p x y) =
    if is_among needs p then specialised needs kinds key x else point p (specialised needs kinds key x) (specialised needs kinds key y)
specialised needs kinds key t = stripped needs t

abbrev mutual
  -- whether the tree names one of these points
  pub names : List ℕ → Tree → Bool
  names ps (constant x) = false
  names ps (identity k) = false
  names ps (operation o) = false
  names ps (insert t p xs) = names ps t
  names ps (discard t p ks) = names ps t
  names ps (permute t m r) = names ps t
  names ps (filter t p fs) = names ps t || any_names ps fs
  names ps (filter_return t f) = names ps t || names ps f
  names ps (fold t c) = names ps t || names ps c
  names ps (guard c x y) = names ps c || (names ps x || names ps y)
  names ps (point p x y) = is_among ps p || (names ps x || names ps y)
  names ps (invoke s n) = false

  pub any_names : List ℕ → Filters → Bool
  any_names ps no_more = false
  any_names ps (absent fs) = any_names ps fs
  any_names ps (present f fs) = names ps f || any_names ps fs

-- the tree names none of the needs
abbrev pub NamesNone : List ℕ → Tree → Type 0
NamesNone needs t = names needs t ≡ false

-- the tree can replace the base, of type m, if the needs are valid and the argument at position q is the key
pub record Serves (needs : List ℕ) (q : ℕ) (key : Value) (tree base : Tree) (m : Signature) : Type 0 where
  pub typed : IsTyped tree m
  pub unnamed : NamesNone needs tree
  pub same : (v : Environment) → AreValid v needs → (a : List Value) → Fits m a → argument a q ≡ key → mean v tree a ≡ mean v base a
  pub quick : (v : Environment) → AreValid v needs → (a : List Value) → Fits m a → argument a q ≡ key → steps v tree a ≤ steps v base a
