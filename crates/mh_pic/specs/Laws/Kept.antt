-- The trees preserve their type, and name no need.
use Rattle.std.proofs.Common.{◌≡◌, ℕ, refl, List, [], ◌∷◌, Bool, true, false, ◌||◌, Option, Some, None, if◌then◌else◌}
use Rattle.mh_type.specs.declared.kind.Kind.{Kind}
use Rattle.mh_type.specs.declared.value.Value.{Value}
use Rattle.mh_type.specs.Signature.{Signature}
use Rattle.mh_tree.specs.Tree.{Tree, Filters, constant, identity, operation, insert, discard, permute, filter, filter_return, fold, guard, point, invoke, no_more, absent, present}
use Rattle.mh_tree.specs.Typing.{IsTyped, AreTyped}
use Rattle.mh_pic.specs.Keys.{key_in, decided}
use Rattle.mh_pic.specs.Specialised.{is_among, resolved, resolved_filters, stripped, branch, specialised, NamesNone, any_names}

point_typed : (b valid : Bool) (p : ℕ) (x y : Tree) (m : Signature) → IsTyped x m → IsTyped y m → IsTyped (if b then (if valid then x else y) else point p x y) m
point_typed true true p x y m hx hy = hx
point_typed true false p x y m hx hy = hy
point_typed false valid p x y m hx hy = (hx, hy)

mutual
  pub resolved_typed : (valid : Bool) (ps : List ℕ) (t : Tree) (m : Signature) → IsTyped t m → IsTyped (resolved valid ps t) m
  resolved_typed valid ps (constant x) m h = h
  resolved_typed valid ps (identity k) m h = h
  resolved_typed valid ps (operation o) m h = h
  resolved_typed valid ps (insert t p xs) m (n, typed, inserts) = (n, resolved_typed valid ps t n typed, inserts)
  resolved_typed valid ps (discard t p ks) m (n, typed, discards) = (n, resolved_typed valid ps t n typed, discards)
  resolved_typed valid ps (permute t new_type r) m (n, typed, reorders, made) = (n, resolved_typed valid ps t n typed, reorders, made)
  resolved_typed valid ps (filter t p fs) m (n, typed, inside, returns, firsts, filters) =
      (n, resolved_typed valid ps t n typed, inside, returns, firsts, resolved_are_typed valid ps fs _ _ filters)
  resolved_typed valid ps (filter_return t f) m (k, typed, last) = (k, resolved_typed valid ps t _ typed, resolved_typed valid ps f _ last)
  resolved_typed valid ps (fold t c) m (k, ks, typed, combiner, begins) =
      (k, ks, resolved_typed valid ps t _ typed, resolved_typed valid ps c _ combiner, begins)
  resolved_typed valid ps (guard c x y) m (ks, test, begins, first, second) =
      (ks, resolved_typed valid ps c _ test, begins, resolved_typed valid ps x m first, resolved_typed valid ps y m second)
  resolved_typed valid ps (point p x y) m (first, second) =
      point_typed (is_among ps p) valid p (resolved valid ps x) (resolved valid ps y) m (resolved_typed valid ps x m first) (resolved_typed valid ps y m second)
  resolved_typed valid ps (invoke s n) m h = h

  pub resolved_are_typed : (valid : Bool) (ps : List ℕ) (fs : Filters) (old new : List Kind) → AreTyped fs old new → AreTyped (resolved_filters valid ps fs) old new
  resolved_are_typed valid ps no_more old new h = h
  resolved_are_typed valid ps (absent fs) (k ∷ old) (j ∷ new) h = (h.0, resolved_are_typed valid ps fs old new h.1)
  resolved_are_typed valid ps (absent fs) [] new h = absurd h
  resolved_are_typed valid ps (absent fs) (k ∷ old) [] h = absurd h
  resolved_are_typed valid ps (present f fs) (k ∷ old) (j ∷ new) h = (resolved_typed valid ps f _ h.0, resolved_are_typed valid ps fs old new h.1)
  resolved_are_typed valid ps (present f fs) [] new h = absurd h
  resolved_are_typed valid ps (present f fs) (k ∷ old) [] h = absurd h

branch_typed : (o : Option Bool) (c x y : Tree) (m : Signature) → IsTyped (guard c x y) m → IsTyped (branch o c x y) m
branch_typed (Some true) c x y m (ks, test, begins, first, second) = first
branch_typed (Some false) c x y m (ks, test, begins, first, second) = second
branch_typed None c x y m h = h

-- `specialised` has the type of its tree
pub specialised_typed : (needs : List ℕ) (kinds : List Kind) (key : Value) (t : Tree) (m : Signature) → IsTyped t m → IsTyped (specialised needs kinds key t) m
specialised_typed needs kinds key (guard c x y) m (ks, test, begins, first, second) =
    branch_typed (decided key (key_in kinds c)) (stripped needs c) _ _ m
    (ks, resolved_typed true needs c _ test, begins, specialised_typed needs kinds key x m first, specialised_typed needs kinds key y m second)
specialised_typed needs kinds key (point p x y) m (first, second) =
    point_typed (is_among needs p) true p _ _ m (specialised_typed needs kinds key x m first) (specialised_typed needs kinds key y m second)
specialised_typed needs kinds key (constant x) m h = resolved_typed true needs (constant x) m h
specialised_typed needs kinds key (identity k) m h = resolved_typed true needs (identity k) m h
specialised_typed needs kinds key (operation o) m h = resolved_typed true needs (operation o) m h
specialised_typed needs kinds key (insert t p xs) m h = resolved_typed true needs (insert t p xs) m h
specialised_typed needs kinds key (discard t p ks) m h = resolved_typed true needs (discard t p ks) m h
specialised_typed needs kinds key (permute t n r) m h = resolved_typed true needs (permute t n r) m h
specialised_typed needs kinds key (filter t p fs) m h = resolved_typed true needs (filter t p fs) m h
specialised_typed needs kinds key (filter_return t f) m h = resolved_typed true needs (filter_return t f) m h
specialised_typed needs kinds key (fold t c) m h = resolved_typed true needs (fold t c) m h
specialised_typed needs kinds key (invoke s n) m h = resolved_typed true needs (invoke s n) m h

neither : (a b : Bool) → a ≡ false → b ≡ false → (a || b) ≡ false
neither a b h g = λ i. h i || g i

point_names : (ps : List ℕ) (b valid : Bool) (p : ℕ) (x y : Tree) → is_among ps p ≡ b → NamesNone ps x → NamesNone ps y
    → NamesNone ps (if b then (if valid then x else y) else point p x y)
point_names ps true true p x y same hx hy = hx
point_names ps true false p x y same hx hy = hy
point_names ps false valid p x y same hx hy = neither _ _ same (neither _ _ hx hy)

mutual
  pub resolved_names : (valid : Bool) (ps : List ℕ) (t : Tree) → NamesNone ps (resolved valid ps t)
  resolved_names valid ps (constant x) = refl
  resolved_names valid ps (identity k) = refl
  resolved_names valid ps (operation o) = refl
  resolved_names valid ps (insert t p xs) = resolved_names valid ps t
  resolved_names valid ps (discard t p ks) = resolved_names valid ps t
  resolved_names valid ps (permute t m r) = resolved_names valid ps t
  resolved_names valid ps (filter t p fs) = neither _ _ (resolved_names valid ps t) (resolved_name valid ps fs)
  resolved_names valid ps (filter_return t f) = neither _ _ (resolved_names valid ps t) (resolved_names valid ps f)
  resolved_names valid ps (fold t c) = neither _ _ (resolved_names valid ps t) (resolved_names valid ps c)
  resolved_names valid ps (guard c x y) = neither _ _ (resolved_names valid ps c) (neither _ _ (resolved_names valid ps x) (resolved_names valid ps y))
  resolved_names valid ps (point p x y) = point_names ps (is_among ps p) valid p _ _ refl (resolved_names valid ps x) (resolved_names valid ps y)
  resolved_names valid ps (invoke s n) = refl

  pub resolved_name : (valid : Bool) (ps : List ℕ) (fs : Filters) → any_names ps (resolved_filters valid ps fs) ≡ false
  resolved_name valid ps no_more = refl
  resolved_name valid ps (absent fs) = resolved_name valid ps fs
  resolved_name valid ps (present f fs) = neither _ _ (resolved_names valid ps f) (resolved_name valid ps fs)

branch_names : (needs : List ℕ) (o : Option Bool) (c x y : Tree) → NamesNone needs c → NamesNone needs x → NamesNone needs y → NamesNone needs (branch o c x y)
branch_names needs (Some true) c x y hc hx hy = hx
branch_names needs (Some false) c x y hc hx hy = hy
branch_names needs None c x y hc hx hy = neither _ _ hc (neither _ _ hx hy)

-- `specialised` names no needed point
pub specialised_names : (needs : List ℕ) (kinds : List Kind) (key : Value) (t : Tree) → NamesNone needs (specialised needs kinds key t)
specialised_names needs kinds key (guard c x y) =
    branch_names needs (decided key (key_in kinds c)) (stripped needs c) _ _ (resolved_names true needs c) (specialised_names needs kinds key x) (specialised_names needs kinds key y)
specialised_names needs kinds key (point p x y) = point_names needs (is_among needs p) true p _ _ refl (specialised_names needs kinds key x) (specialised_names needs kinds key y)
specialised_names needs kinds key (constant x) = resolved_names true needs (constant x)
specialised_names needs kinds key (identity k) = resolved_names true needs (identity k)
specialised_names needs kinds key (operation o) = resolved_names true needs (operation o)
specialised_names needs kinds key (insert t p xs) = resolved_names true needs (insert t p xs)
specialised_names needs kinds key (discard t p ks) = resolved_names true needs (discard t p ks)
specialised_names needs kinds key (permute t n r) = resolved_names true needs (permute t n r)
specialised_names needs kinds key (filter t p fs) = resolved_names true needs (filter t p fs)
specialised_names needs kinds key (filter_return t f) = resolved_names true needs (filter_return t f)
specialised_names needs kinds key (fold t c) = resolved_names true needs (fold t c)
specialised_names needs kinds key (invoke s n) = resolved_names true needs (invoke s n)
