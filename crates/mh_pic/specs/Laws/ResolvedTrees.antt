-- Trees in which points are taken as valid, or as invalid: they do what the tree does if they are so, in at most as many steps.
use Rattle.std.proofs.Common.{◌≡◌, ℕ, zero, suc, ◌+◌, ◌<◌, ◌≤◌, ◌∙◌, refl, ap, sym, subst, List, [], ◌∷◌, take, map, length, arith, Bool, true, false, Result, Ok, Err, if◌then◌else◌}
use Rattle.std.specs.Prelude.{nat_lt, slice_set}
use Rattle.std.proofs.lemmas.Bool.Decides.{nat_tests}
use Rattle.std.proofs.lemmas.List.{get_or_past}
use Rattle.mh_type.specs.declared.kind.Kind.{Kind}
use Rattle.mh_type.specs.declared.kind.Kind.TheVariants as kind
use Rattle.mh_type.specs.declared.value.Value.{Value}
use Rattle.mh_type.specs.declared.value.Value.TheVariants.{Int, Long, Boolean, Text}
use Rattle.mh_type.specs.declared.outcome.Throw.{Throw}
use Rattle.mh_type.specs.declared.outcome.Outcome.{Outcome}
use Rattle.mh_type.specs.declared.outcome.Outcome.TheVariants.{Thrown, Value as Value'}
use Rattle.mh_type.specs.Signature.{Signature}
use Rattle.mh_tree.specs.Arity.{arity}
use Rattle.mh_tree.specs.Environment.{Environment}
use Rattle.mh_tree.specs.Handle.{TypedTree}
use Rattle.mh_tree.specs.Limits.{greatest_level}
use Rattle.mh_tree.specs.Meaning.{◌>>=◌, mean, steps, filtered, filter_steps, with_arguments, with_value, after, after_filters, argument, put_in, taken_out, choose, choose_steps, is_valid}
use Rattle.mh_tree.specs.Sites.{below, target_at, with_sites}
use Rattle.mh_tree.specs.Tree.{Tree, Filters, constant, identity, operation, insert, discard, permute, filter, filter_return, fold, guard, point, invoke, no_more, absent, present}
use Rattle.mh_tree.specs.Typing.{IsTyped, AreTyped}
use Rattle.mh_tree.specs.Laws.{arity_counts}
use Rattle.mh_pic.specs.Specialised.{AreValid, Resolves, Retires, is_among, resolved, resolved_filters, retired, retired_tree, stripped}
use Rattle.mh_pic.specs.Laws.Kept.{resolved_typed}

-- Tests and combiners are passed as many arguments as before: if points are taken as valid, and in every typed tree.
abbrev mutual
  pub KeepsArity : Bool → List ℕ → Tree → Type 0
  KeepsArity valid ps (constant x) = Unit {0}
  KeepsArity valid ps (identity k) = Unit {0}
  KeepsArity valid ps (operation o) = Unit {0}
  KeepsArity valid ps (insert t p xs) = KeepsArity valid ps t
  KeepsArity valid ps (discard t p ks) = KeepsArity valid ps t
  KeepsArity valid ps (permute t m r) = KeepsArity valid ps t
  KeepsArity valid ps (filter t p fs) = KeepsArity valid ps t × KeepArity valid ps fs
  KeepsArity valid ps (filter_return t f) = KeepsArity valid ps t × KeepsArity valid ps f
  KeepsArity valid ps (fold t c) = (arity (resolved valid ps c) ≡ arity c) × KeepsArity valid ps t × KeepsArity valid ps c
  KeepsArity valid ps (guard c x y) = (arity (resolved valid ps c) ≡ arity c) × KeepsArity valid ps c × KeepsArity valid ps x × KeepsArity valid ps y
  KeepsArity valid ps (point p x y) = KeepsArity valid ps x × KeepsArity valid ps y
  KeepsArity valid ps (invoke s n) = Unit {0}

  KeepArity : Bool → List ℕ → Filters → Type 0
  KeepArity valid ps no_more = Unit {0}
  KeepArity valid ps (absent fs) = KeepArity valid ps fs
  KeepArity valid ps (present f fs) = KeepsArity valid ps f × KeepArity valid ps fs

-- a point that is replaced, and one that stays
arity_point : (b : Bool) (p : ℕ) (x y : Tree) → arity (if b then x else point p x y) ≡ arity x
arity_point true p x y = refl
arity_point false p x y = refl

pub stripped_arity : (needs : List ℕ) (t : Tree) → arity (stripped needs t) ≡ arity t
stripped_arity needs (constant x) = refl
stripped_arity needs (identity k) = refl
stripped_arity needs (operation o) = refl
stripped_arity needs (insert t p xs) = rw (stripped_arity needs t) refl
stripped_arity needs (discard t p ks) = rw (stripped_arity needs t) refl
stripped_arity needs (permute t m r) = refl
stripped_arity needs (filter t p fs) = stripped_arity needs t
stripped_arity needs (filter_return t f) = stripped_arity needs t
stripped_arity needs (fold t c) = rw (stripped_arity needs t) refl
stripped_arity needs (guard c x y) = stripped_arity needs x
stripped_arity needs (point p x y) = rw (arity_point (is_among needs p) p (stripped needs x) (stripped needs y)) (stripped_arity needs x)
stripped_arity needs (invoke s n) = refl

mutual
  pub stripped_keeps : (needs : List ℕ) (t : Tree) → KeepsArity true needs t
  stripped_keeps needs (constant x) = tt
  stripped_keeps needs (identity k) = tt
  stripped_keeps needs (operation o) = tt
  stripped_keeps needs (insert t p xs) = stripped_keeps needs t
  stripped_keeps needs (discard t p ks) = stripped_keeps needs t
  stripped_keeps needs (permute t m r) = stripped_keeps needs t
  stripped_keeps needs (filter t p fs) = (stripped_keeps needs t, stripped_keep needs fs)
  stripped_keeps needs (filter_return t f) = (stripped_keeps needs t, stripped_keeps needs f)
  stripped_keeps needs (fold t c) = (stripped_arity needs c, stripped_keeps needs t, stripped_keeps needs c)
  stripped_keeps needs (guard c x y) = (stripped_arity needs c, stripped_keeps needs c, stripped_keeps needs x, stripped_keeps needs y)
  stripped_keeps needs (point p x y) = (stripped_keeps needs x, stripped_keeps needs y)
  stripped_keeps needs (invoke s n) = tt

  stripped_keep : (needs : List ℕ) (fs : Filters) → KeepArity true needs fs
  stripped_keep needs no_more = tt
  stripped_keep needs (absent fs) = stripped_keep needs fs
  stripped_keep needs (present f fs) = (stripped_keeps needs f, stripped_keep needs fs)

typed_arity : (valid : Bool) (ps : List ℕ) (t : Tree) (m : Signature) → IsTyped t m → arity (resolved valid ps t) ≡ arity t
typed_arity valid ps t m typed = arity_counts (resolved valid ps t) m (resolved_typed valid ps t m typed) ∙ sym (arity_counts t m typed)

mutual
  pub typed_keeps : (valid : Bool) (ps : List ℕ) (t : Tree) (m : Signature) → IsTyped t m → KeepsArity valid ps t
  typed_keeps valid ps (constant x) m h = tt
  typed_keeps valid ps (identity k) m h = tt
  typed_keeps valid ps (operation o) m h = tt
  typed_keeps valid ps (insert t p xs) m (n, typed, inserts) = typed_keeps valid ps t n typed
  typed_keeps valid ps (discard t p ks) m (n, typed, discards) = typed_keeps valid ps t n typed
  typed_keeps valid ps (permute t new_type r) m (n, typed, reorders, made) = typed_keeps valid ps t n typed
  typed_keeps valid ps (filter t p fs) m (n, typed, inside, returns, firsts, filters) = (typed_keeps valid ps t n typed, typed_keep valid ps fs _ _ filters)
  typed_keeps valid ps (filter_return t f) m (k, typed, last) = (typed_keeps valid ps t _ typed, typed_keeps valid ps f _ last)
  typed_keeps valid ps (fold t c) m (k, ks, typed, combiner, begins) =
      (typed_arity valid ps c _ combiner, typed_keeps valid ps t _ typed, typed_keeps valid ps c _ combiner)
  typed_keeps valid ps (guard c x y) m (ks, test, begins, first, second) =
      (typed_arity valid ps c _ test, typed_keeps valid ps c _ test, typed_keeps valid ps x m first, typed_keeps valid ps y m second)
  typed_keeps valid ps (point p x y) m (first, second) = (typed_keeps valid ps x m first, typed_keeps valid ps y m second)
  typed_keeps valid ps (invoke s n) m h = tt

  typed_keep : (valid : Bool) (ps : List ℕ) (fs : Filters) (old new : List Kind) → AreTyped fs old new → KeepArity valid ps fs
  typed_keep valid ps no_more old new h = tt
  typed_keep valid ps (absent fs) (k ∷ old) (j ∷ new) h = typed_keep valid ps fs old new h.1
  typed_keep valid ps (absent fs) [] new h = absurd h
  typed_keep valid ps (absent fs) (k ∷ old) [] h = absurd h
  typed_keep valid ps (present f fs) (k ∷ old) (j ∷ new) h = (typed_keeps valid ps f _ h.0, typed_keep valid ps fs old new h.1)
  typed_keep valid ps (present f fs) [] new h = absurd h
  typed_keep valid ps (present f fs) (k ∷ old) [] h = absurd h

-- a point that v has as it is taken, or that w has as v does
pub mean_point : (v w : Environment) (b valid : Bool) (p : ℕ) (x y x' y' : Tree) (a : List Value)
    → (b ≡ true → is_valid v p ≡ valid) → (b ≡ false → is_valid w p ≡ is_valid v p) → mean w x' a ≡ mean v x a → mean w y' a ≡ mean v y a
    → mean w (if b then (if valid then x' else y') else point p x' y') a ≡ mean v (point p x y) a
mean_point v w true true p x y x' y' a taken other hx hy = rw (taken refl) hx
mean_point v w true false p x y x' y' a taken other hx hy = rw (taken refl) hy
mean_point v w false valid p x y x' y' a taken other hx hy = λ i. if other refl i then hx i else hy i

mutual
  pub resolved_mean : (valid : Bool) (ps : List ℕ) (v w : Environment) → Resolves valid ps v w → (t : Tree) → KeepsArity valid ps t → (a : List Value) → mean w (resolved valid ps t) a ≡ mean v t a
  resolved_mean valid ps v w kept (constant x) k a = refl
  resolved_mean valid ps v w kept (identity j) k a = refl
  resolved_mean valid ps v w kept (operation o) k a = refl
  resolved_mean valid ps v w kept (insert t p xs) k a = resolved_mean valid ps v w kept t k (put_in a p xs)
  resolved_mean valid ps v w kept (discard t p ks) k a = resolved_mean valid ps v w kept t k (taken_out a p (length ks))
  resolved_mean valid ps v w kept (permute t m r) k a = resolved_mean valid ps v w kept t k (map (argument a) r)
  resolved_mean valid ps v w kept (filter t p fs) (k, ks) a =
      λ i. with_arguments (resolved_filtered valid ps v w kept fs ks p a i) (λ b. resolved_mean valid ps v w kept t k b i)
  resolved_mean valid ps v w kept (filter_return t f) (k, l) a =
      λ i. resolved_mean valid ps v w kept t k a i >>= (λ x. resolved_mean valid ps v w kept f l (x ∷ []) i)
  resolved_mean valid ps v w kept (fold t c) (same, k, l) a =
      rw same (λ i. resolved_mean valid ps v w kept c l (take (arity c) a) i >>= (λ x. resolved_mean valid ps v w kept t k (x ∷ a) i))
  resolved_mean valid ps v w kept (guard c x y) (same, k, l, n) a =
      rw same (λ i. resolved_mean valid ps v w kept c k (take (arity c) a) i >>= (λ b. choose b (resolved_mean valid ps v w kept x l a i) (resolved_mean valid ps v w kept y n a i)))
  resolved_mean valid ps v w kept (point p x y) (k, l) a =
      mean_point v w (is_among ps p) valid p x y (resolved valid ps x) (resolved valid ps y) a (kept.taken p) (kept.others p) (resolved_mean valid ps v w kept x k a) (resolved_mean valid ps v w kept y l a)
  resolved_mean valid ps v w kept (invoke s n) k a = kept.calls s (take (length n.parameters) a)

  pub resolved_filtered : (valid : Bool) (ps : List ℕ) (v w : Environment) → Resolves valid ps v w → (fs : Filters) → KeepArity valid ps fs → (p : ℕ) (a : List Value)
      → filtered w (resolved_filters valid ps fs) p a ≡ filtered v fs p a
  resolved_filtered valid ps v w kept no_more k p a = refl
  resolved_filtered valid ps v w kept (absent fs) k p a = resolved_filtered valid ps v w kept fs k (p + 1) a
  resolved_filtered valid ps v w kept (present f fs) (k, ks) p a =
      λ i. with_value (resolved_mean valid ps v w kept f k (argument a p ∷ []) i) (λ x. resolved_filtered valid ps v w kept fs ks (p + 1) (slice_set a p x) i)

-- steps, given how a tree's steps grow with its parts' steps
pub after_less : (o o' : Outcome) (go go' : Value → ℕ) → o ≡ o' → ((x : Value) → go x ≤ go' x) → after o go ≤ after o' go'
after_less o o' go go' same less = rw same (by_outcome o')
  where
    by_outcome : (u : Outcome) → after u go ≤ after u go'
    by_outcome (Value' x) = less x
    by_outcome (Thrown t) = omega arith

after_filters_less : (r r' : Result (List Value) Throw) (go go' : List Value → ℕ) → r ≡ r' → ((b : List Value) → go b ≤ go' b) → after_filters r go ≤ after_filters r' go'
after_filters_less r r' go go' same less = rw same (by_result r')
  where
    by_result : (u : Result (List Value) Throw) → after_filters u go ≤ after_filters u go'
    by_result (Ok b) = less b
    by_result (Err t) = omega arith

pub choose_less : (b : Value) (x y x' y' : ℕ) → x ≤ x' → y ≤ y' → choose_steps b x y ≤ choose_steps b x' y'
choose_less (Boolean true) x y x' y' hx hy = hx
choose_less (Boolean false) x y x' y' hx hy = hy
choose_less (Int n) x y x' y' hx hy = hy
choose_less (Long n) x y x' y' hx hy = hy
choose_less (Text t) x y x' y' hx hy = hy

if_less : (b : Bool) (x y x' y' : ℕ) → x ≤ x' → y ≤ y' → (if b then x else y) ≤ (if b then x' else y')
if_less true x y x' y' hx hy = hx
if_less false x y x' y' hx hy = hy

pub steps_point : (v w : Environment) (b valid : Bool) (p : ℕ) (x y x' y' : Tree) (a : List Value)
    → (b ≡ true → is_valid v p ≡ valid) → (b ≡ false → is_valid w p ≡ is_valid v p) → steps w x' a ≤ steps v x a → steps w y' a ≤ steps v y a
    → steps w (if b then (if valid then x' else y') else point p x' y') a ≤ steps v (point p x y) a
steps_point v w true true p x y x' y' a taken other hx hy = rw (taken refl) (omega (arith, hx))
steps_point v w true false p x y x' y' a taken other hx hy = rw (taken refl) (omega (arith, hy))
steps_point v w false valid p x y x' y' a taken other hx hy = rw (other refl) (omega (arith, if_less (is_valid v p) _ _ _ _ hx hy))

mutual
  pub resolved_steps : (valid : Bool) (ps : List ℕ) (v w : Environment) → Resolves valid ps v w → (t : Tree) → KeepsArity valid ps t → (a : List Value) → steps w (resolved valid ps t) a ≤ steps v t a
  resolved_steps valid ps v w kept (constant x) k a = omega arith
  resolved_steps valid ps v w kept (identity j) k a = omega arith
  resolved_steps valid ps v w kept (operation o) k a = omega arith
  resolved_steps valid ps v w kept (insert t p xs) k a = omega (arith, resolved_steps valid ps v w kept t k (put_in a p xs))
  resolved_steps valid ps v w kept (discard t p ks) k a = omega (arith, resolved_steps valid ps v w kept t k (taken_out a p (length ks)))
  resolved_steps valid ps v w kept (permute t m r) k a = omega (arith, resolved_steps valid ps v w kept t k (map (argument a) r))
  resolved_steps valid ps v w kept (filter t p fs) (k, ks) a =
      let before = resolved_filter_steps valid ps v w kept fs ks p a in
      let rest = after_filters_less _ _ (steps w (resolved valid ps t)) (steps v t) (resolved_filtered valid ps v w kept fs ks p a) (λ b. resolved_steps valid ps v w kept t k b) in
      omega (arith, before, rest)
  resolved_steps valid ps v w kept (filter_return t f) (k, l) a =
      let before = resolved_steps valid ps v w kept t k a in
      let rest = after_less _ _ (λ x. steps w (resolved valid ps f) (x ∷ [])) (λ x. steps v f (x ∷ [])) (resolved_mean valid ps v w kept t k a) (λ x. resolved_steps valid ps v w kept f l (x ∷ [])) in
      omega (arith, before, rest)
  resolved_steps valid ps v w kept (fold t c) (same, k, l) a =
      let before = resolved_steps valid ps v w kept c l (take (arity c) a) in
      let rest = after_less _ _ (λ x. steps w (resolved valid ps t) (x ∷ a)) (λ x. steps v t (x ∷ a)) (resolved_mean valid ps v w kept c l (take (arity c) a)) (λ x. resolved_steps valid ps v w kept t k (x ∷ a)) in
      rw same (omega (arith, before, rest))
  resolved_steps valid ps v w kept (guard c x y) (same, k, l, n) a =
      let before = resolved_steps valid ps v w kept c k (take (arity c) a) in
      let rest = after_less _ _ (λ b. choose_steps b (steps w (resolved valid ps x) a) (steps w (resolved valid ps y) a)) (λ b. choose_steps b (steps v x a) (steps v y a)) (resolved_mean valid ps v w kept c k (take (arity c) a))
      (λ b. choose_less b _ _ _ _ (resolved_steps valid ps v w kept x l a) (resolved_steps valid ps v w kept y n a)) in
      rw same (omega (arith, before, rest))
  resolved_steps valid ps v w kept (point p x y) (k, l) a =
      steps_point v w (is_among ps p) valid p x y (resolved valid ps x) (resolved valid ps y) a (kept.taken p) (kept.others p) (resolved_steps valid ps v w kept x k a) (resolved_steps valid ps v w kept y l a)
  resolved_steps valid ps v w kept (invoke s n) k a = omega (arith, kept.quick s (take (length n.parameters) a))

  pub resolved_filter_steps : (valid : Bool) (ps : List ℕ) (v w : Environment) → Resolves valid ps v w → (fs : Filters) → KeepArity valid ps fs → (p : ℕ) (a : List Value)
      → filter_steps w (resolved_filters valid ps fs) p a ≤ filter_steps v fs p a
  resolved_filter_steps valid ps v w kept no_more k p a = omega arith
  resolved_filter_steps valid ps v w kept (absent fs) k p a = resolved_filter_steps valid ps v w kept fs k (p + 1) a
  resolved_filter_steps valid ps v w kept (present f fs) (k, ks) p a =
      let before = resolved_steps valid ps v w kept f k (argument a p ∷ []) in
      let rest = after_less _ _ (λ x. filter_steps w (resolved_filters valid ps fs) (p + 1) (slice_set a p x)) (λ x. filter_steps v fs (p + 1) (slice_set a p x)) (resolved_mean valid ps v w kept f k (argument a p ∷ []))
      (λ x. resolved_filter_steps valid ps v w kept fs ks (p + 1) (slice_set a p x)) in
      omega (arith, before, rest)

-- ---- trees without needed points
needed : (needs : List ℕ) (v : Environment) → AreValid v needs → Resolves true needs v v
needed needs v valid = record { taken = valid; others = λ p h. refl; calls = λ s a. refl; quick = λ s a. omega arith }

pub stripped_mean : (needs : List ℕ) (v : Environment) → AreValid v needs → (t : Tree) (a : List Value) → mean v (stripped needs t) a ≡ mean v t a
stripped_mean needs v valid t a = resolved_mean true needs v v (needed needs v valid) t (stripped_keeps needs t) a

pub stripped_steps : (needs : List ℕ) (v : Environment) → AreValid v needs → (t : Tree) (a : List Value) → steps v (stripped needs t) a ≤ steps v t a
stripped_steps needs v valid t a = resolved_steps true needs v v (needed needs v valid) t (stripped_keeps needs t) a

-- ---- trees without points that are invalid
pub retired_mean : (ps : List ℕ) (v w : Environment) → Resolves false ps v w → (t : Tree) (m : Signature) → IsTyped t m → (a : List Value) → mean w (retired ps t) a ≡ mean v t a
retired_mean ps v w kept t m typed a = resolved_mean false ps v w kept t (typed_keeps false ps t m typed) a

pub retired_steps : (ps : List ℕ) (v w : Environment) → Resolves false ps v w → (t : Tree) (m : Signature) → IsTyped t m → (a : List Value) → steps w (retired ps t) a ≤ steps v t a
retired_steps ps v w kept t m typed a = resolved_steps false ps v w kept t (typed_keeps false ps t m typed) a

-- the tree of a site, if each site's tree is without the points
pub retired_at : (ps : List ℕ) (targets : List TypedTree) (s : ℕ) → target_at (map (retired_tree ps) targets) s ≡ retired_tree ps (target_at targets s)
retired_at ps [] s = refl
retired_at ps (t ∷ rest) zero = refl
retired_at ps (t ∷ rest) (suc s) = retired_at ps rest s

-- the tree of a site that does not exist
abbrev no_tree : TypedTree
no_tree = record { tree = constant (Boolean false); signature = record { ret = kind.Boolean; parameters = [] } }

typed_at : (targets : List TypedTree) → ((s : ℕ) → s < length targets → IsTyped (target_at targets s).tree (target_at targets s).signature) → (s : ℕ)
    → IsTyped (target_at targets s).tree (target_at targets s).signature
typed_at targets typed s = by_test (nat_lt s (length targets)) refl
  where
    by_test : (b : Bool) → nat_lt s (length targets) ≡ b → IsTyped (target_at targets s).tree (target_at targets s).signature
    by_test true e = typed s (grind (arith, nat_tests))
    by_test false e = subst (λ (h : TypedTree). IsTyped h.tree h.signature) (sym (get_or_past targets s no_tree (grind (arith, nat_tests)))) refl

-- through sites: if each site's tree is without the points, and they may be valid or not
module _ (ps : List ℕ) (old new : List Bool) (targets : List TypedTree) (retires : Retires ps old new)
    (typed : (s : ℕ) → s < length targets → IsTyped (target_at targets s).tree (target_at targets s).signature) where
  pub retired_below : (d : ℕ) → Resolves false ps (below d old targets) (below d new (map (retired_tree ps) targets))
  retired_below zero = record { taken = retires.taken; others = retires.others; calls = λ s a. refl; quick = λ s a. omega arith }
  retired_below (suc d) = record {
    taken = retires.taken;
    others = retires.others;
    calls = λ s a.
        ap (λ (h : TypedTree). mean (below d new (map (retired_tree ps) targets)) h.tree a) (retired_at ps targets s)
        ∙ retired_mean ps (below d old targets) (below d new (map (retired_tree ps) targets)) (retired_below d) (target_at targets s).tree (target_at targets s).signature (typed_at targets typed s) a;
    quick = λ s a.
        let same = ap (λ (h : TypedTree). steps (below d new (map (retired_tree ps) targets)) h.tree a) (retired_at ps targets s) in
        let less = retired_steps ps (below d old targets) (below d new (map (retired_tree ps) targets)) (retired_below d) (target_at targets s).tree (target_at targets s).signature (typed_at targets typed s) a in
        omega (arith, same, less);
  }

  pub retired_sites : Resolves false ps (with_sites old targets) (with_sites new (map (retired_tree ps) targets))
  retired_sites = retired_below (suc greatest_level)
