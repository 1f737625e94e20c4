-- A tree means the same if there are more points and more sites than it names.
use Rattle.std.proofs.Common.{◌≡◌, ℕ, zero, suc, ◌+◌, ◌<◌, ◌≤◌, Bool, false, List, [], ◌∷◌, take, length, map, refl, ap, ◌∙◌, arith, if◌then◌else◌, slice_index_or}
use Rattle.std.specs.Prelude.{slice_set}
use Rattle.mh_type.specs.declared.value.Value.{Value}
use Rattle.mh_tree.specs.Arity.{arity}
use Rattle.mh_tree.specs.Environment.{Environment}
use Rattle.mh_tree.specs.Handle.{TypedTree}
use Rattle.mh_tree.specs.Limits.{greatest_bound, greatest_level, greatest_site, point_bound, site_bound}
use Rattle.mh_tree.specs.Meaning.{◌>>=◌, mean, filtered, with_arguments, with_value, argument, put_in, taken_out, choose}
use Rattle.mh_tree.specs.Sites.{below, target_at, with_sites}
use Rattle.mh_tree.specs.Tree.{Tree, Filters, constant, identity, operation, insert, discard, permute, filter, filter_return, fold, guard, point, invoke, no_more, absent, present}

-- the first points are valid in both or in neither
abbrev pub SamePoints : ℕ → List Bool → List Bool → Type 0
SamePoints k v w = (p : ℕ) → p < k → slice_index_or v p false ≡ slice_index_or w p false

-- an invocation of the first sites returns the same in both
abbrev pub SameCalls : ℕ → Environment → Environment → Type 0
SameCalls n v w = (s : ℕ) → s < n → (a : List Value) → v.calls s a ≡ w.calls s a

module _ (k n : ℕ) (v w : Environment) (valid : SamePoints k v.valid w.valid) (agree : SameCalls n v w) where
  mutual
    pub mean_same : (t : Tree) → point_bound t ≤ k → site_bound t ≤ n → (a : List Value) → mean v t a ≡ mean w t a
    mean_same (constant x) h m a = refl
    mean_same (identity j) h m a = refl
    mean_same (operation o) h m a = refl
    mean_same (insert t p xs) h m a = mean_same t h m (put_in a p xs)
    mean_same (discard t p ks) h m a = mean_same t h m (taken_out a p (length ks))
    mean_same (permute t j r) h m a = mean_same t h m (map (argument a) r)
    mean_same (filter t p fs) h m a =
        λ i. with_arguments (filtered_same fs (omega arith) (omega arith) p a i) (λ b. mean_same t (omega arith) (omega arith) b i)
    mean_same (filter_return t f) h m a =
        λ i. mean_same t (omega arith) (omega arith) a i >>= (λ x. mean_same f (omega arith) (omega arith) (x ∷ []) i)
    mean_same (fold t c) h m a =
        λ i. mean_same c (omega arith) (omega arith) (take (arity c) a) i >>= (λ x. mean_same t (omega arith) (omega arith) (x ∷ a) i)
    mean_same (guard c x y) h m a =
        λ i. mean_same c (omega arith) (omega arith) (take (arity c) a) i
        >>= (λ b. choose b (mean_same x (omega arith) (omega arith) a i) (mean_same y (omega arith) (omega arith) a i))
    mean_same (point p x y) h m a =
        λ i. if valid p (omega arith) i then mean_same x (omega arith) (omega arith) a i else mean_same y (omega arith) (omega arith) a i
    mean_same (invoke s j) h m a = agree s (omega arith) (take (length j.parameters) a)

    filtered_same : (fs : Filters) → greatest_bound fs ≤ k → greatest_site fs ≤ n → (p : ℕ) (a : List Value) → filtered v fs p a ≡ filtered w fs p a
    filtered_same no_more h m p a = refl
    filtered_same (absent fs) h m p a = filtered_same fs h m (p + 1) a
    filtered_same (present f fs) h m p a =
        λ i. with_value (mean_same f (omega arith) (omega arith) (argument a p ∷ []) i) (λ x. filtered_same fs (omega arith) (omega arith) (p + 1) (slice_set a p x) i)

-- the trees of the first sites name only the first points and sites
abbrev pub StayWithin : ℕ → ℕ → List TypedTree → Type 0
StayWithin k n targets = (s : ℕ) → s < n → (point_bound (target_at targets s).tree ≤ k) × (site_bound (target_at targets s).tree ≤ n)

module _ (k n : ℕ) (v w : List Bool) (ts us : List TypedTree) (valid : SamePoints k v w) (same : (s : ℕ) → s < n → target_at ts s ≡ target_at us s) (within : StayWithin k n us) where
  calls_same : (d : ℕ) → SameCalls n (below d v ts) (below d w us)
  calls_same zero s h a = refl
  calls_same (suc d) s h a =
      ap (λ (t : TypedTree). mean (below d v ts) t.tree a) (same s h)
      ∙ mean_same k n (below d v ts) (below d w us) valid (calls_same d) (target_at us s).tree (within s h).0 (within s h).1 a

  pub mean_among : (t : Tree) → point_bound t ≤ k → site_bound t ≤ n → (a : List Value) → mean (with_sites v ts) t a ≡ mean (with_sites w us) t a
  mean_among t h m a = mean_same k n (with_sites v ts) (with_sites w us) valid (calls_same (suc greatest_level)) t h m a
