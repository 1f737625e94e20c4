-- The invocations of the trees: a specialised tree, and a chain, invokes as its base does; and if faithful trees replace the bases, every
-- tree keeps its meaning.
use Rattle.std.proofs.Common.{◌≡◌, ℕ, zero, suc, ◌<◌, ◌≤◌, refl, sym, ◌∙◌, subst, List, [], ◌∷◌, length, arith, Bool, true, false, Option, Some, None, if◌then◌else◌}
use Rattle.mh_type.specs.declared.kind.Kind.{Kind}
use Rattle.mh_type.specs.declared.value.Value.{Value}
use Rattle.mh_type.specs.Fits.{Fits}
use Rattle.mh_type.specs.Signature.{Signature}
use Rattle.mh_tree.specs.Handle.{TypedTree}
use Rattle.mh_tree.specs.Limits.{greatest_level, site_bound}
use Rattle.mh_tree.specs.Meaning.{mean}
use Rattle.mh_tree.specs.Sites.{EachInvoke, EachInvokes, MayInvoke, InvokesBelow, level_at, target_at, calls_below, below, with_sites}
use Rattle.mh_tree.specs.Tree.{Tree, Filters, constant, identity, operation, insert, discard, permute, filter, filter_return, fold, guard, point, invoke, no_more, absent, present}
use Rattle.mh_tree.specs.Typing.{IsTyped}
use Rattle.mh_tree.specs.Laws.{GivesKind, IsBelow, below_bounds, mean_alike, result_kind, sites_below}
use Rattle.mh_pic.specs.Keys.{key_test, key_in, decided}
use Rattle.mh_pic.specs.Specialised.{is_among, resolved, resolved_filters, stripped, branch, specialised}
use Rattle.mh_pic.specs.Chains.{PlainEntry, points, chain, AreFaithful}

module _ (P : ℕ → Signature → Type 0) where
  point_invokes : (b valid : Bool) (p : ℕ) (x y : Tree) → EachInvoke P x → EachInvoke P y → EachInvoke P (if b then (if valid then x else y) else point p x y)
  point_invokes true true p x y hx hy = hx
  point_invokes true false p x y hx hy = hy
  point_invokes false valid p x y hx hy = (hx, hy)

  mutual
    pub resolved_invokes : (valid : Bool) (ps : List ℕ) (t : Tree) → EachInvoke P t → EachInvoke P (resolved valid ps t)
    resolved_invokes valid ps (constant x) e = tt
    resolved_invokes valid ps (identity k) e = tt
    resolved_invokes valid ps (operation o) e = tt
    resolved_invokes valid ps (insert t p xs) e = resolved_invokes valid ps t e
    resolved_invokes valid ps (discard t p ks) e = resolved_invokes valid ps t e
    resolved_invokes valid ps (permute t m r) e = resolved_invokes valid ps t e
    resolved_invokes valid ps (filter t p fs) e = (resolved_invokes valid ps t e.0, resolved_filters_invoke valid ps fs e.1)
    resolved_invokes valid ps (filter_return t f) e = (resolved_invokes valid ps t e.0, resolved_invokes valid ps f e.1)
    resolved_invokes valid ps (fold t c) e = (resolved_invokes valid ps t e.0, resolved_invokes valid ps c e.1)
    resolved_invokes valid ps (guard c x y) e = (resolved_invokes valid ps c e.0, resolved_invokes valid ps x e.1, resolved_invokes valid ps y e.2)
    resolved_invokes valid ps (point p x y) e = point_invokes (is_among ps p) valid p _ _ (resolved_invokes valid ps x e.0) (resolved_invokes valid ps y e.1)
    resolved_invokes valid ps (invoke s n) e = e

    pub resolved_filters_invoke : (valid : Bool) (ps : List ℕ) (fs : Filters) → EachInvokes P fs → EachInvokes P (resolved_filters valid ps fs)
    resolved_filters_invoke valid ps no_more e = tt
    resolved_filters_invoke valid ps (absent fs) e = resolved_filters_invoke valid ps fs e
    resolved_filters_invoke valid ps (present f fs) e = (resolved_invokes valid ps f e.0, resolved_filters_invoke valid ps fs e.1)

  branch_invokes : (o : Option Bool) (c x y : Tree) → EachInvoke P c → EachInvoke P x → EachInvoke P y → EachInvoke P (branch o c x y)
  branch_invokes (Some true) c x y hc hx hy = hx
  branch_invokes (Some false) c x y hc hx hy = hy
  branch_invokes None c x y hc hx hy = (hc, hx, hy)

  pub specialised_invokes : (needs : List ℕ) (kinds : List Kind) (key : Value) (t : Tree) → EachInvoke P t → EachInvoke P (specialised needs kinds key t)
  specialised_invokes needs kinds key (guard c x y) e =
      branch_invokes (decided key (key_in kinds c)) (stripped needs c) _ _ (resolved_invokes true needs c e.0) (specialised_invokes needs kinds key x e.1) (specialised_invokes needs kinds key y e.2)
  specialised_invokes needs kinds key (point p x y) e = point_invokes (is_among needs p) true p _ _ (specialised_invokes needs kinds key x e.0) (specialised_invokes needs kinds key y e.1)
  specialised_invokes needs kinds key (constant x) e = resolved_invokes true needs (constant x) e
  specialised_invokes needs kinds key (identity k) e = resolved_invokes true needs (identity k) e
  specialised_invokes needs kinds key (operation o) e = resolved_invokes true needs (operation o) e
  specialised_invokes needs kinds key (insert t p xs) e = resolved_invokes true needs (insert t p xs) e
  specialised_invokes needs kinds key (discard t p ks) e = resolved_invokes true needs (discard t p ks) e
  specialised_invokes needs kinds key (permute t n r) e = resolved_invokes true needs (permute t n r) e
  specialised_invokes needs kinds key (filter t p fs) e = resolved_invokes true needs (filter t p fs) e
  specialised_invokes needs kinds key (filter_return t f) e = resolved_invokes true needs (filter_return t f) e
  specialised_invokes needs kinds key (fold t c) e = resolved_invokes true needs (fold t c) e
  specialised_invokes needs kinds key (invoke s n) e = e

  test_invokes : (kinds : List Kind) (key : Value) → EachInvoke P (key_test kinds key)
  test_invokes [] key = tt
  test_invokes (k ∷ kinds) key = tt

  points_invoke : (ps : List ℕ) (x base : Tree) → EachInvoke P x → EachInvoke P base → EachInvoke P (points ps x base)
  points_invoke [] x base hx hb = hx
  points_invoke (p ∷ rest) x base hx hb = (points_invoke rest x base hx hb, hb)

  pub chain_invokes : (kinds : List Kind) (base : Tree) (entries : List PlainEntry) → EachInvoke P base → EachInvoke P (chain kinds base entries)
  chain_invokes kinds base [] e = e
  chain_invokes kinds base (h ∷ rest) e = (
    test_invokes kinds h.key,
    points_invoke h.needs _ base (specialised_invokes h.needs kinds h.key base e) e,
    chain_invokes kinds base rest e,
  )

-- a chain names no other sites than its base
pub chain_sites : (kinds : List Kind) (base : Tree) (entries : List PlainEntry) (n : ℕ) → site_bound base ≤ n → site_bound (chain kinds base entries) ≤ n
chain_sites kinds base entries n h = below_bounds n (chain kinds base entries) (chain_invokes (IsBelow n) kinds base entries (sites_below n base h))

module _ (valid : List Bool) (levels : List ℕ) (trees bases : List TypedTree) (faithful : AreFaithful trees bases) (typed : (s : ℕ) → s < length bases → IsTyped (target_at bases s).tree (target_at bases s).signature) (lower : (s : ℕ) → s < length bases → InvokesBelow levels bases (level_at levels s) (target_at bases s).tree) where
  -- a base returns a value of its return kind
  base_kind : (d l : ℕ) → l ≤ d → (s : ℕ) (n : Signature) → MayInvoke levels bases l s n → (a : List Value) → Fits n a → GivesKind n.ret (calls_below d valid bases s a)
  base_kind zero l few s n may a fits = absurd (omega (arith, few, may.lower))
  base_kind (suc d) l few s n may a fits =
      subst (λ (m : Signature). GivesKind m.ret (calls_below (suc d) valid bases s a)) (sym may.same)
      (result_kind (below d valid bases) (MayInvoke levels bases (level_at levels s)) (base_kind d (level_at levels s) (omega (arith, few, may.lower)))
      (target_at bases s).tree (target_at bases s).signature (typed s may.known) (lower s may.known) a (subst (λ (m : Signature). Fits m a) may.same fits))

  -- and the tree that replaces it returns the same
  tree_alike : (d l : ℕ) → l ≤ d → (s : ℕ) (n : Signature) → MayInvoke levels bases l s n → (a : List Value) → Fits n a → calls_below d valid bases s a ≡ calls_below d valid trees s a
  tree_alike zero l few s n may a fits = absurd (omega (arith, few, may.lower))
  tree_alike (suc d) l few s n may a fits =
      let fit = subst (λ (m : Signature). Fits m a) may.same fits in
      let less : level_at levels s ≤ d = omega (arith, few, may.lower) in
      mean_alike (below d valid bases) (below d valid trees) (MayInvoke levels bases (level_at levels s)) (base_kind d (level_at levels s) less) refl (tree_alike d (level_at levels s) less)
      (target_at bases s).tree (target_at bases s).signature (typed s may.known) (lower s may.known) a fit
      ∙ sym ((faithful s may.known).same (below d valid trees) a fit)

  pub faithful_means : (t : Tree) (m : Signature) → IsTyped t m → InvokesBelow levels bases (suc greatest_level) t → (a : List Value) → Fits m a → mean (with_sites valid trees) t a ≡ mean (with_sites valid bases) t a
  faithful_means t m is e a fits =
      sym (mean_alike (with_sites valid bases) (with_sites valid trees) (MayInvoke levels bases (suc greatest_level))
      (base_kind (suc greatest_level) (suc greatest_level) (omega arith)) refl (tree_alike (suc greatest_level) (suc greatest_level) (omega arith)) t m is e a fits)
