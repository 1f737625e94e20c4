-- Facts of each invocation of a tree: the test of the tree decides them, if the test of one invocation does; two facts hold together if
-- each holds alone; and the bound of a tree's sites is a bound of each.
use Rattle.std.proofs.Common.{◌≡◌, ℕ, ◌<◌, ◌≤◌, arith, refl, Bool, true, false, ◌&&◌}
use Rattle.std.specs.Bool.{Decides}
use Rattle.mh_type.specs.Signature.{Signature}
use Rattle.mh_tree.specs.Invocations.{EachInvoke, EachInvokes, each_invoke, each_invokes}
use Rattle.mh_tree.specs.Limits.{site_bound, greatest_site}
use Rattle.mh_tree.specs.Tree.{Tree, Filters, constant, identity, operation, insert, discard, permute, filter, filter_return, fold, guard, point, invoke, no_more, absent, present}

-- two tests that both hold
pub both_hold : (x y : Bool) → x && y ≡ true → (x ≡ true) × (y ≡ true)
both_hold true y h = (refl, h)
both_hold false y h = cc

pub hold_both : (x y : Bool) → x ≡ true → y ≡ true → x && y ≡ true
hold_both true y h g = g
hold_both false y h g = cc

-- if the test of an invocation decides, that of a tree does
mutual
  each_holds : (f : ℕ → Signature → Bool) (P : ℕ → Signature → Type 0) → ((s : ℕ) (n : Signature) → f s n ≡ true → P s n) → (t : Tree) → each_invoke f t ≡ true → EachInvoke P t
  each_holds f P d (constant x) h = tt
  each_holds f P d (identity k) h = tt
  each_holds f P d (operation o) h = tt
  each_holds f P d (insert t p xs) h = each_holds f P d t h
  each_holds f P d (discard t p ks) h = each_holds f P d t h
  each_holds f P d (permute t m r) h = each_holds f P d t h
  each_holds f P d (filter t p fs) h = let b = both_hold _ _ h in (each_holds f P d t b.0, all_hold f P d fs b.1)
  each_holds f P d (filter_return t g) h = let b = both_hold _ _ h in (each_holds f P d t b.0, each_holds f P d g b.1)
  each_holds f P d (fold t c) h = let b = both_hold _ _ h in (each_holds f P d t b.0, each_holds f P d c b.1)
  each_holds f P d (guard c x y) h = let b = both_hold _ _ h in let e = both_hold _ _ b.1 in (each_holds f P d c b.0, each_holds f P d x e.0, each_holds f P d y e.1)
  each_holds f P d (point p x y) h = let b = both_hold _ _ h in (each_holds f P d x b.0, each_holds f P d y b.1)
  each_holds f P d (invoke s n) h = d s n h

  all_hold : (f : ℕ → Signature → Bool) (P : ℕ → Signature → Type 0) → ((s : ℕ) (n : Signature) → f s n ≡ true → P s n) → (fs : Filters) → each_invokes f fs ≡ true → EachInvokes P fs
  all_hold f P d no_more h = tt
  all_hold f P d (absent fs) h = all_hold f P d fs h
  all_hold f P d (present g fs) h = let b = both_hold _ _ h in (each_holds f P d g b.0, all_hold f P d fs b.1)

mutual
  each_told : (f : ℕ → Signature → Bool) (P : ℕ → Signature → Type 0) → ((s : ℕ) (n : Signature) → P s n → f s n ≡ true) → (t : Tree) → EachInvoke P t → each_invoke f t ≡ true
  each_told f P d (constant x) e = refl
  each_told f P d (identity k) e = refl
  each_told f P d (operation o) e = refl
  each_told f P d (insert t p xs) e = each_told f P d t e
  each_told f P d (discard t p ks) e = each_told f P d t e
  each_told f P d (permute t m r) e = each_told f P d t e
  each_told f P d (filter t p fs) e = hold_both _ _ (each_told f P d t e.0) (all_told f P d fs e.1)
  each_told f P d (filter_return t g) e = hold_both _ _ (each_told f P d t e.0) (each_told f P d g e.1)
  each_told f P d (fold t c) e = hold_both _ _ (each_told f P d t e.0) (each_told f P d c e.1)
  each_told f P d (guard c x y) e = hold_both _ _ (each_told f P d c e.0) (hold_both _ _ (each_told f P d x e.1) (each_told f P d y e.2))
  each_told f P d (point p x y) e = hold_both _ _ (each_told f P d x e.0) (each_told f P d y e.1)
  each_told f P d (invoke s n) e = d s n e

  all_told : (f : ℕ → Signature → Bool) (P : ℕ → Signature → Type 0) → ((s : ℕ) (n : Signature) → P s n → f s n ≡ true) → (fs : Filters) → EachInvokes P fs → each_invokes f fs ≡ true
  all_told f P d no_more e = refl
  all_told f P d (absent fs) e = all_told f P d fs e
  all_told f P d (present g fs) e = hold_both _ _ (each_told f P d g e.0) (all_told f P d fs e.1)

pub each_decides : (f : ℕ → Signature → Bool) (P : ℕ → Signature → Type 0) → ((s : ℕ) (n : Signature) → Decides (f s n) (P s n)) → (t : Tree) → Decides (each_invoke f t) (EachInvoke P t)
each_decides f P d t = (each_holds f P (λ s n. (d s n).0) t, each_told f P (λ s n. (d s n).1) t)

-- facts that each hold of each invocation hold together
mutual
  pub each_both : (P Q : ℕ → Signature → Type 0) (t : Tree) → EachInvoke P t → EachInvoke Q t → EachInvoke (λ s n. P s n × Q s n) t
  each_both P Q (constant x) e f = tt
  each_both P Q (identity k) e f = tt
  each_both P Q (operation o) e f = tt
  each_both P Q (insert t p xs) e f = each_both P Q t e f
  each_both P Q (discard t p ks) e f = each_both P Q t e f
  each_both P Q (permute t m r) e f = each_both P Q t e f
  each_both P Q (filter t p fs) e f = (each_both P Q t e.0 f.0, all_both P Q fs e.1 f.1)
  each_both P Q (filter_return t g) e f = (each_both P Q t e.0 f.0, each_both P Q g e.1 f.1)
  each_both P Q (fold t c) e f = (each_both P Q t e.0 f.0, each_both P Q c e.1 f.1)
  each_both P Q (guard c x y) e f = (each_both P Q c e.0 f.0, each_both P Q x e.1 f.1, each_both P Q y e.2 f.2)
  each_both P Q (point p x y) e f = (each_both P Q x e.0 f.0, each_both P Q y e.1 f.1)
  each_both P Q (invoke s n) e f = (e, f)

  all_both : (P Q : ℕ → Signature → Type 0) (fs : Filters) → EachInvokes P fs → EachInvokes Q fs → EachInvokes (λ s n. P s n × Q s n) fs
  all_both P Q no_more e f = tt
  all_both P Q (absent fs) e f = all_both P Q fs e f
  all_both P Q (present g fs) e f = (each_both P Q g e.0 f.0, all_both P Q fs e.1 f.1)

-- a site below a number
abbrev pub IsBelow : ℕ → ℕ → Signature → Type 0
IsBelow k s n = s < k

-- the bound of a tree's sites is one more than the greatest
mutual
  pub sites_below : (k : ℕ) (t : Tree) → site_bound t ≤ k → EachInvoke (IsBelow k) t
  sites_below k (constant x) h = tt
  sites_below k (identity j) h = tt
  sites_below k (operation o) h = tt
  sites_below k (insert t p xs) h = sites_below k t h
  sites_below k (discard t p ks) h = sites_below k t h
  sites_below k (permute t m r) h = sites_below k t h
  sites_below k (filter t p fs) h = (sites_below k t (omega arith), all_below k fs (omega arith))
  sites_below k (filter_return t f) h = (sites_below k t (omega arith), sites_below k f (omega arith))
  sites_below k (fold t c) h = (sites_below k t (omega arith), sites_below k c (omega arith))
  sites_below k (guard c x y) h = (sites_below k c (omega arith), sites_below k x (omega arith), sites_below k y (omega arith))
  sites_below k (point p x y) h = (sites_below k x (omega arith), sites_below k y (omega arith))
  sites_below k (invoke s n) h = omega arith

  all_below : (k : ℕ) (fs : Filters) → greatest_site fs ≤ k → EachInvokes (IsBelow k) fs
  all_below k no_more h = tt
  all_below k (absent fs) h = all_below k fs h
  all_below k (present f fs) h = (sites_below k f (omega arith), all_below k fs (omega arith))

mutual
  pub below_bounds : (k : ℕ) (t : Tree) → EachInvoke (IsBelow k) t → site_bound t ≤ k
  below_bounds k (constant x) e = omega arith
  below_bounds k (identity j) e = omega arith
  below_bounds k (operation o) e = omega arith
  below_bounds k (insert t p xs) e = below_bounds k t e
  below_bounds k (discard t p ks) e = below_bounds k t e
  below_bounds k (permute t m r) e = below_bounds k t e
  below_bounds k (filter t p fs) e = omega (arith, below_bounds k t e.0, below_all k fs e.1)
  below_bounds k (filter_return t f) e = omega (arith, below_bounds k t e.0, below_bounds k f e.1)
  below_bounds k (fold t c) e = omega (arith, below_bounds k t e.0, below_bounds k c e.1)
  below_bounds k (guard c x y) e = omega (arith, below_bounds k c e.0, below_bounds k x e.1, below_bounds k y e.2)
  below_bounds k (point p x y) e = omega (arith, below_bounds k x e.0, below_bounds k y e.1)
  below_bounds k (invoke s n) e = omega (arith, e)

  below_all : (k : ℕ) (fs : Filters) → EachInvokes (IsBelow k) fs → greatest_site fs ≤ k
  below_all k no_more e = omega arith
  below_all k (absent fs) e = below_all k fs e
  below_all k (present f fs) e = omega (arith, below_bounds k f e.0, below_all k fs e.1)
