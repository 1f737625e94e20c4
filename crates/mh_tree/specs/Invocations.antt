-- The invocations of a tree: facts that hold of each, and tests of each.
use Rattle.std.specs.Prelude.{ℕ, Bool, true, ◌&&◌}
use Rattle.mh_type.specs.Signature.{Signature}
use Rattle.mh_tree.specs.Tree.{Tree, Filters, constant, identity, operation, insert, discard, permute, filter, filter_return, fold, guard, point, invoke, no_more, absent, present}

abbrev mutual
  -- P holds of each invocation in the tree, given its site and its type
  pub EachInvoke : (ℕ → Signature → Type 0) → Tree → Type 0
  EachInvoke P (constant x) = Unit {0}
  EachInvoke P (identity k) = Unit {0}
  EachInvoke P (operation o) = Unit {0}
  EachInvoke P (insert t p xs) = EachInvoke P t
  EachInvoke P (discard t p ks) = EachInvoke P t
  EachInvoke P (permute t m r) = EachInvoke P t
  EachInvoke P (filter t p fs) = EachInvoke P t × EachInvokes P fs
  EachInvoke P (filter_return t f) = EachInvoke P t × EachInvoke P f
  EachInvoke P (fold t c) = EachInvoke P t × EachInvoke P c
  EachInvoke P (guard c x y) = EachInvoke P c × EachInvoke P x × EachInvoke P y
  EachInvoke P (point p x y) = EachInvoke P x × EachInvoke P y
  EachInvoke P (invoke s n) = P s n

  pub EachInvokes : (ℕ → Signature → Type 0) → Filters → Type 0
  EachInvokes P no_more = Unit {0}
  EachInvokes P (absent fs) = EachInvokes P fs
  EachInvokes P (present f fs) = EachInvoke P f × EachInvokes P fs

abbrev mutual
  -- whether a test of a site and a type passes for each invocation in the tree
  pub each_invoke : (ℕ → Signature → Bool) → Tree → Bool
  each_invoke f (constant x) = true
  each_invoke f (identity k) = true
  each_invoke f (operation o) = true
  each_invoke f (insert t p xs) = each_invoke f t
  each_invoke f (discard t p ks) = each_invoke f t
  each_invoke f (permute t m r) = each_invoke f t
  each_invoke f (filter t p fs) = each_invoke f t && each_invokes f fs
  each_invoke f (filter_return t g) = each_invoke f t && each_invoke f g
  each_invoke f (fold t c) = each_invoke f t && each_invoke f c
  each_invoke f (guard c x y) = each_invoke f c && (each_invoke f x && each_invoke f y)
  each_invoke f (point p x y) = each_invoke f x && each_invoke f y
  each_invoke f (invoke s n) = f s n

  pub each_invokes : (ℕ → Signature → Bool) → Filters → Bool
  each_invokes f no_more = true
  each_invokes f (absent fs) = each_invokes f fs
  each_invokes f (present g fs) = each_invoke f g && each_invokes f fs
