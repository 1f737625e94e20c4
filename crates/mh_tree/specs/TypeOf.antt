-- The type of a tree, computed from its parts.
use Rattle.std.specs.Prelude.{ℕ, ◌+◌, List, [], ◌∷◌, length, slice_set}
use Rattle.mh_type.specs.declared.kind.Kind.{Kind}
use Rattle.mh_type.specs.Kinds.{kind_of}
use Rattle.mh_type.specs.Operations.{op_signature}
use Rattle.mh_type.specs.Signature.{Signature, with_parameters, without_parameters}
use Rattle.mh_tree.specs.Tree.{Tree, Filters, constant, identity, operation, insert, discard, permute, filter, filter_return, fold, guard, point, invoke, no_more, absent, present}
use Rattle.mh_tree.specs.Typing.{kind_at}

abbrev mutual
  -- the type that a typed tree has
  pub type_of : Tree → Signature
  type_of (constant x) = record { ret = kind_of x; parameters = [] }
  type_of (identity k) = record { ret = k; parameters = k ∷ [] }
  type_of (operation o) = op_signature o
  type_of (insert t p xs) = record { ret = (type_of t).ret; parameters = without_parameters (type_of t).parameters p (length xs) }
  type_of (discard t p ks) = record { ret = (type_of t).ret; parameters = with_parameters (type_of t).parameters p ks }
  type_of (permute t m r) = m
  type_of (filter t p fs) = record { ret = (type_of t).ret; parameters = filtered_kinds fs p (type_of t).parameters }
  type_of (filter_return t f) = record { ret = (type_of f).ret; parameters = (type_of t).parameters }
  type_of (fold t c) = record { ret = (type_of t).ret; parameters = without_parameters (type_of t).parameters 0 1 }
  type_of (guard c x y) = type_of x
  type_of (point p x y) = type_of x
  type_of (invoke s n) = n

  -- the kinds after the filters from position p on: each filter's parameter replaces that of the target
  pub filtered_kinds : Filters → ℕ → List Kind → List Kind
  filtered_kinds no_more p ks = ks
  filtered_kinds (absent fs) p ks = filtered_kinds fs (p + 1) ks
  filtered_kinds (present f fs) p ks = filtered_kinds fs (p + 1) (slice_set ks p (kind_at (type_of f).parameters 0))
