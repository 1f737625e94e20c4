-- Handle trees as plain data: one case for each combinator (`java.lang.invoke.MethodHandles`, `SwitchPoint` and `MutableCallSite`, Java SE 17).
use Rattle.std.specs.Prelude.{ℕ, List, [], ◌∷◌, Option, Some, None}
use Rattle.mh_type.specs.declared.kind.Kind.{Kind}
use Rattle.mh_type.specs.declared.operation.Op.{Op}
use Rattle.mh_type.specs.declared.value.Value.{Value}
use Rattle.mh_type.specs.Signature.{Signature}

mutual
  pub data Tree : Type 0 where
    -- `MethodHandles.constant`: the value
    constant : Value → Tree
    -- `MethodHandles.identity`: the kind
    identity : Kind → Tree
    -- a leaf operation
    operation : Op → Tree
    -- `MethodHandles.insertArguments`: target, position, values
    insert : Tree → ℕ → List Value → Tree
    -- `MethodHandles.dropArguments`: target, position, kinds
    discard : Tree → ℕ → List Kind → Tree
    -- `MethodHandles.permuteArguments`: target, new type, reordering
    permute : Tree → Signature → List ℕ → Tree
    -- `MethodHandles.filterArguments`: target, position, filters
    filter : Tree → ℕ → Filters → Tree
    -- `MethodHandles.filterReturnValue`: target, filter
    filter_return : Tree → Tree → Tree
    -- `MethodHandles.foldArguments`: target, combiner
    fold : Tree → Tree → Tree
    -- `MethodHandles.guardWithTest`: test, target, fallback
    guard : Tree → Tree → Tree → Tree
    -- `SwitchPoint.guardWithTest`: point, target, fallback
    point : ℕ → Tree → Tree → Tree
    -- `MutableCallSite.dynamicInvoker`: site, type
    invoke : ℕ → Signature → Tree

  -- a filter, or none, for each position
  pub data Filters : Type 0 where
    no_more : Filters
    absent : Filters → Filters
    present : Tree → Filters → Filters

-- a list of filters, of which some may be missing
abbrev pub filters_of : List (Option Tree) → Filters
filters_of [] = no_more
filters_of (None ∷ rest) = absent (filters_of rest)
filters_of (Some tree ∷ rest) = present tree (filters_of rest)
