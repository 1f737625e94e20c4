-- The type of a tree, by one case for each combinator (the type conditions in `java.lang.invoke.MethodHandles`, `SwitchPoint` and
-- `MutableCallSite`, Java SE 17). A type has at most 16 parameters.
use Rattle.std.specs.Prelude.{◌≡◌, ℕ, ◌+◌, ◌<◌, ◌≤◌, List, [], ◌∷◌, take, drop, map, length, slice_index_or}
use Rattle.std.specs.List.{All}
use Rattle.mh_type.specs.declared.kind.Kind.{Kind}
use Rattle.mh_type.specs.declared.kind.Kind.TheVariants as kind
use Rattle.mh_type.specs.declared.value.Value.{Value}
use Rattle.mh_type.specs.Kinds.{kind_of}
use Rattle.mh_type.specs.Operations.{op_signature}
use Rattle.mh_type.specs.Signature.{Signature, with_parameters, without_parameters}
use Rattle.mh_tree.specs.Tree.{Tree, Filters, constant, identity, operation, insert, discard, permute, filter, filter_return, fold, guard, point, invoke, no_more, absent, present}
use Rattle.mh_type.specs.Limits.{most_parameters}

-- a list begins with another
abbrev pub BeginsWith : List Kind → List Kind → Type 0
BeginsWith kinds first = first ≡ take (length first) kinds

-- values at some positions of a type n, which leave the type m (`MethodHandles.insertArguments`)
pub record Inserts (n : Signature) (p : ℕ) (xs : List Value) (m : Signature) : Type 0 where
  pub inside : p + length xs ≤ length n.parameters
  pub kinds : map kind_of xs ≡ take (length xs) (drop p n.parameters)
  pub made : m ≡ record { ret = n.ret; parameters = without_parameters n.parameters p (length xs) }

-- parameters that are added to those of a type n, at most 16 in all (`MethodHandles.dropArguments`)
pub record Discards (n : Signature) (p : ℕ) (ks : List Kind) (m : Signature) : Type 0 where
  pub inside : p ≤ length n.parameters
  pub few : length n.parameters + length ks ≤ most_parameters
  pub made : m ≡ record { ret = n.ret; parameters = with_parameters n.parameters p ks }

-- the kind at a position
abbrev pub kind_at : List Kind → ℕ → Kind
kind_at kinds i = slice_index_or kinds i kind.Int

-- parameter i of n is parameter r[i] of m (`MethodHandles.permuteArguments`)
pub record Reorders (n m : Signature) (r : List ℕ) : Type 0 where
  pub returns : n.ret ≡ m.ret
  pub inside : All (λ i. i < length m.parameters) r
  pub few : length m.parameters ≤ most_parameters
  pub same : n.parameters ≡ map (λ i. kind_at m.parameters i) r

abbrev mutual
  -- the tree has the type
  pub IsTyped : Tree → Signature → Type 0
  IsTyped (constant x) m = m ≡ record { ret = kind_of x; parameters = [] }
  IsTyped (identity k) m = m ≡ record { ret = k; parameters = k ∷ [] }
  IsTyped (operation o) m = m ≡ op_signature o
  IsTyped (insert t p xs) m = (n : Signature) × IsTyped t n × Inserts n p xs m
  IsTyped (discard t p ks) m = (n : Signature) × IsTyped t n × Discards n p ks m
  IsTyped (permute t new_type r) m = (n : Signature) × IsTyped t n × Reorders n m r × (m ≡ new_type)
  IsTyped (filter t p fs) m =
      (n : Signature) × IsTyped t n × (p ≤ length n.parameters) × (m.ret ≡ n.ret)
      × (take p m.parameters ≡ take p n.parameters) × AreTyped fs (drop p n.parameters) (drop p m.parameters)
  IsTyped (filter_return t f) m =
      (k : Kind) × IsTyped t (record { ret = k; parameters = m.parameters }) × IsTyped f (record { ret = m.ret; parameters = k ∷ [] })
  IsTyped (fold t c) m =
      (k : Kind) × (ks : List Kind) × IsTyped t (record { ret = m.ret; parameters = k ∷ m.parameters })
      × IsTyped c (record { ret = k; parameters = ks }) × BeginsWith m.parameters ks
  IsTyped (guard c x y) m =
      (ks : List Kind) × IsTyped c (record { ret = kind.Boolean; parameters = ks }) × BeginsWith m.parameters ks
      × IsTyped x m × IsTyped y m
  IsTyped (point p x y) m = IsTyped x m × IsTyped y m
  IsTyped (invoke s n) m = (length n.parameters ≤ most_parameters) × (m ≡ n)

  -- filters of the target's parameters from their first position on, and the parameters that replace these
  -- (`MethodHandles.filterArguments`): a filter has one parameter, and returns the kind that it replaces
  pub AreTyped : Filters → List Kind → List Kind → Type 0
  AreTyped no_more old new = new ≡ old
  AreTyped (absent fs) (k ∷ old) (j ∷ new) = (j ≡ k) × AreTyped fs old new
  AreTyped (present f fs) (k ∷ old) (j ∷ new) = IsTyped f (record { ret = k; parameters = j ∷ [] }) × AreTyped fs old new
  AreTyped _ _ _ = ⊥
