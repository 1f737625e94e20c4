-- A site's inline cache as a tree (Hölzle, Chambers, Ungar 1991, polymorphic inline caches; `MethodHandles.guardWithTest` and
-- `SwitchPoint.guardWithTest`, Java SE 17): specialised trees, each guarded by its key test and its points, and finally the base tree.
use Rattle.std.specs.Prelude.{◌≡◌, ℕ, ◌<◌, ◌≤◌, List, [], ◌∷◌, length}
use Rattle.std.specs.List.{All}
use Rattle.mh_type.specs.declared.kind.Kind.{Kind}
use Rattle.mh_type.specs.declared.value.Value.{Value}
use Rattle.mh_type.specs.Fits.{Fits}
use Rattle.mh_type.specs.Kinds.{kind_of}
use Rattle.mh_type.specs.Signature.{Signature}
use Rattle.mh_tree.specs.Meaning.{mean}
use Rattle.mh_tree.specs.Tree.{Tree, guard, point}
use Rattle.mh_tree.specs.Typing.{IsTyped, kind_at}
use Rattle.mh_pic.specs.Keys.{key_test}
use Rattle.mh_pic.specs.Specialised.{specialised}
use Rattle.mh_base.specs.Limits.{most_needs}
use Rattle.mh_pic.specs.Limits.{most_entries}
use Rattle.mh_tree.specs.Environment.{Environment}
use Rattle.mh_tree.specs.Handle.{TypedTree}
use Rattle.mh_tree.specs.Sites.{target_at}

-- a key, and the points that its tree needs, ascending
pub record PlainEntry : Type 0 where
  pub key : Value
  pub needs : List ℕ

-- the tree x while all these points are valid, and otherwise the base
abbrev pub points : List ℕ → Tree → Tree → Tree
points [] x base = x
points (p ∷ rest) x base = point p (points rest x base) base

-- the cache that holds these entries, over kinds before the key position
abbrev pub chain : List Kind → Tree → List PlainEntry → Tree
chain kinds base [] = base
chain kinds base (e ∷ rest) =
    guard (key_test kinds e.key) (points e.needs (specialised e.needs kinds e.key base) base) (chain kinds base rest)

-- the tree has the other's type, and returns what the other returns, whichever points are valid and whatever sites return
pub record IsFaithful (tree base : Tree) (m : Signature) : Type 0 where
  pub typed : IsTyped tree m
  pub same : (v : Environment) (a : List Value) → Fits m a → mean v tree a ≡ mean v base a

-- each tree replaces a base, and is faithful to it
abbrev pub AreFaithful : List TypedTree → List TypedTree → Type 0
AreFaithful trees bases = (s : ℕ) → s < length bases → IsFaithful (target_at trees s).tree (target_at bases s).tree (target_at bases s).signature

-- the keys are of one kind
abbrev pub HaveKind : Kind → List PlainEntry → Type 0
HaveKind k entries = All (λ (e : PlainEntry). kind_of e.key ≡ k) entries

-- an entry has at most 8 needs
abbrev pub HaveFewNeeds : List PlainEntry → Type 0
HaveFewNeeds entries = All (λ (e : PlainEntry). length e.needs ≤ most_needs) entries

-- each need is below n
abbrev pub HaveNeedsBelow : ℕ → List PlainEntry → Type 0
HaveNeedsBelow n entries = All (λ (e : PlainEntry). All (λ p. p < n) e.needs) entries

-- entries that a base of type m may have for position q: at most 4, each with a key of the position's kind and at most 8 needs
pub record MayChain (m : Signature) (q : ℕ) (entries : List PlainEntry) : Type 0 where
  pub inside : q < length m.parameters
  pub few : length entries ≤ most_entries
  pub keys : HaveKind (kind_at m.parameters q) entries
  pub few_needs : HaveFewNeeds entries
