-- One more entry over a cache passes the tests of its guard.
use Rattle.std.proofs.Common.{◌≡◌, ℕ, ◌<◌, ◌≤◌, ◌∙◌, refl, ap, sym, arith, List, [], ◌∷◌, ◌++◌, take, length, Ok}
use Rattle.mh_type.specs.declared.kind.Kind.TheVariants as kind
use Rattle.mh_type.specs.Kinds.{kind_of}
use Rattle.mh_type.specs.Signature.{Signature}
use Rattle.mh_tree.specs.Constructors.{guard_made, pointed, point_made}
use Rattle.mh_tree.specs.Handle.{TypedTree, IsDeclared}
use Rattle.mh_tree.specs.Limits.{depth, size}
use Rattle.mh_tree.specs.Tree.{Tree, guard}
use Rattle.mh_tree.specs.Typing.{IsTyped, kind_at}
use Rattle.mh_pic.specs.Keys.{key_test}
use Rattle.mh_pic.specs.Chains.{PlainEntry, points}
use Rattle.mh_pic.specs.Specialised.{specialised}
use Rattle.mh_pic.specs.Laws.Bounds.{points_depth, points_size, specialised_depth, specialised_size, test_depth, test_size}
use Rattle.mh_pic.specs.Laws.Chains.{begins}
use Rattle.mh_pic.proofs.Passing.{guard_passed, point_passed}

module _ (m : Signature) (q : ℕ) (e : PlainEntry) (base : Tree) where
  -- the test of an entry, and its tree behind its points
  abbrev pub tested : TypedTree
  tested = record { tree = key_test (take q m.parameters) e.key; signature = record { ret = kind.Boolean; parameters = take q m.parameters ++ (kind_of e.key ∷ []) } }

  abbrev pub cached : TypedTree
  cached = record { tree = points e.needs (specialised e.needs (take q m.parameters) e.key base) base; signature = m }

  pub specialised_declared : IsDeclared (record { tree = base; signature = m }) → (h : TypedTree) → h.tree ≡ specialised e.needs (take q m.parameters) e.key base → IsDeclared h
  specialised_declared declared h is = record {
    shallow = omega (arith, ap depth is, specialised_depth e.needs (take q m.parameters) e.key base, declared.shallow);
    small = omega (arith, ap size is, specialised_size e.needs (take q m.parameters) e.key base, declared.small);
  }

  -- the guard of the entry, over the cache of the others
  abbrev pub linked : Tree → TypedTree
  linked others = record { tree = guard tested.tree cached.tree others; signature = m }

  pub link_passed : IsDeclared (record { tree = base; signature = m }) → IsTyped base m → q < length m.parameters → length m.parameters ≤ 16
      → kind_of e.key ≡ kind_at m.parameters q → length e.needs ≤ 8 → (others : TypedTree) → others.signature ≡ m → depth others.tree ≤ 76 → size others.tree ≤ 151600
      → (c x : TypedTree) → c ≡ tested → x ≡ cached → guard_made c x others ≡ Ok (linked others.tree)
  link_passed declared typed inside few key needs others same shallow small c x test target =
      let kinds = take q m.parameters in
      let deep = points_depth e.needs (specialised e.needs kinds e.key base) base 64 (omega (arith, specialised_depth e.needs kinds e.key base, declared.shallow)) declared.shallow in
      let large = points_size e.needs (specialised e.needs kinds e.key base) base 4096 (omega (arith, specialised_size e.needs kinds e.key base, declared.small)) declared.small in
      (λ i. guard_made (test i) (target i) others)
      ∙ guard_passed tested cached others refl (sym same) (begins m q inside few base typed e.key key)
      (omega (arith, few, ap (λ (n : Signature). length n.parameters) same))
      (omega (arith, test_depth kinds e.key, deep, needs, shallow))
      (omega (arith, test_size kinds e.key, large, needs, small))

-- one more point before a tree that stands behind others
pub points_passed : (p : ℕ) (rest : List ℕ) (target base inner : TypedTree) → IsDeclared target → IsDeclared base
    → length base.signature.parameters ≤ 16 → length rest ≤ 7
    → inner ≡ record { tree = points rest target.tree base.tree; signature = base.signature }
    → point_made p inner base ≡ Ok (record { tree = points (p ∷ rest) target.tree base.tree; signature = base.signature })
points_passed p rest target base inner first second few short is =
    let tree = ap (λ (h : TypedTree). h.tree) is in
    let deep = points_depth rest target.tree base.tree 64 first.shallow second.shallow in
    let large = points_size rest target.tree base.tree 4096 first.small second.small in
    point_passed p inner base (ap (λ (h : TypedTree). h.signature) is) few
    (omega (arith, ap depth tree, deep, short, second.shallow))
    (omega (arith, ap size tree, large, short, second.small))
    ∙ (λ i. Ok (pointed p (is i) base))
