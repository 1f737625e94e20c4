-- The work of preparing a typed tree is linear in its size: a filter has at most 16 elements.
use Rattle.std.proofs.Common.{◌+◌, ◌*◌, ◌≤◌, List, [], ◌∷◌, arith, length-drop}
use Rattle.mh_type.specs.declared.kind.Kind.{Kind}
use Rattle.mh_type.specs.Signature.{Signature}
use Rattle.mh_tree.specs.Limits.{size, total_size}
use Rattle.mh_tree.specs.Tree.{Tree, Filters, constant, identity, operation, insert, discard, permute, filter, filter_return, fold, guard, point, invoke, no_more, absent, present}
use Rattle.mh_tree.specs.Typing.{IsTyped, AreTyped}
use Rattle.mh_tree.specs.Laws.Effort.{effort, total_effort}
use Rattle.mh_tree.specs.Laws.LeadingArguments.{count, counted}
use Rattle.mh_tree.specs.Laws.Types.{few_parameters}

mutual
  pub few_efforts : (t : Tree) (m : Signature) → IsTyped t m → effort t ≤ 17 * size t
  few_efforts (constant x) m h = omega arith
  few_efforts (identity k) m h = omega arith
  few_efforts (operation o) m h = omega arith
  few_efforts (insert t p xs) m (n, typed, inserts) = omega (arith, few_efforts t n typed)
  few_efforts (discard t p ks) m (n, typed, discards) = omega (arith, few_efforts t n typed)
  few_efforts (permute t new_type r) m (n, typed, reorders, made) = omega (arith, few_efforts t n typed)
  few_efforts (filter t p fs) m (n, typed, inside, returns, firsts, filters) =
      omega (arith, few_efforts t n typed, filter_efforts fs _ _ filters, counted fs _ _ filters, few_parameters t n typed, length-drop p n.parameters)
  few_efforts (filter_return t f) m (k, typed, last) = omega (arith, few_efforts t _ typed, few_efforts f _ last)
  few_efforts (fold t c) m (k, ks, typed, combiner, begins) = omega (arith, few_efforts t _ typed, few_efforts c _ combiner)
  few_efforts (guard c x y) m (ks, test, begins, one, two) = omega (arith, few_efforts c _ test, few_efforts x m one, few_efforts y m two)
  few_efforts (point p x y) m (one, two) = omega (arith, few_efforts x m one, few_efforts y m two)
  few_efforts (invoke s n) m h = omega arith

  filter_efforts : (fs : Filters) (old new : List Kind) → AreTyped fs old new → total_effort fs ≤ count fs + 17 * total_size fs
  filter_efforts no_more old new h = omega arith
  filter_efforts (absent fs) (z ∷ old) (j ∷ new) h = omega (arith, filter_efforts fs old new h.1)
  filter_efforts (absent fs) [] new h = absurd h
  filter_efforts (absent fs) (z ∷ old) [] h = absurd h
  filter_efforts (present f fs) (z ∷ old) (j ∷ new) h = omega (arith, few_efforts f _ h.0, filter_efforts fs old new h.1)
  filter_efforts (present f fs) [] new h = absurd h
  filter_efforts (present f fs) (z ∷ old) [] h = absurd h
