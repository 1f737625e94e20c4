-- A tree's JSON nests less than twice as deep as the tree.
use Rattle.std.proofs.Common.{◌≡◌, refl, ℕ, ◌+◌, ◌*◌, ◌≤◌, List, [], ◌∷◌, map, arith}
use Rattle.std.specs.Prelude.{max}
use Rattle.serde_json.specs.Data.{items_depth, depth as nesting}
use Rattle.serde_json.specs.View.{items_of}
use Rattle.mh_type.specs.declared.kind.Kind.{Kind}
use Rattle.mh_type.specs.declared.value.Value.{Value}
use Rattle.mh_type.specs.declared.value.Value.TheVariants.{Int, Long, Boolean, Text}
use Rattle.mh_tree.specs.Limits.{depth, deepest}
use Rattle.mh_tree.specs.Tree.{Tree, Filters, constant, identity, operation, insert, discard, permute, filter, filter_return, fold, guard, point, invoke, no_more, absent, present}
use Rattle.mh_site.specs.Defined.{DefinitionData}
use Rattle.mh_json.specs.ValueData.{value_data, kind_data, place_data}
use Rattle.mh_json.specs.TreeData.{tree_data, filters_data}

value_is_flat : (x : Value) → nesting (value_data x) ≡ 0
value_is_flat (Int z) = refl
value_is_flat (Long z) = refl
value_is_flat (Boolean truth) = refl
value_is_flat (Text bytes) = refl

values_are_flat : (xs : List Value) → items_depth (items_of (map value_data xs)) ≡ 0
values_are_flat [] = refl
values_are_flat (x ∷ xs) = omega (arith, value_is_flat x, values_are_flat xs)

kinds_are_flat : (ks : List Kind) → items_depth (items_of (map kind_data ks)) ≡ 0
kinds_are_flat [] = refl
kinds_are_flat (k ∷ ks) = omega (arith, kinds_are_flat ks)

places_are_flat : (ps : List ℕ) → items_depth (items_of (map place_data ps)) ≡ 0
places_are_flat [] = refl
places_are_flat (p ∷ ps) = omega (arith, places_are_flat ps)

mutual
  pub nests : (d : DefinitionData) (t : Tree) → nesting (tree_data d t) + 1 ≤ 2 * depth t
  nests d (constant x) = omega (arith, value_is_flat x)
  nests d (identity k) = omega arith
  nests d (operation o) = omega arith
  nests d (insert t p xs) = omega (arith, nests d t, values_are_flat xs)
  nests d (discard t p ks) = omega (arith, nests d t, kinds_are_flat ks)
  nests d (permute t m r) = omega (arith, nests d t, places_are_flat r)
  nests d (filter t p fs) = omega (arith, nests d t, filters_nest d fs)
  nests d (filter_return t f) = omega (arith, nests d t, nests d f)
  nests d (fold t c) = omega (arith, nests d t, nests d c)
  nests d (guard c x y) = omega (arith, nests d c, nests d x, nests d y)
  nests d (point p x y) = omega (arith, nests d x, nests d y)
  nests d (invoke s m) = omega arith

  filters_nest : (d : DefinitionData) (fs : Filters) → items_depth (filters_data d fs) + 1 ≤ max 1 (2 * deepest fs)
  filters_nest d no_more = omega arith
  filters_nest d (absent fs) = omega (arith, filters_nest d fs)
  filters_nest d (present f fs) = omega (arith, nests d f, filters_nest d fs)
