-- A tree's JSON has no float.
use Rattle.std.proofs.Common.{◌≡◌, refl, ℕ, ℤ, pos, negsuc, false, List, [], ◌∷◌, map}
use Rattle.serde_json.specs.Data.{number}
use Rattle.serde_json.specs.Find.{of_integer}
use Rattle.serde_json.specs.View.{items_of}
use Rattle.serde_json.specs.Written.{has_float, items_have_float}
use Rattle.mh_type.specs.declared.kind.Kind.{Kind}
use Rattle.mh_type.specs.declared.value.Value.{Value}
use Rattle.mh_type.specs.declared.value.Value.TheVariants.{Int, Long, Boolean, Text}
use Rattle.mh_tree.specs.Tree.{Tree, Filters, constant, identity, operation, insert, discard, permute, filter, filter_return, fold, guard, point, invoke, no_more, absent, present}
use Rattle.mh_site.specs.Defined.{DefinitionData}
use Rattle.mh_json.specs.ValueData.{value_data, kind_data, place_data}
use Rattle.mh_json.specs.TreeData.{tree_data, filters_data}

number_has_none : (z : ℤ) → has_float (number (of_integer z)) ≡ false
number_has_none (pos n) = refl
number_has_none (negsuc n) = refl

value_has_none : (x : Value) → has_float (value_data x) ≡ false
value_has_none (Int z) = number_has_none z
value_has_none (Long z) = number_has_none z
value_has_none (Boolean truth) = refl
value_has_none (Text bytes) = refl

values_have_none : (xs : List Value) → items_have_float (items_of (map value_data xs)) ≡ false
values_have_none [] = refl
values_have_none (x ∷ xs) = rw (value_has_none x) (values_have_none xs)

kinds_have_none : (ks : List Kind) → items_have_float (items_of (map kind_data ks)) ≡ false
kinds_have_none [] = refl
kinds_have_none (k ∷ ks) = kinds_have_none ks

places_have_none : (ps : List ℕ) → items_have_float (items_of (map place_data ps)) ≡ false
places_have_none [] = refl
places_have_none (p ∷ ps) = places_have_none ps

mutual
  pub has_no_float : (d : DefinitionData) (t : Tree) → has_float (tree_data d t) ≡ false
  has_no_float d (constant x) = rw (value_has_none x) refl
  has_no_float d (identity k) = refl
  has_no_float d (operation o) = refl
  has_no_float d (insert t p xs) = rw (has_no_float d t, values_have_none xs) refl
  has_no_float d (discard t p ks) = rw (has_no_float d t, kinds_have_none ks) refl
  has_no_float d (permute t m r) = rw (has_no_float d t, places_have_none r) refl
  has_no_float d (filter t p fs) = rw (has_no_float d t, filters_have_none d fs) refl
  has_no_float d (filter_return t f) = rw (has_no_float d t, has_no_float d f) refl
  has_no_float d (fold t c) = rw (has_no_float d t, has_no_float d c) refl
  has_no_float d (guard c x y) = rw (has_no_float d c, has_no_float d x, has_no_float d y) refl
  has_no_float d (point p x y) = rw (has_no_float d x, has_no_float d y) refl
  has_no_float d (invoke s m) = refl

  filters_have_none : (d : DefinitionData) (fs : Filters) → items_have_float (filters_data d fs) ≡ false
  filters_have_none d no_more = refl
  filters_have_none d (absent fs) = filters_have_none d fs
  filters_have_none d (present f fs) = rw (has_no_float d f) (filters_have_none d fs)
