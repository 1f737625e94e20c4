-- A tree as JSON: a list of a word and its parts, with one form for each combinator.
use Rattle.std.specs.Prelude.{ℕ, List, [], ◌∷◌, Option, Some, None, codes}
use Rattle.serde_json.specs.Data.{Data, Items, null, string, array, no_items, item}
use Rattle.serde_json.specs.View.{items_of}
use Rattle.serde_json.specs.Written.{compact_text}
use Rattle.mh_type.specs.declared.kind.Kind.{Kind}
use Rattle.mh_type.specs.declared.operation.Op.{Op}
use Rattle.mh_type.specs.declared.value.Value.{Value}
use Rattle.mh_type.specs.Display.{op_name}
use Rattle.mh_type.specs.Kinds.{kind_of}
use Rattle.mh_type.specs.Written.{written}
use Rattle.mh_tree.specs.Tree.{Tree, Filters, constant, identity, operation, insert, discard, permute, filter, filter_return, fold, guard, point, invoke, no_more, absent, present}
use Rattle.mh_site.specs.Defined.{DefinitionData, point_at, site_at}
use Rattle.mh_json.specs.ValueData.{value_data, kind_data, place_data, values_data, kinds_data, places_data}

-- a word, and the parts that it heads
abbrev pub form : List ℕ → List Data → Data
form word parts = array (items_of (string word ∷ parts))

-- the name of a point, empty past the last
abbrev pub point_name_data : DefinitionData → ℕ → Data
point_name_data d p = string (point_at d p).name

-- the name of a site, empty past the last
abbrev pub site_name_data : DefinitionData → ℕ → Data
site_name_data d s = string (site_at d s).name

-- KIND, VALUE
abbrev pub constant_data : Value → Data
constant_data x = form (codes "const") (kind_data (kind_of x) ∷ value_data x ∷ [])

-- KIND
abbrev pub identity_data : Kind → Data
identity_data k = form (codes "id") (kind_data k ∷ [])

-- NAME
abbrev pub operation_data : Op → Data
operation_data o = form (codes "op") (string (op_name o) ∷ [])

-- NAME
abbrev pub invocation_data : DefinitionData → ℕ → Data
invocation_data d s = form (codes "invoke") (site_name_data d s ∷ [])

abbrev mutual
  -- the form of a tree, over the names of a definition
  pub tree_data : DefinitionData → Tree → Data
  tree_data d (constant x) = constant_data x
  tree_data d (identity k) = identity_data k
  tree_data d (operation o) = operation_data o
  tree_data d (insert t p xs) = form (codes "insert") (tree_data d t ∷ place_data p ∷ values_data xs ∷ [])
  tree_data d (discard t p ks) = form (codes "drop") (tree_data d t ∷ place_data p ∷ kinds_data ks ∷ [])
  tree_data d (permute t m r) = form (codes "permute") (tree_data d t ∷ string (written m) ∷ places_data r ∷ [])
  tree_data d (filter t p fs) = form (codes "filter") (tree_data d t ∷ place_data p ∷ array (filters_data d fs) ∷ [])
  tree_data d (filter_return t f) = form (codes "return") (tree_data d t ∷ tree_data d f ∷ [])
  tree_data d (fold t c) = form (codes "fold") (tree_data d t ∷ tree_data d c ∷ [])
  tree_data d (guard c x y) = form (codes "guard") (tree_data d c ∷ tree_data d x ∷ tree_data d y ∷ [])
  tree_data d (point p x y) = form (codes "point") (point_name_data d p ∷ tree_data d x ∷ tree_data d y ∷ [])
  tree_data d (invoke s m) = invocation_data d s

  -- a filter, or null, at each place
  pub filters_data : DefinitionData → Filters → Items
  filters_data d no_more = no_items
  filters_data d (absent fs) = item null (filters_data d fs)
  filters_data d (present f fs) = item (tree_data d f) (filters_data d fs)

-- a filter, or null for none
abbrev pub filter_data : DefinitionData → Option Tree → Data
filter_data d None = null
filter_data d (Some f) = tree_data d f

-- the text of a tree without spaces
abbrev pub tree_text : DefinitionData → Tree → List ℕ
tree_text d t = compact_text (tree_data d t)
