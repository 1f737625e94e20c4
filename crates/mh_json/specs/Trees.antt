-- The tree that a JSON value is.
use Rattle.std.specs.Prelude.{ℕ, ◌+◌, ◌^◌, ◌-◌, min, List, [], ◌∷◌, drop, Option, Some, None, Result, Ok, Err, codes, is_some, if◌then◌else◌}
use Rattle.std.specs.List.{slice_get}
use Rattle.serde_json.specs.Data.{Data, null, boolean, number, string, array, object, Items, no_items, item}
use Rattle.serde_json.specs.Find.{as_null}
use Rattle.serde_json.specs.View.{view}
use Rattle.serde_json.specs.declared.value.Value.{Value}
use Rattle.mh_base.specs.Words.{at_word}
use Rattle.mh_tree.specs.Handle.{TypedTree}
use Rattle.mh_tree.specs.Constructors.{constant_made, identity_made, op_made, insert_made, drop_made, permute_made, filter_made, filter_return_made, fold_made, guard_made, point_made, declared_made, invoke_made}
use Rattle.mh_json.specs.declared.fault.InputFault.TheVariants.{BadShape, UnknownShared, UnknownSite}
use Rattle.mh_json.specs.declared.json.scope.Scope.{Scope}
use Rattle.mh_json.specs.Gives.{◌>>=◌, or_fault, caused, of_tree}
use Rattle.mh_json.specs.Misreads.{MisreadData, here, under}
use Rattle.mh_json.specs.declared.key.Key.TheVariants.{Item}
use Rattle.mh_site.specs.NamesInOrder.{place_of}
use Rattle.mh_json.specs.Shape.{text_of, count_of, counts_of}
use Rattle.mh_json.specs.Values.{kind_of, kinds_of, type_of, op_of, value_of_kind, values_for}

-- a value, its reading as a tree, and its reading as a list of filters
pub record Part : Type 0 where
  pub value : Data
  pub tree : Result TypedTree MisreadData
  pub filters : Result (List (Option TypedTree)) MisreadData

-- KIND, VALUE
abbrev pub constant_from : List Part → Result TypedTree MisreadData
constant_from (kind ∷ value ∷ []) = do
  kind ← under (Item 1) (kind_of kind.value)
  value ← under (Item 2) (value_of_kind kind value.value)
  Ok (constant_made value)
constant_from _ = Err (here BadShape)

-- KIND
abbrev pub identity_from : List Part → Result TypedTree MisreadData
identity_from (kind ∷ []) = do
  kind ← under (Item 1) (kind_of kind.value)
  Ok (identity_made kind)
identity_from _ = Err (here BadShape)

-- NAME
abbrev pub op_from : List Part → Result TypedTree MisreadData
op_from (name ∷ []) = do
  op ← under (Item 1) (op_of name.value)
  Ok (op_made op)
op_from _ = Err (here BadShape)

-- TREE, pos, [VALUE..]
abbrev pub insert_from : List Part → Result TypedTree MisreadData
insert_from (target ∷ position ∷ values ∷ []) = do
  target ← under (Item 1) target.tree
  position ← under (Item 2) (count_of (2 ^ 63 - 1) position.value)
  values ← under (Item 3) (values_for (drop position target.signature.parameters) values.value)
  caused of_tree (insert_made target position values)
insert_from _ = Err (here BadShape)

-- TREE, pos, [KIND..]
abbrev pub drop_from : List Part → Result TypedTree MisreadData
drop_from (target ∷ position ∷ kinds ∷ []) = do
  target ← under (Item 1) target.tree
  position ← under (Item 2) (count_of (2 ^ 63 - 1) position.value)
  kinds ← under (Item 3) (kinds_of kinds.value)
  caused of_tree (drop_made target position kinds)
drop_from _ = Err (here BadShape)

-- TREE, TYPE, [number..]
abbrev pub permute_from : List Part → Result TypedTree MisreadData
permute_from (target ∷ new_type ∷ reorder ∷ []) = do
  target ← under (Item 1) target.tree
  new_type ← under (Item 2) (type_of new_type.value)
  reorder ← under (Item 3) (counts_of (2 ^ 63 - 1) reorder.value)
  caused of_tree (permute_made target new_type reorder)
permute_from _ = Err (here BadShape)

-- TREE, pos, [TREE or null..]
abbrev pub filter_from : List Part → Result TypedTree MisreadData
filter_from (target ∷ position ∷ filters ∷ []) = do
  target ← under (Item 1) target.tree
  position ← under (Item 2) (count_of (2 ^ 63 - 1) position.value)
  filters ← under (Item 3) filters.filters
  caused of_tree (filter_made target position filters)
filter_from _ = Err (here BadShape)

-- TARGET, FILTER
abbrev pub return_from : List Part → Result TypedTree MisreadData
return_from (target ∷ last ∷ []) = do
  target ← under (Item 1) target.tree
  last ← under (Item 2) last.tree
  caused of_tree (filter_return_made target last)
return_from _ = Err (here BadShape)

-- TARGET, COMBINER
abbrev pub fold_from : List Part → Result TypedTree MisreadData
fold_from (target ∷ combiner ∷ []) = do
  target ← under (Item 1) target.tree
  combiner ← under (Item 2) combiner.tree
  caused of_tree (fold_made target combiner)
fold_from _ = Err (here BadShape)

-- TEST, TARGET, FALLBACK
abbrev pub guard_from : List Part → Result TypedTree MisreadData
guard_from (test ∷ target ∷ fallback ∷ []) = do
  test ← under (Item 1) test.tree
  target ← under (Item 2) target.tree
  fallback ← under (Item 3) fallback.tree
  caused of_tree (guard_made test target fallback)
guard_from _ = Err (here BadShape)

-- the number of a point, or of a site: that of the first of its name, or one past the last, at most 2^32 - 1
abbrev pub point_place : List (List ℕ) → List ℕ → ℕ
point_place points name = min (place_of points name) (2 ^ 32 - 1)

-- the name of a point, as its number
abbrev pub named_point_of : List (List ℕ) → Data → Result ℕ MisreadData
named_point_of points d = do
  name ← text_of d
  Ok (point_place points name)

-- NAME, TARGET, FALLBACK
abbrev pub point_from : Scope → List Part → Result TypedTree MisreadData
point_from scope (name ∷ target ∷ fallback ∷ []) = do
  point ← under (Item 1) (named_point_of scope.points name.value)
  target ← under (Item 2) target.tree
  fallback ← under (Item 3) fallback.tree
  caused of_tree (point_made point target fallback)
point_from scope _ = Err (here BadShape)

-- the shared tree of a name, among those declared earlier
abbrev pub shared_named : Scope → List ℕ → Result TypedTree MisreadData
shared_named scope name = or_fault UnknownShared (slice_get scope.trees (place_of scope.names name))

abbrev pub shared_name_of : Scope → Data → Result TypedTree MisreadData
shared_name_of scope d = do
  name ← text_of d
  shared_named scope name

-- NAME
abbrev pub ref_from : Scope → List Part → Result TypedTree MisreadData
ref_from scope (name ∷ []) = under (Item 1) (shared_name_of scope name.value)
ref_from scope _ = Err (here BadShape)

-- the invocation of the site of a name, among those declared earlier, with the site's type
abbrev pub invocation_named : Scope → List ℕ → Result TypedTree MisreadData
invocation_named scope name = do
  method_type ← or_fault UnknownSite (slice_get scope.types (point_place scope.sites name))
  Ok (invoke_made (point_place scope.sites name) method_type)

abbrev pub site_name_of : Scope → Data → Result TypedTree MisreadData
site_name_of scope d = do
  name ← text_of d
  invocation_named scope name

-- NAME
abbrev pub invoke_from : Scope → List Part → Result TypedTree MisreadData
invoke_from scope (name ∷ []) = under (Item 1) (site_name_of scope name.value)
invoke_from scope _ = Err (here BadShape)

-- the tree of each word
abbrev pub forms : Scope → List Part → List (List ℕ × Result TypedTree MisreadData)
forms scope args =
    (codes "const", constant_from args)
    ∷ (codes "id", identity_from args)
    ∷ (codes "op", op_from args)
    ∷ (codes "ref", ref_from scope args)
    ∷ (codes "insert", insert_from args)
    ∷ (codes "drop", drop_from args)
    ∷ (codes "permute", permute_from args)
    ∷ (codes "filter", filter_from args)
    ∷ (codes "return", return_from args)
    ∷ (codes "fold", fold_from args)
    ∷ (codes "guard", guard_from args)
    ∷ (codes "point", point_from scope args)
    ∷ (codes "invoke", invoke_from scope args)
    ∷ []

-- the tree of a word and its arguments
abbrev pub form_named : Scope → List ℕ → List Part → Result TypedTree MisreadData
form_named scope word args = at_word (forms scope args) word (Err (here BadShape))

-- a word and its arguments
abbrev pub form_from : Scope → List Part → Result TypedTree MisreadData
form_from scope [] = Err (here BadShape)
form_from scope (head ∷ args) = do
  word ← under (Item 0) (text_of head.value)
  form_named scope word args

-- an item of a list of filters: null for none, or a tree
abbrev pub filter_or_none : Data → Result TypedTree MisreadData → Result (Option TypedTree) MisreadData
filter_or_none d tree = if is_some (as_null d) then Ok None else (tree >>= λ filter. Ok (Some filter))

abbrev mutual
  pub tree_of : Scope → Data → Result TypedTree MisreadData
  tree_of scope (array ds) = form_from scope (parts_of scope ds)
  tree_of scope null = Err (here BadShape)
  tree_of scope (boolean b) = Err (here BadShape)
  tree_of scope (number n) = Err (here BadShape)
  tree_of scope (string s) = Err (here BadShape)
  tree_of scope (object ms) = Err (here BadShape)

  pub parts_of : Scope → Items → List Part
  parts_of scope no_items = []
  parts_of scope (item d ds) = record { value = d; tree = tree_of scope d; filters = filters_of scope d } ∷ parts_of scope ds

  pub filters_of : Scope → Data → Result (List (Option TypedTree)) MisreadData
  filters_of scope (array ds) = filters_in scope 0 ds
  filters_of scope null = Err (here BadShape)
  filters_of scope (boolean b) = Err (here BadShape)
  filters_of scope (number n) = Err (here BadShape)
  filters_of scope (string s) = Err (here BadShape)
  filters_of scope (object ms) = Err (here BadShape)

  pub filters_in : Scope → ℕ → Items → Result (List (Option TypedTree)) MisreadData
  filters_in scope n no_items = Ok []
  filters_in scope n (item d ds) = do
    filter ← under (Item n) (filter_or_none d (tree_of scope d))
    filters ← filters_in scope (n + 1) ds
    Ok (filter ∷ filters)

-- a tree within the limits of declared trees
abbrev pub declared_of : Scope → Data → Result TypedTree MisreadData
declared_of scope d = do
  tree ← tree_of scope d
  caused of_tree (declared_made tree)

-- a value of the code as a part
abbrev pub part : Scope → Value → Part
part scope v = record { value = view v; tree = tree_of scope (view v); filters = filters_of scope (view v) }

-- a value of the code as an item of a list of filters
abbrev pub filter_of : Scope → Data → Result (Option TypedTree) MisreadData
filter_of scope d = filter_or_none d (tree_of scope d)
