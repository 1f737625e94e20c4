-- The shared trees of a definition.
use Rattle.std.specs.Prelude.{ℕ, ◌+◌, not, ◌&&◌, List, [], ◌∷◌, ◌++◌, Result, Ok, Err, if◌then◌else◌}
use Rattle.std.specs.List.{list_any}
use Rattle.std.specs.Str.{bytes_eq}
use Rattle.serde_json.specs.Data.{Data}
use Rattle.mh_json.specs.declared.fault.InputFault.TheVariants.{BadShape}
use Rattle.mh_json.specs.declared.json.scope.Scope.{Scope}
use Rattle.mh_json.specs.declared.json.scope.Shared.{Shared}
use Rattle.mh_json.specs.Gives.{◌>>=◌}
use Rattle.mh_json.specs.Misreads.{MisreadData, here, under}
use Rattle.mh_json.specs.declared.key.Field.TheVariants as field
use Rattle.mh_json.specs.declared.key.Key.TheVariants.{Item}
use Rattle.mh_site.specs.Names.{is_name}
use Rattle.mh_site.specs.NamesInOrder.{with_name}
use Rattle.mh_json.specs.Shape.{list_of, text_of, member_or}
use Rattle.mh_json.specs.Trees.{tree_of}

-- points with these names, without shared trees and sites
abbrev pub without_shared : List (List ℕ) → Scope
without_shared points = record { points = points; names = []; trees = []; sites = []; types = [] }

-- one shared tree more
abbrev pub with_shared : Scope → Shared → Scope
with_shared scope shared = record {
  points = scope.points;
  names = with_name scope.names shared.name;
  trees = scope.trees ++ shared.tree ∷ [];
  sites = scope.sites;
  types = scope.types;
}

-- a name that is lawful, and that no earlier shared tree has
abbrev pub new_name : List (List ℕ) → Data → Result (List ℕ) MisreadData
new_name names d = do
  name ← text_of d
  if is_name name && not (list_any (bytes_eq name) names) then Ok name else Err (here BadShape)

-- NAME, TREE
abbrev pub shared_from : Scope → List Data → Result Shared MisreadData
shared_from scope (name ∷ tree ∷ []) = do
  name ← under (Item 0) (new_name scope.names name)
  tree ← under (Item 1) (tree_of scope tree)
  Ok (record { name = name; tree = tree })
shared_from scope _ = Err (here BadShape)

-- a pair, read over the shared trees before it
abbrev pub shared_of : Scope → Data → Result Shared MisreadData
shared_of scope d = do
  parts ← list_of d
  shared_from scope parts

-- the pairs in order, with their numbers from n on
abbrev pub all_shared_of : Scope → ℕ → List Data → Result Scope MisreadData
all_shared_of scope n [] = Ok scope
all_shared_of scope n (d ∷ ds) = do
  shared ← under (Item n) (shared_of scope d)
  all_shared_of (with_shared scope shared) (n + 1) ds

-- the names that the trees of a definition may use: these, and then its shared trees
abbrev pub scope_of : Scope → Data → Result Scope MisreadData
scope_of scope d = list_of d >>= all_shared_of scope 0

-- the names that the trees of a definition may use, whose points have these names
abbrev pub shared_in : List (List ℕ) → Data → Result Scope MisreadData
shared_in points definition = member_or (without_shared points) field.Shared (scope_of (without_shared points)) definition
