-- Keys and paths into a JSON value.
use Rattle.std.specs.Prelude.{ℕ, List, [], ◌∷◌, ◌++◌, Option, codes}
use Rattle.std.specs.Fmt.{decimal}
use Rattle.std.specs.List.{flat_map}
use Rattle.serde_json.specs.Data.{Data}
use Rattle.serde_json.specs.Find.{get, at}
use Rattle.mh_json.specs.declared.key.Field.{Field}
use Rattle.mh_json.specs.declared.key.Field.TheVariants as field
use Rattle.mh_json.specs.declared.key.Key.{Key}
use Rattle.mh_json.specs.declared.key.Key.TheVariants.{Member, Item}

-- the key of a field
abbrev pub field_name : Field → List ℕ
field_name field.Charge = codes "charge"
field_name field.Charges = codes "charges"
field_name field.Cost = codes "cost"
field_name field.Costs = codes "costs"
field_name field.Definition = codes "definition"
field_name field.Eligible = codes "eligible"
field_name field.Events = codes "events"
field_name field.Flow = codes "flow"
field_name field.Gain = codes "gain"
field_name field.History = codes "history"
field_name field.Key = codes "key"
field_name field.Ledger = codes "ledger"
field_name field.Level = codes "level"
field_name field.Limits = codes "limits"
field_name field.Links = codes "links"
field_name field.Name = codes "name"
field_name field.Needs = codes "needs"
field_name field.Plan = codes "plan"
field_name field.Points = codes "points"
field_name field.Problem = codes "problem"
field_name field.Shared = codes "shared"
field_name field.Sites = codes "sites"
field_name field.Target = codes "target"
field_name field.Total = codes "total"
field_name field.Type = codes "type"
field_name field.Value = codes "value"
field_name field.Version = codes "version"
field_name field.Weight = codes "weight"
field_name field.When = codes "when"
field_name field.Workers = codes "workers"

-- a key after others: `.sites`, `[3]`
abbrev pub step_text : Key → List ℕ
step_text (Member field) = codes "." ++ field_name field
step_text (Item n) = codes "[" ++ (decimal n ++ codes "]")

-- the first key: a name without a dot
abbrev pub first_text : Key → List ℕ
first_text (Member field) = field_name field
first_text (Item n) = step_text (Item n)

-- a path as text: `definition.sites[3].target[1]`
abbrev pub path_text : List Key → List ℕ
path_text [] = []
path_text (key ∷ rest) = first_text key ++ flat_map step_text rest

-- the part of a value at a key
abbrev pub child : Key → Data → Option Data
child (Member field) d = get (field_name field) d
child (Item n) d = at n d
