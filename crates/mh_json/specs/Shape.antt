-- The parts of a JSON value, each with its fault if it does not have its form.
use Rattle.std.specs.Prelude.{ℕ, ◌+◌, List, [], ◌∷◌, Option, Some, None, Result, Ok, Err, option_and_then, nat_le, if◌then◌else◌}
use Rattle.serde_json.specs.Data.{Data, null, boolean, number, string, array, object, Items, no_items, item}
use Rattle.serde_json.specs.Find.{get, as_number, as_str, as_u64}
use Rattle.mh_json.specs.declared.fault.InputFault.TheVariants.{BadShape}
use Rattle.mh_json.specs.Gives.{or_fault, ◌>>=◌}
use Rattle.mh_json.specs.Misreads.{MisreadData, here, under}
use Rattle.mh_json.specs.declared.key.Field.{Field}
use Rattle.mh_json.specs.Keys.{field_name}
use Rattle.mh_json.specs.declared.key.Key.TheVariants.{Member, Item}

abbrev pub to_list : Items → List Data
to_list no_items = []
to_list (item d ds) = d ∷ to_list ds

-- the items of an array
abbrev pub list_of : Data → Result (List Data) MisreadData
list_of (array ds) = Ok (to_list ds)
list_of null = Err (here BadShape)
list_of (boolean b) = Err (here BadShape)
list_of (number n) = Err (here BadShape)
list_of (string s) = Err (here BadShape)
list_of (object ms) = Err (here BadShape)

-- the bytes of a string
abbrev pub text_of : Data → Result (List ℕ) MisreadData
text_of d = or_fault BadShape (as_str d)

-- the member of an object at a required key
abbrev pub part_of : Field → Data → Result Data MisreadData
part_of field d = or_fault BadShape (get (field_name field) d)

-- a value, or its member at a required key
abbrev pub part_at : Option (List ℕ) → Data → Result Data MisreadData
part_at None d = Ok d
part_at (Some key) d = or_fault BadShape (get key d)

-- the reading of the member at a required key
abbrev pub member_of : {A : Type 0} → Field → (Data → Result A MisreadData) → Data → Result A MisreadData
member_of field read d = part_of field d >>= λ part. under (Member field) (read part)

-- the same of an optional key
abbrev pub part_or : {A : Type 0} → A → Field → (Data → Result A MisreadData) → Option Data → Result A MisreadData
part_or absent field read None = Ok absent
part_or absent field read (Some part) = under (Member field) (read part)

abbrev pub member_or : {A : Type 0} → A → Field → (Data → Result A MisreadData) → Data → Result A MisreadData
member_or absent field read d = part_or absent field read (get (field_name field) d)

-- a whole number from 0 to a bound
abbrev pub count_of : ℕ → Data → Result ℕ MisreadData
count_of bound d = or_fault BadShape (option_and_then (λ n. if nat_le n bound then Some n else None) (option_and_then as_u64 (as_number d)))

-- each item in order, with its number from n on, up to the first that has a fault
abbrev pub each_from : {A E : Type 0} → (ℕ → Data → Result A E) → ℕ → List Data → Result (List A) E
each_from read n [] = Ok []
each_from read n (d ∷ ds) = do
  x ← read n d
  xs ← each_from read (n + 1) ds
  Ok (x ∷ xs)

-- the reading of each item of a list, up to the first that has a fault
abbrev pub items_from : {A : Type 0} → (ℕ → Data → Result A MisreadData) → ℕ → List Data → Result (List A) MisreadData
items_from read n ds = each_from (λ i d. under (Item i) (read i d)) n ds

abbrev pub each_of : {A : Type 0} → (Data → Result A MisreadData) → Data → Result (List A) MisreadData
each_of read d = list_of d >>= items_from (λ _ d. read d) 0

-- a list of whole numbers from 0 to a bound
unfoldable pub counts_of : ℕ → Data → Result (List ℕ) MisreadData
counts_of bound d = each_of (count_of bound) d
