-- The plan that a JSON value is.
use Rattle.std.specs.Prelude.{ℕ, ℤ, ◌^◌, ◌-◌, List, [], ◌∷◌, Option, option_and_then, Result, Ok, Err}
use Rattle.serde_json.specs.Data.{Data}
use Rattle.serde_json.specs.Find.{as_number, as_i64}
use Rattle.mh_network.specs.Selection.{Row, Charge}
use Rattle.mh_cert.specs.declared.plan.Plan.{Plan}
use Rattle.mh_json.specs.declared.fault.Fault.{Fault}
use Rattle.mh_json.specs.declared.fault.InputFault.TheVariants.{BadShape}
use Rattle.mh_json.specs.Gives.{◌>>=◌, or_fault, at_place}
use Rattle.mh_json.specs.Inputs.{json_of_input}
use Rattle.mh_json.specs.Misreads.{MisreadData, here, under}
use Rattle.mh_json.specs.Shape.{list_of, member_of, member_or, count_of, each_of, counts_of, part_at}
use Rattle.mh_json.specs.declared.key.Field.TheVariants as field
use Rattle.mh_json.specs.declared.key.Key.TheVariants.{Item}

-- a signed whole number of 64 bits
abbrev pub signed_of : Data → Result ℤ MisreadData
signed_of d = or_fault BadShape (option_and_then as_i64 (as_number d))

-- link, point, amount
abbrev pub flow_row_from : List Data → Result Row MisreadData
flow_row_from (link ∷ point ∷ amount ∷ []) = do
  link ← under (Item 0) (count_of (2 ^ 32 - 1) link)
  point ← under (Item 1) (count_of (2 ^ 32 - 1) point)
  amount ← under (Item 2) (count_of (2 ^ 64 - 1) amount)
  Ok (link, point, amount)
flow_row_from _ = Err (here BadShape)

abbrev pub flow_row_of : Data → Result Row MisreadData
flow_row_of d = do
  parts ← list_of d
  flow_row_from parts

abbrev pub flow_of : Data → Result (List Row) MisreadData
flow_of d = each_of flow_row_of d

-- link, amount
abbrev pub charge_row_from : List Data → Result Charge MisreadData
charge_row_from (link ∷ amount ∷ []) = do
  link ← under (Item 0) (count_of (2 ^ 32 - 1) link)
  amount ← under (Item 1) (count_of (2 ^ 64 - 1) amount)
  Ok (link, amount)
charge_row_from _ = Err (here BadShape)

abbrev pub charge_row_of : Data → Result Charge MisreadData
charge_row_of d = do
  parts ← list_of d
  charge_row_from parts

abbrev pub charges_of : Data → Result (List Charge) MisreadData
charges_of d = each_of charge_row_of d

-- the links, the points, the value, the flow, the optional charges
abbrev pub plan_of : Data → Result Plan MisreadData
plan_of d = do
  links ← member_of field.Links (counts_of (2 ^ 32 - 1)) d
  points ← member_of field.Points (counts_of (2 ^ 32 - 1)) d
  value ← member_of field.Value signed_of d
  flow ← member_of field.Flow flow_of d
  charges ← member_or [] field.Charges charges_of d
  Ok (record { links = links; points = points; value = value; flow = flow; charges = charges })

-- the plan that a value, or its member at a key, is
abbrev pub plan_at : Option (List ℕ) → Data → Result Plan MisreadData
plan_at key d = do
  part ← part_at key d
  plan_of part

-- the same of a source that has a JSON value or a fault
abbrev pub plan_by : {A : Type 0} → (A → Result Data Fault) → Option (List ℕ) → A → Result Plan Fault
plan_by json key source = do
  value ← json source
  at_place 0 (plan_at key value)

-- the plan of an input
abbrev pub plan_of_input : Option (List ℕ) → List ℕ → Result Plan Fault
plan_of_input = plan_by json_of_input
