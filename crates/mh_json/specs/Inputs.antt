-- The JSON value of an input.
use Rattle.std.specs.Prelude.{ℕ, List, length, Result, Err, nat_le, if◌then◌else◌}
use Rattle.std.specs.Str.{is_utf8}
use Rattle.serde_json.specs.Data.{Data}
use Rattle.serde_json.specs.Read.{read}
use Rattle.mh_json.specs.declared.fault.Fault.{Fault}
use Rattle.mh_json.specs.declared.fault.InputFault.TheVariants as fault
use Rattle.mh_json.specs.Gives.{or_fault, at_place}
use Rattle.mh_json.specs.Misreads.{MisreadData, here}

-- the most bytes that an input may have: 2^20
abbrev pub most_bytes : ℕ
most_bytes = 1048576

-- the JSON value of an input
unfoldable pub json_in : List ℕ → Result Data MisreadData
json_in input = if is_utf8 input then or_fault fault.NotJson (read input) else Err (here fault.NotJson)

-- the JSON value of an input within the limit
abbrev pub json_of_input : List ℕ → Result Data Fault
json_of_input input = if nat_le (length input) most_bytes then at_place 0 (json_in input) else at_place 0 (Err (here fault.TooLong))
