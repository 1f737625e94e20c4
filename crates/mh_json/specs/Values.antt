-- Kinds, types, operations and values in JSON.
use Rattle.std.specs.Prelude.{ℕ, ◌^◌, ◌&&◌, ℤ, pos, neg_ℤ, int_lt, Bool, not, List, Option, Some, None, Result, Ok, Err, option_and_then, if◌then◌else◌}
use Rattle.std.specs.List.{slice_get}
use Rattle.serde_json.specs.Data.{Data, null, boolean, number, string, array, object}
use Rattle.serde_json.specs.Find.{as_number, as_str, as_bool, as_i64}
use Rattle.mh_type.specs.declared.kind.Kind.{Kind}
use Rattle.mh_type.specs.declared.kind.Kind.TheVariants as kind
use Rattle.mh_type.specs.declared.operation.Op.{Op}
use Rattle.mh_type.specs.declared.value.Value.{Value}
use Rattle.mh_type.specs.declared.value.Value.TheVariants.{Int, Long, Boolean, Text}
use Rattle.mh_type.specs.Kinds.{kind_named}
use Rattle.mh_type.specs.Signature.{Signature}
use Rattle.mh_type.specs.Written.{parsed}
use Rattle.mh_type.specs.Operations.{op_named}
use Rattle.mh_type.specs.Printable.{is_text}
use Rattle.mh_json.specs.declared.fault.InputFault.TheVariants.{BadShape, BadValue}
use Rattle.mh_json.specs.Gives.{or_fault, ◌>>=◌, caused, of_type}
use Rattle.mh_json.specs.Misreads.{MisreadData, here}
use Rattle.mh_json.specs.Shape.{list_of, text_of, items_from, each_of}

-- the name of a kind
abbrev pub kind_of : Data → Result Kind MisreadData
kind_of d = do
  name ← text_of d
  or_fault BadShape (kind_named name)

-- [KIND..]
unfoldable pub kinds_of : Data → Result (List Kind) MisreadData
kinds_of d = each_of kind_of d

-- the text of a method type
abbrev pub type_of : Data → Result Signature MisreadData
type_of d = do
  written ← text_of d
  caused of_type (parsed written)

-- the name of an operation
abbrev pub op_of : Data → Result Op MisreadData
op_of d = do
  name ← text_of d
  or_fault BadShape (op_named name)

-- a signed whole number of 64 bits
abbrev pub long_of : Data → Result ℤ MisreadData
long_of d = or_fault BadValue (option_and_then as_i64 (as_number d))

-- whether a number has at most 32 bits with its sign
abbrev pub is_int : ℤ → Bool
is_int z = not (int_lt z (neg_ℤ (pos (2 ^ 31)))) && int_lt z (pos (2 ^ 31))

-- an int if it fits, else a long
abbrev pub least_number : ℤ → Value
least_number z = if is_int z then Int z else Long z

-- a text: at most 65,536 bytes, each printable
abbrev pub text_value : List ℕ → Result Value MisreadData
text_value bytes = if is_text bytes then Ok (Text bytes) else Err (here BadValue)

-- a value of a kind
abbrev pub value_of_kind : Kind → Data → Result Value MisreadData
value_of_kind kind.Int d = do
  z ← long_of d
  if is_int z then Ok (Int z) else Err (here BadValue)
value_of_kind kind.Long d = do
  z ← long_of d
  Ok (Long z)
value_of_kind kind.Boolean d = do
  truth ← or_fault BadValue (as_bool d)
  Ok (Boolean truth)
value_of_kind kind.Text d = do
  bytes ← or_fault BadValue (as_str d)
  text_value bytes

-- a value whose kind follows from its form
abbrev pub value_by_form : Data → Result Value MisreadData
value_by_form (string bytes) = text_value bytes
value_by_form (boolean truth) = Ok (Boolean truth)
value_by_form (number n) = do
  z ← or_fault BadValue (as_i64 n)
  Ok (least_number z)
value_by_form null = Err (here BadValue)
value_by_form (array ds) = Err (here BadValue)
value_by_form (object ms) = Err (here BadValue)

-- the first reading, or the second if the first has a fault
abbrev pub or_else : Result Value MisreadData → Result Value MisreadData → Result Value MisreadData
or_else (Ok value) other = Ok value
or_else (Err e) other = other

-- a value of the given kind, or, without one, a value whose kind follows from its form
abbrev pub value_for : Option Kind → Data → Result Value MisreadData
value_for (Some kind) d = or_else (value_of_kind kind d) (value_by_form d)
value_for None d = value_by_form d

-- values for parameters of these kinds, in order
unfoldable pub values_for : List Kind → Data → Result (List Value) MisreadData
values_for kinds d = list_of d >>= items_from (λ i d. value_for (slice_get kinds i) d) 0
