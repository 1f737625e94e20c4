-- Values, kinds and places as JSON.
use Rattle.std.specs.Prelude.{ℕ, List, map}
use Rattle.serde_json.specs.Data.{Data, boolean, number, string, array, unsigned}
use Rattle.serde_json.specs.Find.{of_integer}
use Rattle.serde_json.specs.View.{items_of}
use Rattle.mh_type.specs.declared.kind.Kind.{Kind}
use Rattle.mh_type.specs.declared.value.Value.{Value}
use Rattle.mh_type.specs.declared.value.Value.TheVariants.{Int, Long, Boolean, Text}
use Rattle.mh_type.specs.Kinds.{kind_name}

-- a value: a number, true or false, or a string
abbrev pub value_data : Value → Data
value_data (Int z) = number (of_integer z)
value_data (Long z) = number (of_integer z)
value_data (Boolean truth) = boolean truth
value_data (Text bytes) = string bytes

-- the name of a kind
abbrev pub kind_data : Kind → Data
kind_data k = string (kind_name k)

-- the number of a parameter
abbrev pub place_data : ℕ → Data
place_data p = number (unsigned p)

abbrev pub values_data : List Value → Data
values_data xs = array (items_of (map value_data xs))

abbrev pub kinds_data : List Kind → Data
kinds_data ks = array (items_of (map kind_data ks))

abbrev pub places_data : List ℕ → Data
places_data ps = array (items_of (map place_data ps))
