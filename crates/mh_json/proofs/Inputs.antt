-- The JSON value that bytes have, or none.
use Rattle.std.proofs.Common.{◌≡◌, ℕ, List, Option, Some, None, Result, Ok, Err, Bool, true, false, refl}
use Rattle.std.proofs.lemmas.Str.{is_utf8-from_IsUtf8, IsUtf8-from_is_utf8}
use Rattle.std.specs.Str.{IsUtf8, is_utf8}
use Rattle.serde_json.specs.Data.{Data}
use Rattle.serde_json.specs.Read.{read}
use Rattle.mh_json.specs.declared.fault.InputFault.TheVariants as fault
use Rattle.mh_json.specs.Inputs.{json_in}
use Rattle.mh_json.specs.Misreads.{here}

pub json_found : (bytes : List ℕ) (d : Data) → IsUtf8 bytes → read bytes ≡ Some d → json_in bytes ≡ Ok d
unfolding json_in
json_found bytes d text is = rw (is_utf8-from_IsUtf8 bytes text, is) refl

json_absent_at : (bytes : List ℕ) (b : Bool) → is_utf8 bytes ≡ b → (IsUtf8 bytes → read bytes ≡ None) → json_in bytes ≡ Err (here fault.NotJson)
unfolding json_in
json_absent_at bytes true e none = rw (e, none (IsUtf8-from_is_utf8 bytes e)) refl
json_absent_at bytes false e none = rw e refl

pub json_absent : (bytes : List ℕ) → (IsUtf8 bytes → read bytes ≡ None) → json_in bytes ≡ Err (here fault.NotJson)
json_absent bytes none = json_absent_at bytes (is_utf8 bytes) refl none
