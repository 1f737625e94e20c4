-- The bytes of a text, wherever they are stored.
use Rattle.std.specs.Prelude.{ℕ, List, string_bytes}
use Rattle.mh_type.specs.declared.text.Characters.{Characters}
use Rattle.mh_type.specs.declared.text.Characters.TheVariants.{Inline, Apart}

abbrev pub bytes_of : Characters → List ℕ
bytes_of (Inline t) = t.bytes
bytes_of (Apart t) = string_bytes t
