-- Texts: at most 65,536 bytes, each from 0x20 to 0x7E.
use Rattle.std.specs.Prelude.{◌≡◌, ◌⊎◌, ℕ, ◌+◌, ◌<◌, ◌≤◌, Bool, true, false, ◌&&◌, List, length, nat_le}
use Rattle.std.specs.List.{All, list_all}
use Rattle.mh_type.specs.declared.fault.TypeFault.{TypeFault}
use Rattle.mh_type.specs.declared.fault.TypeFault.TheVariants.{NoMemory, BadText}
use Rattle.mh_type.specs.Limits.{longest_text}

abbrev pub IsPrintable : ℕ → Type 0
IsPrintable byte = (0x20 ≤ byte) × (byte ≤ 0x7E)

pub record IsText (bytes : List ℕ) : Type 0 where
  pub short : length bytes ≤ longest_text
  pub printable : All IsPrintable bytes

-- IsPrintable as a test that computes
abbrev pub is_printable : ℕ → Bool
is_printable byte = nat_le 0x20 byte && nat_le byte 0x7E

abbrev pub is_text : List ℕ → Bool
is_text bytes = nat_le (length bytes) longest_text && list_all is_printable bytes

-- the faults of making a text of these bytes: memory comes last
abbrev pub RefusesText : List ℕ → TypeFault → Type 0
RefusesText bytes e = ((e ≡ BadText) × (is_text bytes ≡ false)) ⊎ ((e ≡ NoMemory) × (is_text bytes ≡ true))

-- the faults of concatenating two texts: memory comes last
abbrev pub RefusesConcat : List ℕ → List ℕ → TypeFault → Type 0
RefusesConcat s t e =
    ((e ≡ BadText) × (longest_text < length s + length t)) ⊎ ((e ≡ NoMemory) × (length s + length t ≤ longest_text))
