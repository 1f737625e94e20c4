-- Keys of links for C.
use Rattle.std.specs.Prelude.{◌≡◌, ◌⊎◌, ◌<◌, ℕ, List, length}
use Rattle.mh_core.specs.Defined.{DefinitionData}
use Rattle.mh_core.specs.Links.{link_at, links}
use Rattle.mh_core.specs.Value.{Value}
use Rattle.mhlink_c.specs.Buffers.{IsCopied, IsTooShort}
use Rattle.mhlink_c.specs.Crossing.{bytes_of, value_kind, value_number}
use Rattle.mhlink_c.specs.Statuses.{no_memory}
use Rattle.mhlink_c.specs.declared.failure.Failure.{Failure}
use Rattle.mhlink_c.specs.declared.failure.Failure.TheVariants.{Short, Unknown}
use Rattle.mhlink_c.specs.declared.value.MhlinkValue.{MhlinkValue}

abbrev pub key_of : DefinitionData → ℕ → Value
key_of d j = (link_at d j).1.when

-- a value for C, with the bytes of a text in a buffer
pub record IsShown (x : Value) (v : MhlinkValue) (n : ℕ) (buffer : List ℕ) : Type 0 where
  pub kind : v.kind ≡ value_kind x
  pub number : v.number ≡ value_number x
  pub bytes : IsCopied (bytes_of x) n buffer

abbrev pub IsLinkOf : DefinitionData → ℕ → Type 0
IsLinkOf d j = j < length (links d)

-- the link does not exist, or no more owners of its key can be counted
abbrev pub HasNoKey : DefinitionData → ℕ → Failure → Type 0
HasNoKey d j e = ((e ≡ Unknown) × (IsLinkOf d j → ⊥)) ⊎ ((e ≡ no_memory) × IsLinkOf d j)

-- there is such a link, and the buffer is too short for the bytes of its key
abbrev pub IsUncopiedKey : DefinitionData → ℕ → ℕ → List ℕ → Failure → Type 0
IsUncopiedKey d j n buffer e = (e ≡ Short) × (IsLinkOf d j × IsTooShort (bytes_of (key_of d j)) n buffer)
