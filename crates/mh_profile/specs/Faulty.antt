-- The line of a profile that has its fault, and the name in it that no earlier line has.
use Rattle.std.specs.Prelude.{ℕ, ◌≡◌, ◌<◌, ◌==◌, ◌⊎◌, Bool, false, List, drop, length, map, not, slice_index_or, take, Option, Some, None, Ok, Err, codes}
use Rattle.std.specs.List.{HoldsAt, IsAfterLastMatch, IsFirstMatchOrLen, list_any}
use Rattle.std.specs.Str.{bytes_eq}
use Rattle.serde_json.specs.Data.{Data}
use Rattle.serde_json.specs.Find.{as_str, get}
use Rattle.serde_json.specs.View.{view}
use Rattle.serde_json.specs.declared.value.Value.{Value}
use Rattle.mh_json.specs.Gives.{at_place}
use Rattle.mh_json.specs.Inputs.{json_in}
use Rattle.mh_json.specs.Shape.{list_of}
use Rattle.mh_json.specs.declared.fault.InputFault.{InputFault}
use Rattle.mh_json.specs.declared.fault.TextFault.TheVariants.{Input}
use Rattle.mh_profile.specs.declared.faulty.FaultyLine.{FaultyLine}
use Rattle.mh_profile.specs.declared.profile.Profile.{Profile}
use Rattle.mh_profile.specs.Lines.{lines_of}
use Rattle.mh_profile.specs.Profiles.{profile_of, text_of_line}

-- line n of an input, and the bytes before it: it begins after the end of the line before it, and ends at its own end or that of the
-- input
pub record IsLine (input : List ℕ) (n : ℕ) (before line : List ℕ) : Type 0 where
  pub start : ℕ
  pub end : ℕ
  pub begun : IsAfterLastMatch (λ b. b == 10) (take end input) start
  pub ended : (end ≡ length input) ⊎ (slice_index_or input end 0 ≡ 10)
  pub front : before ≡ take start (take end input)
  pub is : line ≡ drop start (take end input)
  pub number : length (lines_of before) ≡ n

-- a line that has this fault, after lines that have none and name these points
pub record IsFaulty (input : List ℕ) (fault : InputFault) (line : FaultyLine) : Type 0 where
  pub front : List ℕ
  pub place : IsLine input line.number front line.bytes
  pub before : Profile
  pub read : profile_of front ≡ Ok before
  pub names : line.points ≡ before.points
  pub fails : at_place line.number (text_of_line line.number before line.bytes) ≡ Err (record { kind = Input fault; at = line.number })

-- whether an optional text is the name of no point
abbrev pub is_new : List (List ℕ) → Option (List ℕ) → Bool
is_new points (Some name) = not (list_any (bytes_eq name) points)
is_new points None = false

-- the first need of a line that is the name of no earlier point
pub record IsUnknown (line : FaultyLine) (name : List ℕ) : Type 0 where
  pub value : Data
  pub needs : Data
  pub names : List Value
  pub at : ℕ
  pub read : json_in line.bytes ≡ Ok value
  pub found : get (codes "needs") value ≡ Some needs
  pub listed : list_of needs ≡ Ok (map view names)
  pub inside : at < length names
  pub first : IsFirstMatchOrLen (λ v. is_new line.points (as_str (view v))) names at
  pub is : HoldsAt (λ v. as_str (view v) ≡ Some name) names at
