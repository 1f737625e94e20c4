-- The contents of the lines of a profile.
use Rattle.std.specs.Prelude.{ℕ, ◌+◌, ◌-◌, ◌^◌, ◌==◌, ◌&&◌, Bool, true, List, [], ◌∷◌, ◌++◌, codes, filter, length, nat_le, nat_lt, Option, Some, None, Result, Ok, Err, if◌then◌else◌}
use Rattle.std.specs.List.{list_all, list_any, position_or_len, range_with_len}
use Rattle.std.specs.Str.{bytes_eq}
use Rattle.serde_json.specs.Data.{Data}
use Rattle.serde_json.specs.Find.{get}
use Rattle.mh_network.specs.declared.link_row.LinkRow.{LinkRow}
use Rattle.mh_network.specs.declared.fault.ProblemFault.TheVariants.{TooManyLinks, TooManyPoints}
use Rattle.mh_network.specs.Limits.{greatest_count}
use Rattle.mh_network.specs.Selection.{member}
use Rattle.mh_json.specs.declared.fault.InputFault.TheVariants.{TooLong, BadShape, Problem, UnknownPoint, PointTwice, NeedTwice}
use Rattle.mh_json.specs.Inputs.{most_bytes, json_in}
use Rattle.mh_json.specs.Gives.{◌>>=◌, at_place}
use Rattle.mh_json.specs.Problems.{truth_of}
use Rattle.mh_json.specs.Misreads.{MisreadData, here}
use Rattle.mh_json.specs.Shape.{count_of, each_of, part_of, text_of}
use Rattle.mh_json.specs.declared.key.Field.{Field}
use Rattle.mh_json.specs.declared.key.Field.TheVariants as field
use Rattle.mh_json.specs.declared.fault.Fault.{Fault}
use Rattle.mh_profile.specs.declared.profile.Profile.{Profile}
use Rattle.mh_profile.specs.Limits.{most_in_all}
use Rattle.mh_profile.specs.Lines.{is_blank, lines_of}

-- an amount whose key is required
abbrev pub amount_of : Field → Data → Result ℕ MisreadData
amount_of key d = do
  amount ← part_of key d
  count_of (2 ^ 63 - 1) amount

-- an optional amount, 0 by default
abbrev pub amount_where : Option Data → Result ℕ MisreadData
amount_where None = Ok 0
amount_where (Some d) = count_of (2 ^ 63 - 1) d

-- the number of the point that a value names, or the number of points if it names none
abbrev pub place_named : List (List ℕ) → Data → Result ℕ MisreadData
place_named points d = do
  name ← text_of d
  Ok (position_or_len (bytes_eq name) points)

-- the numbers below a bound that are among those that were named, ascending
abbrev pub named_below : ℕ → List ℕ → List ℕ
named_below bound named = filter (member named) (range_with_len 0 bound)

-- all that were named, if none was named twice
abbrev pub once : List ℕ → List ℕ → Result (List ℕ) MisreadData
once named needs = if length needs == length named then Ok needs else Err (here NeedTwice)

-- the points that were named, ascending, if each exists and none was named twice
abbrev pub needs_among : ℕ → List ℕ → Result (List ℕ) MisreadData
needs_among points named = if list_all (λ p. nat_lt p points) named then once named (named_below points named) else Err (here UnknownPoint)

-- the numbers of the points that a list names
unfoldable pub places_named : List (List ℕ) → Data → Result (List ℕ) MisreadData
places_named points d = each_of (place_named points) d

-- the needs of a link, none by default
abbrev pub needs_where : List (List ℕ) → Option Data → Result (List ℕ) MisreadData
needs_where points None = Ok []
needs_where points (Some d) = do
  named ← places_named points d
  needs_among (length points) named

-- whether a link is eligible, true by default
abbrev pub eligible_where : Option Data → Result Bool MisreadData
eligible_where None = Ok true
eligible_where (Some d) = truth_of d

-- one more point, in line n
abbrev pub point_added : ℕ → Profile → List ℕ → ℕ → Profile
point_added n x name cost = record { points = x.points ++ name ∷ []; costs = x.costs ++ cost ∷ []; names = x.names; links = x.links; last = n }

-- a point whose name is new
abbrev pub with_point : ℕ → Profile → List ℕ → ℕ → Result Profile MisreadData
with_point n x name cost =
    if list_any (bytes_eq name) x.points then Err (here PointTwice)
    else (if nat_lt (length x.points) greatest_count then Ok (point_added n x name cost) else Err (here (Problem TooManyPoints)))

-- the point that a line is
abbrev pub point_of : ℕ → Profile → Data → Data → Result Profile MisreadData
point_of n x d name = do
  name ← text_of name
  cost ← amount_of field.Cost d
  with_point n x name cost

-- one more link, in line n
abbrev pub link_added : ℕ → Profile → List ℕ → LinkRow → Profile
link_added n x name row = record { points = x.points; costs = x.costs; names = x.names ++ name ∷ []; links = x.links ++ row ∷ []; last = n }

abbrev pub with_link : ℕ → Profile → List ℕ → LinkRow → Result Profile MisreadData
with_link n x name row = if nat_lt (length x.links) greatest_count then Ok (link_added n x name row) else Err (here (Problem TooManyLinks))

-- a link: its gain, its charge, whether it is eligible, and the points of earlier lines that it needs
abbrev pub row_of : List (List ℕ) → Data → Result LinkRow MisreadData
row_of points d = do
  gain ← amount_of field.Gain d
  charge ← amount_where (get (codes "charge") d)
  eligible ← eligible_where (get (codes "eligible") d)
  needs ← needs_where points (get (codes "needs") d)
  Ok (record { gain = gain; eligible = eligible; needs = needs; charge = charge })

-- the link that a line is
abbrev pub link_of : ℕ → Profile → Data → Data → Result Profile MisreadData
link_of n x d name = do
  name ← text_of name
  row ← row_of x.points d
  with_link n x name row

abbrev pub link_where : ℕ → Profile → Data → Option Data → Result Profile MisreadData
link_where n x d None = Err (here BadShape)
link_where n x d (Some name) = link_of n x d name

-- a point, if the key `point` is present, and otherwise a link
abbrev pub entry_where : ℕ → Profile → Data → Option Data → Result Profile MisreadData
entry_where n x d None = link_where n x d (get (codes "link") d)
entry_where n x d (Some name) = point_of n x d name

abbrev pub entry_of : ℕ → Profile → Data → Result Profile MisreadData
entry_of n x d = entry_where n x d (get (codes "point") d)

-- a line of white space declares nothing; any other is a point or a link
abbrev pub text_of_line : ℕ → Profile → List ℕ → Result Profile MisreadData
text_of_line n x line =
    if is_blank line then Ok x
    else (json_in line >>= λ value. entry_of n x value)

-- whether a line that begins after so many bytes is within the limits of a line and of all lines
abbrev pub is_within : ℕ → List ℕ → Bool
is_within offset line = nat_le (length line) most_bytes && nat_le (offset + length line) most_in_all

-- the profile with what line n declares, which begins after so many bytes
abbrev pub line_of : ℕ → ℕ → Profile → List ℕ → Result Profile MisreadData
line_of n offset x line = if is_within offset line then text_of_line n x line else Err (here TooLong)

-- lines in order, from line n on, up to the first that has a fault
abbrev pub read_lines : ℕ → ℕ → Profile → List (List ℕ) → Result Profile Fault
read_lines n offset x [] = Ok x
read_lines n offset x (line ∷ lines) = do
  x ← at_place n (line_of n offset x line)
  read_lines (n + 1) (offset + length line + 1) x lines

-- no points and no links
abbrev pub nothing : Profile
nothing = record { points = []; costs = []; names = []; links = []; last = 0 }

-- the profile of an input
abbrev pub profile_of : List ℕ → Result Profile Fault
profile_of input = read_lines 1 0 nothing (lines_of input)
