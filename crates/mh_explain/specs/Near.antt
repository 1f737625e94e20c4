-- The known word that was most likely meant by an unknown one.
use Rattle.std.specs.Prelude.{◌≡◌, ℕ, ◌<◌, ◌≤◌, List, [], length, nat_eq, slice_index_or}
use Rattle.std.specs.Str.{chars}
use Rattle.strsim.specs.Edits.{levenshtein_row}

-- the number of edits that lead from one text to the other (Levenshtein 1966)
abbrev pub edits : List ℕ → List ℕ → ℕ
edits from to = levenshtein_row nat_eq (chars from) (chars to) (length (chars to))

-- the number of edits that lead from a word to the name at an index
abbrev pub edits_to : List ℕ → List (List ℕ) → ℕ → ℕ
edits_to word names i = edits word (slice_index_or names i [])

-- at most two edits lead to the name, and fewer than the word has bytes
abbrev pub IsNear : List ℕ → List ℕ → Type 0
IsNear word name = (edits word name ≤ 2) × (edits word name < length word)

-- the first of the names to which the fewest edits lead, if it is near
abbrev pub IsNearest : List ℕ → List (List ℕ) → List ℕ → Type 0
IsNearest word names name =
    IsNear word name × (i : ℕ) × (i < length names) × (name ≡ slice_index_or names i [])
    × ((j : ℕ) → j < length names → edits word name ≤ edits_to word names j)
    × ((j : ℕ) → j < i → edits word name < edits_to word names j)
