-- Tables of words.
use Rattle.std.specs.Prelude.{ℕ, List, [], ◌∷◌, if◌then◌else◌}
use Rattle.std.specs.Str.{bytes_eq}

-- the entry of a word in a table, or otherwise the other value
abbrev pub at_word : {A : Type 0} → List (List ℕ × A) → List ℕ → A → A
at_word [] word other = other
at_word (entry ∷ more) word other = if bytes_eq word entry.0 then entry.1 else at_word more word other
