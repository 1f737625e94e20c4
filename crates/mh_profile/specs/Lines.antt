-- The lines of a text.
use Rattle.std.specs.Prelude.{ℕ, ◌≡◌, ◌==◌, ◌||◌, Bool, false, List}
use Rattle.std.specs.List.{All, list_all, slice_split}

-- the parts between bytes 0x0A: the last line is the part after the last of them
abbrev pub lines_of : List ℕ → List (List ℕ)
lines_of bytes = slice_split (λ b. b == 10) bytes

-- the byte 0x0A does not occur in it
abbrev pub IsInLine : List ℕ → Type 0
IsInLine bytes = All (λ b. (b == 10) ≡ false) bytes

-- a space, a tab or the byte 0x0D
abbrev pub is_space : ℕ → Bool
is_space b = (b == 32) || ((b == 9) || (b == 13))

-- white space alone
abbrev pub is_blank : List ℕ → Bool
is_blank line = list_all is_space line
