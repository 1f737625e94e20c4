-- Lawful names: 1 to 64 bytes, first a letter or `_` (95), then letters, digits, `_`, `.` (46) and `-` (45), all ASCII.
use Rattle.std.specs.Prelude.{ℕ, Bool, false, ◌==◌, ◌&&◌, ◌||◌, nat_le, nat_lt, List, [], ◌∷◌, length}
use Rattle.std.specs.List.{list_all}
use Rattle.mh_site.specs.Limits.{longest_name}

abbrev pub is_between : ℕ → ℕ → ℕ → Bool
is_between low high b = nat_le low b && nat_le b high

abbrev pub begins_name : ℕ → Bool
begins_name b = is_between 65 90 b || is_between 97 122 b || b == 95

abbrev pub continues_name : ℕ → Bool
continues_name b = begins_name b || is_between 48 57 b || b == 46 || b == 45

abbrev pub is_name : List ℕ → Bool
is_name [] = false
is_name (b ∷ bs) = nat_lt (length bs) longest_name && begins_name b && list_all continues_name bs
