-- Names as texts, and as the strings that hold them.
use Rattle.std.proofs.Common.{◌≡◌, ◌≤◌, ℕ, List, [], ◌∷◌, ◌++◌, cond, nat_lt, false, length, map, Some, None, String, Global, string_bytes, refl, sym, ◌∙◌, arith}
use Rattle.std.specs.List.{list_any, position_or_len, position}
use Rattle.std.specs.Option.{unwrap_or}
use Rattle.std.specs.Str.{bytes_eq}
use Rattle.std.proofs.lemmas.Bool.Decides.{nat_tests}
use Rattle.std.proofs.lemmas.List.{map_push}
use Rattle.std.proofs.lemmas.List.Sums.{prefix_len-le-length}

pub any_text : (name : List ℕ) (ks : List (String Global)) → list_any (bytes_eq name) (map string_bytes ks) ≡ list_any (λ k. bytes_eq name (string_bytes k)) ks
any_text name [] = refl
any_text name (k ∷ ks) = rw (any_text name ks) refl

first_text : (name : List ℕ) (ks : List (String Global)) → position_or_len (bytes_eq name) (map string_bytes ks) ≡ position_or_len (λ k. bytes_eq name (string_bytes k)) ks
first_text name [] = refl
first_text name (k ∷ ks) = rw (first_text name ks) refl

-- a string whose text is new stands last
pub new_last : (ks : List (String Global)) (k : String Global) → list_any (bytes_eq (string_bytes k)) (map string_bytes ks) ≡ false
    → map string_bytes (cond (list_any (λ x. bytes_eq (string_bytes k) (string_bytes x)) ks) ks (ks ++ k ∷ [])) ≡ map string_bytes ks ++ string_bytes k ∷ []
new_last ks k new =
    let absent : list_any (λ x. bytes_eq (string_bytes k) (string_bytes x)) ks ≡ false = sym (any_text (string_bytes k) ks) ∙ new in
    rw absent (map_push string_bytes ks k)

found_or : (k n : ℕ) → k ≤ n → unwrap_or (cond (nat_lt k n) (Some k) None) n ≡ k
found_or k n le = grind (arith, nat_tests)

-- the place of a text is that of its string
pub place_text : (name : List ℕ) (ks : List (String Global)) → unwrap_or (position (λ k. bytes_eq name (string_bytes k)) ks) (length ks) ≡ position_or_len (bytes_eq name) (map string_bytes ks)
place_text name ks = rw first_text (found_or _ (length ks) (prefix_len-le-length _ ks))
