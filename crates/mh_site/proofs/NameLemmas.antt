-- Names as texts, as the strings that hold them, and as those of parts.
use Rattle.std.proofs.Common.{◌≡◌, ◌≤◌, ◌<◌, ◌+◌, ℕ, List, [], ◌∷◌, ◌++◌, Bool, true, false, cond, nat_lt, length, map, take, slice_index_or, Option, Some, None, IfSome, IsSomeAnd, Bor, String, Global, string_bytes, refl, ap, sym, subst, ◌∙◌, arith}
use Rattle.std.specs.List.{list_any, position_or_len, position}
use Rattle.std.specs.Option.{option_copied, unwrap_or}
use Rattle.std.specs.Str.{bytes_eq}
use Rattle.std.proofs.lemmas.Bool.Decides.{nat_tests}
use Rattle.std.proofs.lemmas.List.{map_more, map_push}
use Rattle.std.proofs.lemmas.List.Sums.{prefix_len-le-length}
use Rattle.mh_site.specs.NamesInOrder.{with_name, place_of}

pub list_any-texts : (name : List ℕ) (ks : List (String Global)) → list_any (bytes_eq name) (map string_bytes ks) ≡ list_any (λ k. bytes_eq name (string_bytes k)) ks
list_any-texts name [] = refl
list_any-texts name (k ∷ ks) = rw (list_any-texts name ks) refl

pub position_or_len-texts : (name : List ℕ) (ks : List (String Global)) → position_or_len (bytes_eq name) (map string_bytes ks) ≡ position_or_len (λ k. bytes_eq name (string_bytes k)) ks
position_or_len-texts name [] = refl
position_or_len-texts name (k ∷ ks) = rw (position_or_len-texts name ks) refl

chosen_push : (b : Bool) (ks : List (String Global)) (k : String Global) → map string_bytes (cond b ks (ks ++ k ∷ [])) ≡ cond b (map string_bytes ks) (map string_bytes ks ++ string_bytes k ∷ [])
chosen_push true ks k = refl
chosen_push false ks k = map_push string_bytes ks k

-- the strings, with a new one last
pub with_name-texts : (ks : List (String Global)) (k : String Global) → map string_bytes (cond (list_any (λ x. bytes_eq (string_bytes k) (string_bytes x)) ks) ks (ks ++ k ∷ [])) ≡ with_name (map string_bytes ks) (string_bytes k)
with_name-texts ks k = chosen_push _ ks k ∙ rw (list_any-texts (string_bytes k) ks) refl

found_or : (k n : ℕ) → k ≤ n → unwrap_or (cond (nat_lt k n) (Some k) None) n ≡ k
found_or k n le = grind (arith, nat_tests)

-- the place of a name is that of its string
pub place_of-texts : (name : List ℕ) (ks : List (String Global)) → unwrap_or (position (λ k. bytes_eq name (string_bytes k)) ks) (length ks) ≡ place_of (map string_bytes ks) name
place_of-texts name ks =
    rw position_or_len-texts (found_or _ (length ks) (prefix_len-le-length _ ks))

-- ---- the names of parts
module _ {X : Type 0} (name_of : X → List ℕ) where
  -- a name is among those of parts where a part has it
  pub named : (name : List ℕ) (xs : List X) → list_any (bytes_eq name) (map name_of xs) ≡ list_any (λ x. bytes_eq name (name_of x)) xs
  named name [] = refl
  named name (x ∷ xs) = rw (named name xs) refl

  with_new : (names : List (List ℕ)) (name : List ℕ) → list_any (bytes_eq name) names ≡ false → with_name names name ≡ names ++ name ∷ []
  with_new names name new = rw new refl

  last_added : (xs : List X) (i : ℕ) (x : X) (before after : List (List ℕ)) → i < length xs → x ≡ slice_index_or xs i x
      → list_any (λ y. bytes_eq (name_of x) (name_of y)) (take i xs) ≡ false → before ≡ map name_of (take i xs) → after ≡ with_name before (name_of x)
      → after ≡ map name_of (take (i + 1) xs)
  last_added xs i x before after lt is new e more =
      let unnamed : list_any (bytes_eq (name_of x)) before ≡ false = ap (list_any (bytes_eq (name_of x))) e ∙ (named (name_of x) (take i xs) ∙ new) in
      more ∙ (with_new before (name_of x) unnamed
      ∙ (ap (λ ns. ns ++ name_of x ∷ []) e ∙ (ap (λ y. map name_of (take i xs) ++ name_of y ∷ []) is ∙ sym (map_more name_of xs i x lt))))

  -- a table of the names of the parts so far, and one more, whose name is new
  pub one_more : (xs : List X) (i : ℕ) (x : X) (name : List ℕ) (seen more : Option (List (List ℕ))) → i < length xs → x ≡ slice_index_or xs i x → name ≡ name_of x
      → list_any (λ y. bytes_eq (name_of x) (name_of y)) (take i xs) ≡ false → IfSome seen (λ names. names ≡ map name_of (take i xs))
      → IfSome more (λ after. IsSomeAnd seen (λ before. after ≡ with_name before name))
      → IfSome more (λ names. names ≡ map name_of (take (i + 1) xs))
  one_more xs i x name seen None lt is same new e h = tt
  one_more xs i x name None (Some after) lt is same new e h = absurd h
  one_more xs i x name (Some before) (Some after) lt is same new e h = last_added xs i x before after lt is new e (h ∙ ap (with_name before) same)

  -- a name that a table is asked for
  pub asked : (name : List ℕ) (xs : List X) (seen : Option (Bor (List (List ℕ)))) (names : Bor (List (List ℕ))) → seen ≡ Some names
      → IfSome seen (λ ns. ns.now ≡ map name_of xs) → list_any (bytes_eq name) names.now ≡ list_any (λ x. bytes_eq name (name_of x)) xs
  asked name xs seen names is h =
      let e : names.now ≡ map name_of xs = subst (λ o. IfSome o (λ ns. ns.now ≡ map name_of xs)) is h in
      ap (list_any (bytes_eq name)) e ∙ named name xs

-- what is lent of a value that may be absent
pub lent : {X : Type 0} (P : X → Type 0) (o : Option (Bor X)) (x : Option X) → option_copied o ≡ x → IfSome x P → IfSome o (λ r. P r.now)
lent P None x e h = tt
lent P (Some r) x e h = subst (λ y. IfSome y P) (sym e) h
