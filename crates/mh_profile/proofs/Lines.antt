-- Lines as they are cut from bytes.
use Rattle.std.proofs.Common.{◌≡◌, ◌≤◌, ◌<◌, ◌+◌, ℕ, zero, suc, List, [], ◌∷◌, ◌++◌, Bool, true, false, cond, length, take, drop, nat_lt, Some, None, ◌-◌, refl, sym, ap, ◌∙◌, arith, inl, inr, get_or, take-append-drop}
use Rattle.std.specs.Prelude.{◌==◌}
use Rattle.std.specs.List.{onto_first, position, position_or_len}
use Rattle.std.proofs.lemmas.Bool.{cases_lt, eqb-true}
use Rattle.std.proofs.lemmas.Bool.Decides.{nat_tests}
use Rattle.std.proofs.lemmas.Grind.{common_steps}
use Rattle.std.proofs.lemmas.List.{drop_more, get_or-take, append-nil, append_assoc, take_rest}
use Rattle.std.proofs.lemmas.List.Quantifiers.{position-Some}
use Rattle.std.proofs.lemmas.List.Sums.{fails_before_first}
use Rattle.std.proofs.lemmas.List.Splits.{slice_split_none, slice_split_at}
use Rattle.mh_profile.specs.Lines.{IsInLine, lines_of}

abbrev ends : ℕ → Bool
ends b = b == 10

-- ---- bytes up to the first end of a line
module _ (bytes : List ℕ) (i : ℕ) (found : position ends bytes ≡ Some i) where
  pub end_inside : i < length bytes
  end_inside = (position-Some ends bytes i 0 found).0

  pub part_in_line : IsInLine (take i bytes)
  part_in_line = λ k d l.
      let all = position-Some ends bytes i d found in
      let inside : k < i = grind (arith, common_steps) in
      ap ends (get_or-take i bytes k d inside) ∙ all.2 k inside

  pub parted : bytes ≡ (take i bytes ++ 10 ∷ []) ++ drop (i + 1) bytes
  parted =
      let at = position-Some ends bytes i 0 found in
      let ten : get_or bytes i 0 ≡ 10 = eqb-true _ 10 at.1 in
      sym (take-append-drop i bytes) ∙ (ap (λ xs. take i bytes ++ xs) (drop_more bytes i 0 at.0 ∙ ap (λ b. b ∷ drop (i + 1) bytes) ten)
      ∙ sym (append_assoc (take i bytes) (10 ∷ []) (drop (i + 1) bytes)))

  -- the rest as a slice of what follows is
  pub parted_slice : bytes ≡ (take i bytes ++ 10 ∷ []) ++ take (length bytes - (i + 1)) (drop (i + 1) bytes)
  parted_slice = parted ∙ ap (λ xs. (take i bytes ++ 10 ∷ []) ++ xs) (sym (take_rest bytes (i + 1)))

-- bytes in which no line ends
pub no_end : (bytes : List ℕ) → position ends bytes ≡ None → IsInLine bytes
no_end bytes none = λ k d l.
    elim (cases_lt (position_or_len ends bytes) (length bytes)) [
      | inl inside ↦
          let yes : nat_lt (position_or_len ends bytes) (length bytes) ≡ true = grind (arith, nat_tests) in
          let some = rw yes at none in
          cc
      | inr past ↦ fails_before_first ends bytes k d (omega arith)
    ]

-- ---- the first line begins with bytes that no end of a line parts
pub record Begins (front : List ℕ) (lines : List (List ℕ)) : Type 0 where
  pub first : List ℕ
  pub others : List (List ℕ)
  pub is : lines ≡ first ∷ others
  pub longer : length front ≤ length first

onto : (b : ℕ) (front : List ℕ) (lines : List (List ℕ)) → Begins front lines → Begins (b ∷ front) (onto_first b lines)
onto b front lines h = record { first = b ∷ h.first; others = h.others; is = ap (onto_first b) h.is; longer = let le = h.longer in omega arith }

split_some : (b : Bool) (x : ℕ) (lines : List (List ℕ)) → Begins [] lines → Begins [] (cond b ([] ∷ lines) (onto_first x lines))
split_some true x lines h = record { first = []; others = lines; is = refl; longer = omega arith }
split_some false x lines h = record { first = x ∷ h.first; others = h.others; is = ap (onto_first x) h.is; longer = omega arith }

some_line : (bytes : List ℕ) → Begins [] (lines_of bytes)
some_line [] = record { first = []; others = []; is = refl; longer = omega arith }
some_line (b ∷ bytes) = split_some (ends b) b (lines_of bytes) (some_line bytes)

pub begins : (front rest : List ℕ) → IsInLine front → Begins front (lines_of (front ++ rest))
begins [] rest h = some_line rest
begins (b ∷ front) rest h =
    let same : ends b ≡ false = h zero 0 (omega arith) in
    let more = onto b front _ (begins front rest (λ k d l. h (suc k) d (omega arith))) in
    rw same more

-- ---- a line and its end, and the last line
pub line_and_rest : (line rest : List ℕ) → IsInLine line → lines_of (line ++ 10 ∷ rest) ≡ line ∷ lines_of rest
line_and_rest line rest h = slice_split_at ends line 10 rest h refl

pub last_line : (line : List ℕ) → IsInLine line → lines_of (line ++ []) ≡ line ∷ []
last_line line h = ap lines_of (append-nil line) ∙ slice_split_none ends line h
