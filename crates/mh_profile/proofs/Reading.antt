-- What a reader of lines has taken, and what is read of the rest.
use Rattle.std.proofs.Common.{◌≡◌, ◌≤◌, ◌+◌, ◌⊎◌, ℕ, List, [], ◌∷◌, ◌++◌, true, false, length, refl, sym, ap, ◌∙◌, subst, arith, inl, inr, nat_le, Result, Ok, Err}
use Rattle.std.specs.Prelude.{◌==◌, ◌&&◌}
use Rattle.std.proofs.lemmas.Bool.Decides.{nat_tests}
use Rattle.std.proofs.lemmas.List.{append_assoc, length-append}
use Rattle.std.proofs.lemmas.List.Elements.{All-append}
use Rattle.mh_json.specs.Gives.{◌>>=◌, no_memory, too_long, at_place, GivesAt, outside}
use Rattle.mh_json.specs.declared.fault.Fault.{Fault}
use Rattle.mh_profile.specs.declared.profile.Profile.{Profile}
use Rattle.mh_profile.specs.declared.reader.LineReader.{LineReader}
use Rattle.mh_profile.specs.Lines.{IsInLine, lines_of}
use Rattle.mh_profile.specs.Limits.{most_in_all}
use Rattle.mh_profile.specs.Profiles.{is_within, read_lines, text_of_line}
use Rattle.mh_profile.specs.Readers.{resumed, IsReading, Takes}
use Rattle.mh_profile.proofs.Lines.{begins, line_and_rest, last_line}

within_less : (o m n : ℕ) → m ≤ n → (nat_le m 1048576 && nat_le (o + m) most_in_all) ≡ false → (nat_le n 1048576 && nat_le (o + n) most_in_all) ≡ false
within_less o m n le h = grind (arith, nat_tests)

bind_ok : {A E : Type 0} (r : Result A E) → (r >>= λ x. Ok x) ≡ r
bind_ok (Ok x) = refl
bind_ok (Err e) = refl

module _ (n offset : ℕ) (x : Profile) (line : List ℕ) (whole : IsInLine line) where
  -- a line that is too long already
  pub too_late : (rest : List ℕ) → is_within offset line ≡ false → read_lines n offset x (lines_of (line ++ rest)) ≡ Err (record { kind = too_long; at = n })
  too_late rest long =
      let b = begins line rest whole in
      let longer : is_within offset b.first ≡ false = within_less offset (length line) (length b.first) b.longer long in
      ap (read_lines n offset x) b.is ∙ rw longer refl

  module _ (within : is_within offset line ≡ true) where
    -- a line and its end
    pub end_read : (rest : List ℕ) (next : Profile) → at_place n (text_of_line n x line) ≡ Ok next
        → read_lines n offset x (lines_of (line ++ 10 ∷ rest)) ≡ read_lines (n + 1) (offset + length line + 1) next (lines_of rest)
    end_read rest next read = ap (read_lines n offset x) (line_and_rest line rest whole) ∙ rw (within, read) refl

    pub end_fails : (rest : List ℕ) (e : Fault) → at_place n (text_of_line n x line) ≡ Err e → read_lines n offset x (lines_of (line ++ 10 ∷ rest)) ≡ Err e
    end_fails rest e read = ap (read_lines n offset x) (line_and_rest line rest whole) ∙ rw (within, read) refl

    last_is : read_lines n offset x (lines_of (line ++ [])) ≡ at_place n (text_of_line n x line)
    last_is = ap (read_lines n offset x) (last_line line whole) ∙ rw within (bind_ok (at_place n (text_of_line n x line)))

    -- and the last line
    pub last_read : (r : Result Profile Fault) → GivesAt (λ x. x) r (at_place n (text_of_line n x line)) → GivesAt (λ x. x) r (read_lines n offset x (lines_of (line ++ [])))
    last_read r gives = subst (GivesAt (λ x. x) r) (sym last_is) gives

-- ---- bytes one after the other
pub takes_more : (r m : LineReader) (a b : List ℕ) (s : Result LineReader Fault) → Takes r a (Ok m) → Takes m b s → Takes r (a ++ b) s
takes_more r m a b (Ok next) one two = λ rest. ap (resumed r) (append_assoc a b rest) ∙ (one (b ++ rest) ∙ two rest)
takes_more r m a b (Err e) one (inl memory) = inl memory
takes_more r m a b (Err e) one (inr fails) = inr (λ rest. ap (resumed r) (append_assoc a b rest) ∙ (one (b ++ rest) ∙ fails rest))

pub takes_fails : (r : LineReader) (a b : List ℕ) (e : Fault) → Takes r a (Err e) → Takes r (a ++ b) (Err e)
takes_fails r a b e (inl memory) = inl memory
takes_fails r a b e (inr fails) = inr (λ rest. ap (resumed r) (append_assoc a b rest) ∙ fails (b ++ rest))

-- ---- what a reader that took bytes became
pub late_part : (r : LineReader) (part line : List ℕ) → IsInLine r.line → IsInLine part → line ≡ r.line ++ part → is_within r.offset line ≡ false
    → (rest : List ℕ) → resumed r (part ++ rest) ≡ Err (record { kind = too_long; at = r.number })
late_part r part line whole more is long rest =
    let late : is_within r.offset (r.line ++ part) ≡ false = subst (λ bs. is_within r.offset bs ≡ false) is long in
    ap (λ bs. read_lines r.number r.offset r.profile (lines_of bs)) (sym (append_assoc r.line part rest))
    ∙ too_late r.number r.offset r.profile (r.line ++ part) (All-append (λ b. (b == 10) ≡ false) r.line part whole more) rest late

module _ (r : LineReader) (reading : IsReading r) where
  pub end_taken : (next : LineReader) → at_place r.number (text_of_line r.number r.profile r.line) ≡ Ok next.profile
      → next.number ≡ r.number + 1 → next.offset ≡ r.offset + length r.line + 1 → next.line ≡ [] → Takes r (10 ∷ []) (Ok next)
  end_taken next read number offset line = λ rest.
      rw (number, offset, line) (end_read r.number r.offset r.profile r.line reading.begun.whole reading.within rest next.profile read)

  pub end_refused : (e : Fault) → (e ≡ outside no_memory) ⊎ (at_place r.number (text_of_line r.number r.profile r.line) ≡ Err e) → Takes r (10 ∷ []) (Err e)
  end_refused e (inl memory) = inl memory
  end_refused e (inr fails) = inr (λ rest. end_fails r.number r.offset r.profile r.line reading.begun.whole reading.within rest e fails)

  pub finished : (s : Result Profile Fault) → GivesAt (λ x. x) s (at_place r.number (text_of_line r.number r.profile r.line)) → GivesAt (λ x. x) s (resumed r [])
  finished s gives = last_read r.number r.offset r.profile r.line reading.begun.whole reading.within s gives

pub lengths : (part more : List ℕ) → length ((part ++ 10 ∷ []) ++ more) ≡ length part + 1 + length more
lengths part more = simp length-append (omega arith)

-- ---- what was taken of bytes, and what is left of them
module _ (r m : LineReader) (bytes front rest : List ℕ) (is : bytes ≡ front ++ rest) (one : Takes r front (Ok m)) where
  pub last_taken : (s : Result LineReader Fault) → Takes m rest s → Takes r bytes s
  last_taken s two = subst (λ bs. Takes r bs s) (sym is) (takes_more r m front rest s one two)

  module _ (part more : List ℕ) (split : rest ≡ (part ++ 10 ∷ []) ++ more) where
    parted_on : bytes ≡ (front ++ (part ++ 10 ∷ [])) ++ more
    parted_on = is ∙ (ap (λ xs. front ++ xs) split ∙ sym (append_assoc front (part ++ 10 ∷ []) more))

    pub line_taken : (next : LineReader) → Takes m (part ++ 10 ∷ []) (Ok next) → (all : List ℕ) × (bytes ≡ all ++ more) × Takes r all (Ok next)
    line_taken next two = (front ++ (part ++ 10 ∷ []), parted_on, takes_more r m front (part ++ 10 ∷ []) (Ok next) one two)

    pub line_fails : (e : Fault) → Takes m (part ++ 10 ∷ []) (Err e) → Takes r bytes (Err e)
    line_fails e two = subst (λ bs. Takes r bs (Err e)) (sym parted_on) (takes_fails r (front ++ (part ++ 10 ∷ [])) more e (takes_more r m front (part ++ 10 ∷ []) (Err e) one two))
