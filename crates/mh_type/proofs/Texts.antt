-- The test of texts decides what a text is.
use Rattle.std.proofs.Common.{◌≡◌, ℕ, ◌+◌, ◌≤◌, ◌++◌, ◌&&◌, Bool, true, false, List, [], length, refl, leb}
use Rattle.std.proofs.lemmas.Bool.{leb-true, le-leb}
use Rattle.std.proofs.lemmas.List.Sums.{AllPass-from_list_all, list_all-from_AllPass}
use Rattle.std.proofs.lemmas.List.{append-nil, length-append}
use Rattle.std.proofs.lemmas.List.Elements.{All-append}
use Rattle.std.specs.List.{list_all}
use Rattle.mh_type.specs.Printable.{IsPrintable, IsText, is_printable, is_text}

both : (x y : Bool) → x && y ≡ true → (x ≡ true) × (y ≡ true)
both true y h = (refl, h)
both false y h = cc

joined : (x y : Bool) → x ≡ true → y ≡ true → x && y ≡ true
joined x y p q = rw p q

printable : (b : ℕ) → is_printable b ≡ true → IsPrintable b
printable b h = let parts = both (leb 0x20 b) (leb b 0x7E) h in (leb-true _ _ parts.0, leb-true _ _ parts.1)

pub text_is : (bytes : List ℕ) → is_text bytes ≡ true → IsText bytes
text_is bytes h =
    let parts = both (leb (length bytes) 65536) (list_all is_printable bytes) h in
    record {
      short = leb-true _ _ parts.0;
      printable = λ k d lt. printable _ (AllPass-from_list_all is_printable bytes parts.1 k d lt);
    }

pub is_text_from : (bytes : List ℕ) → IsText bytes → is_text bytes ≡ true
is_text_from bytes h =
    joined _ _ (le-leb _ _ h.short)
    (list_all-from_AllPass is_printable bytes (λ k d lt. let p = h.printable k d lt in joined _ _ (le-leb _ _ p.0) (le-leb _ _ p.1)))

pub is_text_not : (bytes : List ℕ) → (IsText bytes → ⊥) → is_text bytes ≡ false
is_text_not bytes never = by (is_text bytes) refl
  where
    by : (b : Bool) → is_text bytes ≡ b → is_text bytes ≡ false
    by true e = absurd (never (text_is bytes e))
    by false e = e

-- one text and then another is a text where it is short
pub concat_is_text : (s t : List ℕ) → IsText s → IsText t → length s + length t ≤ 65536 → IsText (s ++ t)
concat_is_text s t first second short =
    record {
      short = rw (length-append s t) short;
      printable = All-append IsPrintable s t first.printable second.printable;
    }

-- a text and then nothing
pub then_nothing : (s : List ℕ) → s ++ [] ≡ s
then_nothing s = append-nil s
