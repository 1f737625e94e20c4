-- Sums element by element.
use Rattle.std.proofs.Common.{◌≡◌, ℕ, zero, suc, ◌+◌, ◌<◌, ◌≤◌, List, [], ◌∷◌, length, slice_index_or, replicate, ◌^◌, refl, ap, sym, ◌∙◌, arith}
use Rattle.std.proofs.lemmas.List.{ext_get_or, length-replicate}
use Rattle.std.proofs.lemmas.Grind.{get_or_default_zero}
use Rattle.std.specs.List.{All}
use Rattle.mh_ledger.specs.Ledgers.{at, added, made, LedgerState, IsLedger, settled}

pub length-added : (xs ys : List ℕ) → length (added xs ys) ≡ length xs
length-added [] ys = refl
length-added (x ∷ xs) [] = refl
length-added (x ∷ xs) (y ∷ ys) = ap (λ n. suc n) (length-added xs ys)

pub at-added : (xs ys : List ℕ) (j : ℕ) → length xs ≡ length ys → at (added xs ys) j ≡ at xs j + at ys j
at-added [] [] j e = omega arith
at-added [] (y ∷ ys) j e = absurd (omega arith)
at-added (x ∷ xs) [] j e = absurd (omega arith)
at-added (x ∷ xs) (y ∷ ys) zero e = refl
at-added (x ∷ xs) (y ∷ ys) (suc j) e = at-added xs ys j (omega arith)

pub is_added : (xs ys zs : List ℕ) → length xs ≡ length ys → length zs ≡ length xs → ((j : ℕ) → j < length xs → at zs j ≡ at xs j + at ys j) → zs ≡ added xs ys
is_added xs ys zs e g h = ext_get_or 0 zs (added xs ys) (g ∙ sym (length-added xs ys)) (λ j in'. h j (omega arith) ∙ sym (at-added xs ys j e))

pub all_added : (xs ys : List ℕ) (limit : ℕ) → length xs ≡ length ys → ((j : ℕ) → j < length xs → at xs j + at ys j ≤ limit) → All (λ n. n ≤ limit) (added xs ys)
all_added xs ys limit e h k d in' =
    let same : slice_index_or (added xs ys) k d ≡ at (added xs ys) k = get_or_default_zero (added xs ys) k d in' in
    let sum = at-added xs ys k e in
    let bound = h k (omega (arith, length-added xs ys)) in
    omega arith

pub all_zero : (n limit : ℕ) → All (λ x. x ≤ limit) (replicate n 0)
all_zero zero limit k d h = absurd (omega arith)
all_zero (suc n) limit zero d h = omega arith
all_zero (suc n) limit (suc k) d h = all_zero n limit k d (omega arith)

pub settled_sound : (l : LedgerState) → IsLedger l → ((j : ℕ) → j < length l.unflushed → made l j ≤ 2 ^ 62) → IsLedger (settled l)
settled_sound l is fits = record {
  lengths = length-added l.flushed l.unflushed ∙ (is.lengths ∙ sym (length-replicate (length l.unflushed) 0));
  unflushed = all_zero (length l.unflushed) l.limit;
  flushed = all_added l.flushed l.unflushed (2 ^ 62) is.lengths (λ j h. fits j (omega (arith, h, is.lengths)));
  limit = is.limit;
}

pub at-zeros : (n j : ℕ) → at (replicate n 0) j ≡ 0
at-zeros zero j = refl
at-zeros (suc n) zero = refl
at-zeros (suc n) (suc j) = at-zeros n j
