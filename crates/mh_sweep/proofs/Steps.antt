-- Lists that are divided and marked, one number after another.
use Rattle.std.proofs.Common.{◌≡◌, ℕ, ◌+◌, ◌<◌, List, [], ◌∷◌, ◌++◌, Bool, true, false, cond, refl, sym, ◌∙◌, ap, inl, inr, length, take, set, get_or-set_same, get_or-set_other}
use Rattle.std.specs.Prelude.{◌||◌, ◌==◌}
use Rattle.std.specs.List.{filter, slice_index_or}
use Rattle.std.specs.List.Sorted.{IsStrictlyIncreasing}
use Rattle.std.proofs.lemmas.Bool.{cases_eq, eq-eqb, ne_eqb, true≢false}
use Rattle.std.proofs.lemmas.List.{append-nil}
use Rattle.std.proofs.lemmas.List.Elements.{filter_more}
use Rattle.std.proofs.lemmas.List.Folds.{list_any_more}
use Rattle.mh_network.specs.Parts.{place_of}
use Rattle.mh_network.specs.Selection.{member}
use Rattle.mh_sweep.proofs.Numbering.{num, place_in, place_here}

-- a number of an ascending list has the mark at its place
pub mark_here : (xs : List ℕ) (marks : List Bool) (i : ℕ) → IsStrictlyIncreasing xs → i < length xs → slice_index_or marks (place_of xs (num xs i)) false ≡ slice_index_or marks i false
mark_here xs marks i rising l = ap (λ k. slice_index_or marks k false) (place_here xs i rising l)

-- one more number passes
pub passed_more : (p : ℕ → Bool) (xs old new : List ℕ) (i : ℕ) → i < length xs → p (num xs i) ≡ true → old ≡ filter p (take i xs) → new ≡ old ++ num xs i ∷ [] → new ≡ filter p (take (i + 1) xs)
passed_more p xs old new i l here before more =
    more ∙ ((λ k. before k ++ cond (sym here k) (num xs i ∷ []) []) ∙ sym (filter_more p xs i 0 l))

-- one more number does not pass
pub failed_more : (p : ℕ → Bool) (xs old new : List ℕ) (i : ℕ) → i < length xs → p (num xs i) ≡ false → old ≡ filter p (take i xs) → new ≡ old → new ≡ filter p (take (i + 1) xs)
failed_more p xs old new i l here before same =
    same ∙ (before ∙ (sym (append-nil (filter p (take i xs))) ∙ ((λ k. filter p (take i xs) ++ cond (sym here k) (num xs i ∷ []) []) ∙ sym (filter_more p xs i 0 l))))

or_more : (first before here : Bool) → ((first || before) || here) ≡ (first || (before || here))
or_more true before here = refl
or_more false before here = refl

or_true : (b : Bool) → (b || true) ≡ true
or_true true = refl
or_true false = refl

or_false : (b : Bool) → (b || false) ≡ b
or_false true = refl
or_false false = refl

-- one more need
pub marks_more : (needs : List ℕ) (i p : ℕ) (first before after : Bool) → i < length needs → before ≡ (first || member (take i needs) p) → after ≡ (before || (num needs i == p)) → after ≡ (first || member (take (i + 1) needs) p)
marks_more needs i p first before after l was step =
    step ∙ ((λ k. was k || (num needs i == p)) ∙ (or_more first (member (take i needs) p) (num needs i == p) ∙ ap (λ b. first || b) (sym (list_any_more (λ q. q == p) needs i 0 l))))

-- the mark of a need is set
pub step_set : (points : List ℕ) (old : List Bool) (at need p : ℕ) → at ≡ place_of points need → member points need ≡ true → at < length old → member points p ≡ true →
    slice_index_or (set old at true) (place_of points p) false ≡ (slice_index_or old (place_of points p) false || (need == p))
step_set points old at need p is inside room e =
    elim (cases_eq need p) [
      | inl same ↦
          let here : place_of points p ≡ at = ap (place_of points) (sym same) ∙ sym is in
          rw (here, eq-eqb need p same, or_true (slice_index_or old at false)) (get_or-set_same old at true false room)
      | inr other ↦
          let apart : place_of points p ≡ at → need ≡ p = λ f. sym (place_in points need inside).1 ∙ (ap (num points) (sym is ∙ sym f) ∙ (place_in points p e).1) in
          let ne : (place_of points p ≡ at → ⊥) = λ f. other (apart f) in
          rw (ne_eqb need p other, or_false (slice_index_or old (place_of points p) false)) (get_or-set_other old at (place_of points p) true false ne)
    ]

-- a need outside of the block marks nothing
pub step_past : (points : List ℕ) (old : List Bool) (need p : ℕ) → member points need ≡ false → member points p ≡ true →
    slice_index_or old (place_of points p) false ≡ (slice_index_or old (place_of points p) false || (need == p))
step_past points old need p outside e =
    let other : need ≡ p → ⊥ = λ f. absurd (true≢false (sym e ∙ (ap (λ q. member points q) (sym f) ∙ outside))) in
    rw (ne_eqb need p other) (sym (or_false (slice_index_or old (place_of points p) false)))
