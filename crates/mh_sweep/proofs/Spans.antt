-- The scales of a block: where it has no links, where its scales meet, and from those of its halves.
use Rattle.std.proofs.Common.{◌≡◌, ℕ, ◌+◌, ◌<◌, List, [], ◌∷◌, Bool, true, false, refl, arith, sym, ◌∙◌, subst, inl, inr, length, Result, Ok, Err}
use Rattle.std.specs.Prelude.{◌&&◌, not, OnOk}
use Rattle.std.proofs.lemmas.Bool.{cases_Bool, true≢false}
use Rattle.mh_network.specs.declared.part.Part.{Part}
use Rattle.mh_network.specs.Problems.{ProblemData}
use Rattle.mh_network.specs.Selection.{member}
use Rattle.mh_network.specs.Blocks.{BlocksSolve, IsSolved}
use Rattle.mh_sweep.specs.Sweeps.{AreBetween, IsOpen, number_at}

none_in : (xs : List ℕ) → length xs ≡ 0 → (j : ℕ) → member xs j ≡ false
none_in [] e j = refl
none_in (x ∷ xs) e j = absurd (omega (arith, e))

none_open : (m l h : Bool) → m ≡ (l && not h) → m ≡ false → (h ≡ true → l ≡ true) → l ≡ h
none_open m true true between e within = refl
none_open m false false between e within = refl
none_open m false true between e within = absurd (true≢false (sym (within refl)))
none_open m true false between e within = absurd (true≢false (sym between ∙ e))

open_link : (m l h : Bool) → m ≡ (l && not h) → l ≡ true → h ≡ false → m ≡ true
open_link m true false between e f = between
open_link m l true between e f = absurd (true≢false f)
open_link m false h between e f = absurd (true≢false (sym e))

open_parts : (m l h : Bool) → m ≡ (l && not h) → m ≡ true → (l ≡ true) × (h ≡ false)
open_parts m true false between e = (refl, refl)
open_parts m true true between e = absurd (true≢false (sym e ∙ between))
open_parts m false h between e = absurd (true≢false (sym e ∙ between))

-- where a block has no links, any numbers will do
pub solved_none : (P : ProblemData) → BlocksSolve P → (first last : ℕ) (part : Part) (until : ℕ → ℕ) → length part.links ≡ 0 →
    (low high : ℕ → Bool) → IsOpen P first last part low high → IsSolved P first last low high until
solved_none P solve first last part until none low high open_block =
    solve.same first last low high until open_block.least open_block.end
    (λ j. none_open (member part.links j) (low j) (high j) (open_block.block.between j) (none_in part.links none j) (open_block.within j))

-- where the scales meet, the number of each link is the last
pub solved_one : (P : ProblemData) → BlocksSolve P → (first last : ℕ) (part : Part) (until : ℕ → ℕ) → first + 1 ≡ last → ((j : ℕ) → member part.links j ≡ true → until j ≡ last) →
    (low high : ℕ → Bool) → IsOpen P first last part low high → IsSolved P first last low high until
solved_one P solve first last part until meet written low high open_block =
    subst (λ (m : ℕ). IsSolved P first m low high until) meet
    (solve.one first low high until open_block.least open_block.within
    (λ j e f. let here = written j (open_link (member part.links j) (low j) (high j) (open_block.block.between j) e f) in omega (arith, here, meet)))

-- what the two halves of a block are
pub record AreHalves (P : ProblemData) (first k last : ℕ) (part upper lower : Part) : Type 0 where
  pub between : (low high : ℕ → Bool) → IsOpen P first last part low high → (mid : ℕ → Bool) × IsOpen P k last upper mid high × IsOpen P first k lower low mid

-- numbers that a half has, and that stay otherwise
pub record IsWritten (P : ProblemData) (first last : ℕ) (part : Part) (old new : List ℕ) : Type 0 where
  pub between : AreBetween first last part.links new
  pub others : (j : ℕ) → member part.links j ≡ false → number_at new j ≡ number_at old j
  pub solved : (low high : ℕ → Bool) → IsOpen P first last part low high → IsSolved P first last low high (number_at new)

module _ (P : ProblemData) (solve : BlocksSolve P) (first k last : ℕ) (above : first < k) (below : k < last) (part upper lower : Part)
    (halves : AreHalves P first k last part upper lower) (old mid_way new : List ℕ) (high_half : IsWritten P k last upper old mid_way) (low_half : IsWritten P first k lower mid_way new)
    (low high : ℕ → Bool) (open_block : IsOpen P first last part low high) where
  abbrev mid : ℕ → Bool
  mid = (halves.between low high open_block).0

  abbrev up : IsOpen P k last upper (halves.between low high open_block).0 high
  up = (halves.between low high open_block).1

  abbrev down : IsOpen P first k lower low (halves.between low high open_block).0
  down = (halves.between low high open_block).2

  not_lower : (j : ℕ) → (halves.between low high open_block).0 j ≡ true → member lower.links j ≡ false
  not_lower j e = elim (cases_Bool (member lower.links j)) [
    | inl inside ↦ absurd (true≢false (sym e ∙ (open_parts (member lower.links j) (low j) ((halves.between low high open_block).0 j) (down.block.between j) inside).1))
    | inr out ↦ out
  ]

  kept_number : (j : ℕ) → (halves.between low high open_block).0 j ≡ true → number_at new j ≡ number_at mid_way j
  kept_number j e = low_half.others j (not_lower j e)

  pub solved_two : IsSolved P first last low high (number_at new)
  solved_two =
      solve.two first k last low (halves.between low high open_block).0 high (number_at new) up.within down.within
      (λ j e f. (low_half.between j (open_link (member lower.links j) (low j) ((halves.between low high open_block).0 j) (down.block.between j) e f)).1)
      (λ j e f. let here = high_half.between j (open_link (member upper.links j) ((halves.between low high open_block).0 j) (high j) (up.block.between j) e f) in omega (arith, here.0, kept_number j e))
      (low_half.solved low (halves.between low high open_block).0 down)
      (solve.kept k last (halves.between low high open_block).0 high (number_at mid_way) (number_at new) (λ j e f. sym (kept_number j e)) (high_half.solved (halves.between low high open_block).0 high up))

  pub between_two : AreBetween first last part.links new
  between_two j inside =
      let parts = open_parts (member part.links j) (low j) (high j) (open_block.block.between j) inside in
      elim (cases_Bool ((halves.between low high open_block).0 j)) [
        | inl chosen ↦
            let here = high_half.between j (open_link (member upper.links j) ((halves.between low high open_block).0 j) (high j) (up.block.between j) chosen parts.1) in
            (omega (arith, here.0, kept_number j chosen, above), omega (arith, here.1, kept_number j chosen))
        | inr other ↦
            let here = low_half.between j (open_link (member lower.links j) (low j) ((halves.between low high open_block).0 j) (down.block.between j) parts.0 other) in
            (here.0, omega (arith, here.1, below))
      ]

  pub others_two : (j : ℕ) → member part.links j ≡ false → number_at new j ≡ number_at old j
  others_two j out =
      let outside : (low j ≡ true → high j ≡ false → ⊥) = λ e f. true≢false (sym (open_link (member part.links j) (low j) (high j) (open_block.block.between j) e f) ∙ out) in
      let not_low : member lower.links j ≡ false = elim (cases_Bool (member lower.links j)) [
        | inl inside ↦
            let parts = open_parts (member lower.links j) (low j) ((halves.between low high open_block).0 j) (down.block.between j) inside in
            elim (cases_Bool (high j)) [
              | inl chosen ↦ absurd (true≢false (sym (up.within j chosen) ∙ parts.1))
              | inr left ↦ absurd (outside parts.0 left)
            ]
        | inr none ↦ none
      ] in
      let not_high : member upper.links j ≡ false = elim (cases_Bool (member upper.links j)) [
        | inl inside ↦
            let parts = open_parts (member upper.links j) ((halves.between low high open_block).0 j) (high j) (up.block.between j) inside in
            absurd (outside (down.within j parts.0) parts.1)
        | inr none ↦ none
      ] in
      low_half.others j not_low ∙ high_half.others j not_high

-- what follows of three facts of a success
pub on_ok : {T E A B C D : Type 0} (r : Result T E) → (A → B → C → D) → OnOk r A → OnOk r B → OnOk r C → OnOk r D
on_ok (Ok x) f a b c = f a b c
on_ok (Err e) f a b c = tt
