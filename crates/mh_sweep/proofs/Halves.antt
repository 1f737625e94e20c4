-- A block splits at a scale: into the links that are chosen there with the points that they need, and the others.
use Rattle.std.proofs.Common.{◌≡◌, ℕ, ◌≤◌, ◌<◌, List, [], ◌∷◌, Bool, true, false, cond, refl, sym, ◌∙◌, ap, subst, inl, inr, length}
use Rattle.std.specs.Prelude.{◌||◌, ◌&&◌, ◌==◌, not}
use Rattle.std.specs.List.{list_any, filter, slice_index_or}
use Rattle.std.proofs.lemmas.Map.Views.{any-filter_same}
use Rattle.std.proofs.lemmas.Bool.{cases_Bool, cases_lt, true≢false, and_from, and_parts, or_left, or_right, eqb-true, eq-eqb}
use Rattle.std.proofs.lemmas.List.{get_or_past}
use Rattle.std.proofs.lemmas.List.Kept.{IsStrictlyIncreasing-filter}
use Rattle.mh_network.specs.declared.part.Part.{Part}
use Rattle.mh_network.specs.Problems.{ProblemData, link_at, needs_point, no_link}
use Rattle.mh_network.specs.Parts.{place_of}
use Rattle.mh_network.specs.Scales.{DearerNest, scaled}
use Rattle.mh_network.specs.Selection.{IsLeast, member, union_of_needs}
use Rattle.mh_network.specs.Blocks.{BlocksSplit, IsBlock, ScaleBlocksJoin, scaled_block, with_block}
use Rattle.mh_network.specs.Laws.Members.{found, passing, same_answer}
use Rattle.mh_network.specs.Laws.Optimal.{some_below-from, some_below-gives}
use Rattle.mh_sweep.specs.Sweeps.{IsOpen}

-- an eligible link is one of the problem
pub eligible_inside : (P : ProblemData) (j : ℕ) → (link_at P j).eligible ≡ true → j < length P.links
eligible_inside P j e = elim (cases_lt j (length P.links)) [
  | inl l ↦ l
  | inr past ↦ absurd (true≢false (sym e ∙ ap (λ r. r.eligible) (get_or_past P.links j no_link past)))
]

filtered : (V : ℕ → Bool) (xs : List ℕ) (j : ℕ) → member (filter V xs) j ≡ (V j && member xs j)
filtered V xs j = any-filter_same (λ x. x == j) V (V j) (λ k e. ap V (eqb-true k j e)) xs

pub of_both : (V : ℕ → Bool) (xs : List ℕ) (j : ℕ) → member (filter V xs) j ≡ true → (V j ≡ true) × (member xs j ≡ true)
of_both V xs j e = and_parts (V j) (member xs j) (sym (filtered V xs j) ∙ e)

pub to_both : (V : ℕ → Bool) (xs : List ℕ) (j : ℕ) → V j ≡ true → member xs j ≡ true → member (filter V xs) j ≡ true
to_both V xs j e f = filtered V xs j ∙ and_from (V j) (member xs j) e f

-- tests that agree on the members of a list keep the same of it
alike_kept : (p q : ℕ → Bool) (xs : List ℕ) → ((j : ℕ) → member xs j ≡ true → p j ≡ q j) → filter p xs ≡ filter q xs
alike_kept p q [] same = refl
alike_kept p q (x ∷ xs) same =
    let here : p x ≡ q x = same x (or_left (x == x) (member xs x) (eq-eqb x x refl)) in
    let rest : filter p xs ≡ filter q xs = alike_kept p q xs (λ j e. same j (or_right (x == j) (member xs j) e)) in
    λ i. cond (here i) (x ∷ rest i) (rest i)

-- a block without points that its links do not need
trimmed : (P : ProblemData) (low high : ℕ → Bool) (part : Part) (V : ℕ → Bool) → IsBlock P low high part →
    ((j p : ℕ) → member part.links j ≡ true → needs_point P j p ≡ true → member part.points p ≡ true → V p ≡ true) →
    IsBlock P low high record { links = part.links; points = filter V part.points }
trimmed P low high part V block needed = record {
  links = block.links;
  points = IsStrictlyIncreasing-filter V part.points block.points;
  between = block.between;
  links_in = block.links_in;
  points_in = λ p e. block.points_in p (of_both V part.points p e).1;
  unpaid = λ p e. block.unpaid p (of_both V part.points p e).1;
  needs_in = λ j p e needs out.
      let inside = block.needs_in j p e needs out in
      to_both V part.points p (needed j p e needs inside) inside;
}

chosen_alone : (m b h : Bool) → m ≡ true → h ≡ false → ((m && b) || h) ≡ b
chosen_alone true true false e f = refl
chosen_alone true false false e f = refl
chosen_alone true b true e f = absurd (true≢false f)
chosen_alone false b h e f = absurd (true≢false (sym e))

left_of : (m b h : Bool) → ((m && b) || h) ≡ true → h ≡ false → m ≡ true
left_of true b h e f = refl
left_of false b h e f = absurd (true≢false (sym e ∙ f))

high_out : (m l h : Bool) → m ≡ (l && not h) → m ≡ true → h ≡ false
high_out m l false between e = refl
high_out m true true between e = absurd (true≢false (sym e ∙ between))
high_out m false true between e = absurd (true≢false (sym e ∙ between))

module _ (P : ProblemData) (k : ℕ) (part : Part) (reached upper lower taken left : List ℕ) (chosen paid : List Bool)
    (joins : ScaleBlocksJoin P) (split : BlocksSplit P) (nest : (n m : ℕ) → n ≤ m → DearerNest (scaled P n) (scaled P m))
    (solved : IsLeast (scaled_block P k part) (member reached))
    (marked : (j : ℕ) → slice_index_or chosen j false ≡ member reached j)
    (up : upper ≡ filter (λ j. slice_index_or chosen (place_of part.links j) false) part.links)
    (down : lower ≡ filter (λ j. not (slice_index_or chosen (place_of part.links j) false)) part.links)
    (need : (p : ℕ) → member part.points p ≡ true → slice_index_or paid (place_of part.points p) false ≡ list_any (λ j. needs_point P j p) upper)
    (with_needs : taken ≡ filter (λ p. slice_index_or paid (place_of part.points p) false) part.points)
    (without : left ≡ filter (λ p. not (slice_index_or paid (place_of part.points p) false)) part.points)
    (first last : ℕ) (low high : ℕ → Bool) (above : first ≤ k) (below : k ≤ last) (open_block : IsOpen P first last part low high) where
  abbrev block : IsBlock P low high part
  block = open_block.block

  least : IsLeast (scaled P k) (with_block high part (member reached))
  least = joins first k last above below low high open_block.least open_block.end part block (member reached) solved

  mid_low : (j : ℕ) → with_block high part (member reached) j ≡ true → low j ≡ true
  mid_low = nest first k above low (with_block high part (member reached)) open_block.least.best least

  high_mid : (j : ℕ) → high j ≡ true → with_block high part (member reached) j ≡ true
  high_mid j e = or_right (member part.links j && member reached (place_of part.links j)) (high j) e

  -- a link of the block is chosen by its mark
  mid_here : (j : ℕ) → member part.links j ≡ true → with_block high part (member reached) j ≡ slice_index_or chosen (place_of part.links j) false
  mid_here j e =
      chosen_alone (member part.links j) (member reached (place_of part.links j)) (high j) e (high_out (member part.links j) (low j) (high j) (block.between j) e)
      ∙ sym (marked (place_of part.links j))

  upper_is : filter (with_block high part (member reached)) part.links ≡ upper
  upper_is = alike_kept (with_block high part (member reached)) (λ j. slice_index_or chosen (place_of part.links j) false) part.links mid_here ∙ sym up

  lower_is : filter (λ j. not (with_block high part (member reached) j)) part.links ≡ lower
  lower_is = alike_kept (λ j. not (with_block high part (member reached) j)) (λ j. not (slice_index_or chosen (place_of part.links j) false)) part.links (λ j e. ap not (mid_here j e)) ∙ sym down

  in_upper : (j : ℕ) → with_block high part (member reached) j ≡ true → member part.links j ≡ true → member upper j ≡ true
  in_upper j e f = ap (λ xs. member xs j) (sym upper_is) ∙ to_both (with_block high part (member reached)) part.links j e f

  of_upper : (j : ℕ) → member upper j ≡ true → (with_block high part (member reached) j ≡ true) × (member part.links j ≡ true)
  of_upper j e = of_both (with_block high part (member reached)) part.links j (ap (λ xs. member xs j) upper_is ∙ e)

  -- what is chosen and was open is of the block
  in_links : (j : ℕ) → with_block high part (member reached) j ≡ true → high j ≡ false → member part.links j ≡ true
  in_links j e out = left_of (member part.links j) (member reached (place_of part.links j)) (high j) e out

  -- a point of the block is needed by what is chosen where a link of the upper half needs it
  needed_by : (p : ℕ) → member part.points p ≡ true → union_of_needs P (with_block high part (member reached)) p ≡ list_any (λ j. needs_point P j p) upper
  needed_by p inside =
      same_answer (union_of_needs P (with_block high part (member reached)) p) (list_any (λ j. needs_point P j p) upper)
      (λ e.
      let got = some_below-gives (length P.links) (λ j. with_block high part (member reached) j && needs_point P j p) e in
      let both = and_parts (with_block high part (member reached) got.0) (needs_point P got.0 p) got.2 in
      elim (cases_Bool (high got.0)) [
        | inl paid_for ↦
            let out : union_of_needs P high p ≡ true = some_below-from (length P.links) (λ j. high j && needs_point P j p) got.0 got.1 (and_from (high got.0) (needs_point P got.0 p) paid_for both.1) in
            absurd (true≢false (sym out ∙ block.unpaid p inside))
        | inr open_link ↦
            let here : member part.links got.0 ≡ true = in_links got.0 both.0 open_link in
            passing (λ j. needs_point P j p) upper got.0 (in_upper got.0 both.0 here) both.1
      ])
      (λ e.
      let got = found (λ j. needs_point P j p) upper e in
      let there = of_upper got.0 got.1 in
      some_below-from (length P.links) (λ j. with_block high part (member reached) j && needs_point P j p) got.0 (block.links_in got.0 there.1)
      (and_from (with_block high part (member reached) got.0) (needs_point P got.0 p) there.0 got.2))

  pub halves : (x : ℕ → Bool) × IsOpen P k last record { links = upper; points = taken } x high × IsOpen P first k record { links = lower; points = left } low x
  halves =
      let choice : ℕ → Bool = with_block high part (member reached) in
      let above_block : IsBlock P choice high record { links = upper; points = part.points } =
      subst (λ (xs : List ℕ). IsBlock P choice high record { links = xs; points = part.points }) upper_is (split.upper low choice high part block mid_low) in
      let trim : IsBlock P choice high record { links = upper; points = filter (λ p. slice_index_or paid (place_of part.points p) false) part.points } =
      trimmed P choice high record { links = upper; points = part.points } (λ p. slice_index_or paid (place_of part.points p) false) above_block
      (λ j p e needs inside. need p inside ∙ passing (λ i. needs_point P i p) upper j e needs) in
      let above_whole : IsBlock P choice high record { links = upper; points = taken } =
      subst (λ (xs : List ℕ). IsBlock P choice high record { links = upper; points = xs }) (sym with_needs) trim in
      let left_is : filter (λ p. not (union_of_needs P choice p)) part.points ≡ left =
      alike_kept (λ p. not (union_of_needs P choice p)) (λ p. not (slice_index_or paid (place_of part.points p) false)) part.points (λ p e. ap not (needed_by p e ∙ sym (need p e))) ∙ sym without in
      let below_whole : IsBlock P low choice record { links = lower; points = left } =
      subst (λ (xs : List ℕ). IsBlock P low choice record { links = lower; points = xs }) left_is
      (subst (λ (xs : List ℕ). IsBlock P low choice record { links = xs; points = filter (λ p. not (union_of_needs P choice p)) part.points }) lower_is (split.lower low choice high part block high_mid)) in (
        choice,
        record { least = least; end = open_block.end; within = high_mid; block = above_whole },
        record { least = open_block.least; end = inl least; within = mid_low; block = below_whole },
      )
