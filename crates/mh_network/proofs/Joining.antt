-- Least best links of sets of links that share no point join to the least best links of all.
use Rattle.std.proofs.Common.{◌≡◌, ℕ, zero, suc, ◌+◌, ◌≤◌, ◌<◌, ◌⊎◌, Bool, true, false, cond, refl, arith, sym, ◌∙◌, ap, inl, inr, length, subst}
use Rattle.std.specs.Prelude.{not, ◌&&◌, ◌||◌}
use Rattle.std.proofs.Math.Path.{fun_ext}
use Rattle.std.proofs.lemmas.List.{get_or_past}
use Rattle.std.proofs.lemmas.Bool.{cases_Bool, cases_lt, true≢false, and_parts, and_from, or_cases}
use Rattle.mh_network.specs.declared.link_row.LinkRow.{LinkRow}
use Rattle.mh_network.specs.Sums.{sum_below, some_below, kept}
use Rattle.mh_network.specs.Problems.{ProblemData, link_at, gain_of, charge_of, cost_of, needs_point, no_link}
use Rattle.mh_network.specs.Selection.{union_of_needs, gain_sum, cost_sum, price, AllEligible, IsBest, IsLeast}
use Rattle.mh_network.specs.Laws.Halves.{meet, less, half_sums}
use Rattle.mh_network.specs.Laws.Nets.{NoBetter, no_better, worth_le, IsBestWithin, IsLeastWithin}
use Rattle.mh_network.specs.Laws.SumLaws.{sum_below-same, sum_below-add}
use Rattle.mh_network.specs.Laws.Optimal.{some_below-from, some_below-gives}

-- links that share a point are both in A, or both not
pub record IsSeparate (P : ProblemData) (A : ℕ → Bool) : Type 0 where
  pub same : (j k p : ℕ) → needs_point P j p ≡ true → needs_point P k p ≡ true → A j ≡ A k

pub gain_split : (P : ProblemData) (S A : ℕ → Bool) → gain_sum P (meet S A) + gain_sum P (less S A) ≡ gain_sum P S
gain_split P S A = half_sums (length P.links) (gain_of P) S A

not_gives : (b : Bool) → not b ≡ true → b ≡ false
not_gives true e = absurd (true≢false (sym e))
not_gives false e = refl

not_from : (b : Bool) → b ≡ false → not b ≡ true
not_from true e = absurd (true≢false e)
not_from false e = refl

-- of three answers the first is the other two, which are never both true
parted : (u a b : Bool) (c : ℕ) → (u ≡ true → (a ≡ true) ⊎ (b ≡ true)) → (a ≡ true → u ≡ true) → (b ≡ true → u ≡ true) → (a ≡ true → b ≡ true → ⊥) → cond u c 0 ≡ cond a c 0 + cond b c 0
parted u true true c f g h n = absurd (n refl refl)
parted u true false c f g h n = rw (g refl) (omega arith)
parted u false true c f g h n = rw (h refl) (omega arith)
parted true false false c f g h n = elim (f refl) [ inl e ↦ absurd (true≢false (sym e)) | inr e ↦ absurd (true≢false (sym e)) ]
parted false false false c f g h n = refl

cost_split : (P : ProblemData) (S A : ℕ → Bool) → IsSeparate P A →
    cost_sum P (union_of_needs P (meet S A)) + cost_sum P (union_of_needs P (less S A)) ≡ cost_sum P (union_of_needs P S)
cost_split P S A separate =
    let n : ℕ = length P.links in
    let each : (p : ℕ) → p < length P.costs → kept (union_of_needs P S) (cost_of P) p ≡ kept (union_of_needs P (meet S A)) (cost_of P) p + kept (union_of_needs P (less S A)) (cost_of P) p = λ p l.
    parted (union_of_needs P S p) (union_of_needs P (meet S A) p) (union_of_needs P (less S A) p) (cost_of P p)
    (λ e.
    let found = some_below-gives n (λ j. S j && needs_point P j p) e in
    let both = and_parts (S found.0) (needs_point P found.0 p) found.2 in
    elim (cases_Bool (A found.0)) [
      | inl inside ↦ inl (some_below-from n (λ j. meet S A j && needs_point P j p) found.0 found.1 (and_from _ _ (and_from _ _ both.0 inside) both.1))
      | inr outside ↦ inr (some_below-from n (λ j. less S A j && needs_point P j p) found.0 found.1 (and_from _ _ (and_from _ _ both.0 (not_from (A found.0) outside)) both.1))
    ])
    (λ e.
    let found = some_below-gives n (λ j. meet S A j && needs_point P j p) e in
    let both = and_parts (meet S A found.0) (needs_point P found.0 p) found.2 in
    some_below-from n (λ j. S j && needs_point P j p) found.0 found.1 (and_from _ _ (and_parts (S found.0) (A found.0) both.0).0 both.1))
    (λ e.
    let found = some_below-gives n (λ j. less S A j && needs_point P j p) e in
    let both = and_parts (less S A found.0) (needs_point P found.0 p) found.2 in
    some_below-from n (λ j. S j && needs_point P j p) found.0 found.1 (and_from _ _ (and_parts (S found.0) (not (A found.0)) both.0).0 both.1))
    (λ e f.
    let one = some_below-gives n (λ j. meet S A j && needs_point P j p) e in
    let two = some_below-gives n (λ j. less S A j && needs_point P j p) f in
    let one_both = and_parts (meet S A one.0) (needs_point P one.0 p) one.2 in
    let two_both = and_parts (less S A two.0) (needs_point P two.0 p) two.2 in
    let inside : A one.0 ≡ true = (and_parts (S one.0) (A one.0) one_both.0).1 in
    let outside : A two.0 ≡ false = not_gives (A two.0) (and_parts (S two.0) (not (A two.0)) two_both.0).1 in
    true≢false (sym inside ∙ (separate.same one.0 two.0 p one_both.1 two_both.1 ∙ outside))) in
    let whole : cost_sum P (union_of_needs P S) ≡ sum_below (length P.costs) (λ p. kept (union_of_needs P (meet S A)) (cost_of P) p + kept (union_of_needs P (less S A)) (cost_of P) p) =
    sum_below-same (length P.costs) _ _ each in
    omega (arith, whole, sum_below-add (length P.costs) (kept (union_of_needs P (meet S A)) (cost_of P)) (kept (union_of_needs P (less S A)) (cost_of P)))

pub price_split : (P : ProblemData) (S A : ℕ → Bool) → IsSeparate P A → price P (meet S A) + price P (less S A) ≡ price P S
price_split P S A separate = omega (arith, cost_split P S A separate, half_sums (length P.links) (charge_of P) S A)

-- two halves that are no better make a whole that is no better
pub whole_no_better : (P : ProblemData) (T S A : ℕ → Bool) → IsSeparate P A → NoBetter P (meet T A) (meet S A) → NoBetter P (less T A) (less S A) → NoBetter P T S
whole_no_better P T S A separate f g =
    omega (arith, gain_split P T A, gain_split P S A, price_split P T A separate, price_split P S A separate)

pub half_no_better : (P : ProblemData) (T S A : ℕ → Bool) → IsSeparate P A → NoBetter P T S → less T A ≡ less S A → NoBetter P (meet T A) (meet S A)
half_no_better P T S A separate h e =
    let gains : gain_sum P (less T A) ≡ gain_sum P (less S A) = ap (gain_sum P) e in
    let prices : price P (less T A) ≡ price P (less S A) = ap (price P) e in
    omega (arith, gain_split P T A, gain_split P S A, price_split P T A separate, price_split P S A separate)

pub eligible_inside : (P : ProblemData) (S : ℕ → Bool) → AllEligible P S → (j : ℕ) → S j ≡ true → j < length P.links
eligible_inside P S h j e =
    elim (cases_lt j (length P.links)) [
      | inl m ↦ m
      | inr m ↦
          let none : (link_at P j).eligible ≡ false = ap (λ (l : LinkRow). l.eligible) (get_or_past P.links j no_link m) in
          absurd (true≢false (sym (h j e) ∙ none))
    ]

-- sets A 0 .. A (n - 1) of links that share no point, no link is in two of them, and each link is in one
pub record ArePartMasks (P : ProblemData) (A : ℕ → ℕ → Bool) (n : ℕ) : Type 0 where
  pub separate : (i : ℕ) → i < n → IsSeparate P (A i)
  pub apart : (i k j : ℕ) → i < n → k < n → A i j ≡ true → A k j ≡ true → i ≡ k
  pub covered : (j : ℕ) → j < length P.links → (i : ℕ) × (i < n) × (A i j ≡ true)

abbrev pub up_to : (ℕ → ℕ → Bool) → ℕ → ℕ → Bool
up_to A i j = some_below i (λ k. A k j)

pub absorbs : (t a b : Bool) → (t && (a || b)) && a ≡ t && a
absorbs true true b = refl
absorbs true false true = refl
absorbs true false false = refl
absorbs false a b = refl

pub without : (t a b : Bool) → (b ≡ true → a ≡ true → ⊥) → (t && (a || b)) && not a ≡ t && b
without true true true h = absurd (h refl refl)
without true true false h = refl
without true false true h = refl
without true false false h = refl
without false a b h = refl

pub meet_step : (A : ℕ → ℕ → Bool) (T : ℕ → Bool) (i : ℕ) → meet (meet T (up_to A (suc i))) (A i) ≡ meet T (A i)
meet_step A T i = fun_ext (λ j. absorbs (T j) (A i j) (up_to A i j))

pub less_step : (P : ProblemData) (A : ℕ → ℕ → Bool) (n : ℕ) (T : ℕ → Bool) (i : ℕ) → ArePartMasks P A n → i < n → less (meet T (up_to A (suc i))) (A i) ≡ meet T (up_to A i)
less_step P A n T i masks l = fun_ext (λ j. without (T j) (A i j) (up_to A i j) (λ below here.
    let found = some_below-gives i (λ k. A k j) below in
    let same : found.0 ≡ i = masks.apart found.0 i j (omega (arith, found.1, l)) l found.2 here in
    absurd (omega (arith, found.1, same))))

prefix_no_better : (P : ProblemData) (A : ℕ → ℕ → Bool) (n : ℕ) (T S : ℕ → Bool) → ArePartMasks P A n → ((i : ℕ) → i < n → NoBetter P (meet T (A i)) (meet S (A i))) → (i : ℕ) → i ≤ n →
    NoBetter P (meet T (up_to A i)) (meet S (up_to A i))
prefix_no_better P A n T S masks each zero l =
    let same : meet T (up_to A zero) ≡ meet S (up_to A zero) = fun_ext (λ j. elim (T j) as (λ b. (b && false) ≡ (S j && false)) [
      | true ↦ elim (S j) as (λ c. false ≡ (c && false)) [ true ↦ refl | false ↦ refl ]
      | false ↦ elim (S j) as (λ c. false ≡ (c && false)) [ true ↦ refl | false ↦ refl ]
    ]) in
    subst (λ (U : ℕ → Bool). NoBetter P (meet T (up_to A zero)) U) same (omega arith)
prefix_no_better P A n T S masks each (suc i) l =
    let below = prefix_no_better P A n T S masks each i (omega (arith, l)) in
    let inside : i < n = omega (arith, l) in
    whole_no_better P (meet T (up_to A (suc i))) (meet S (up_to A (suc i))) (A i) (masks.separate i inside)
    (rw (meet_step A T i, meet_step A S i) (each i inside))
    (rw (less_step P A n T i masks inside, less_step P A n S i masks inside) below)

pub all_up : (P : ProblemData) (A : ℕ → ℕ → Bool) (n : ℕ) (T : ℕ → Bool) → ArePartMasks P A n → ((j : ℕ) → T j ≡ true → j < length P.links) → meet T (up_to A n) ≡ T
all_up P A n T masks within = fun_ext (λ j. elim (cases_Bool (T j)) [
  | inl e ↦
      let found = masks.covered j (within j e) in
      let up : up_to A n j ≡ true = some_below-from n (λ k. A k j) found.0 found.1 found.2 in
      rw (e, up) refl
  | inr e ↦ rw e refl
])

-- T with V in the place of what it has in A
abbrev swapped : (ℕ → Bool) → (ℕ → Bool) → (ℕ → Bool) → ℕ → Bool
swapped T V A j = (T j && not (A j)) || (V j && A j)

swapped_meet : (t v a : Bool) → (v ≡ true → a ≡ true) → ((t && not a) || (v && a)) && a ≡ v
swapped_meet t v true h = elim t as (λ b. ((b && false) || (v && true)) && true ≡ v) [
  | true ↦ elim v as (λ c. (false || (c && true)) && true ≡ c) [ true ↦ refl | false ↦ refl ]
  | false ↦ elim v as (λ c. (false || (c && true)) && true ≡ c) [ true ↦ refl | false ↦ refl ]
]
swapped_meet true true false h = absurd (true≢false (sym (h refl)))
swapped_meet true false false h = refl
swapped_meet false true false h = absurd (true≢false (sym (h refl)))
swapped_meet false false false h = refl

swapped_less : (t v a : Bool) → ((t && not a) || (v && a)) && not a ≡ t && not a
swapped_less true true true = refl
swapped_less true true false = refl
swapped_less true false true = refl
swapped_less true false false = refl
swapped_less false true true = refl
swapped_less false true false = refl
swapped_less false false true = refl
swapped_less false false false = refl

-- what a best set has in A is best within A
best_within : (P : ProblemData) (A T : ℕ → Bool) → IsSeparate P A → IsBest P T → IsBestWithin P A (meet T A)
best_within P A T separate best = record {
  inside = λ j e. (and_parts (T j) (A j) e).1;
  eligible = λ j e. best.eligible j (and_parts (T j) (A j) e).0;
  greatest = λ V eligible inside.
      let U : ℕ → Bool = swapped T V A in
      let fits : AllEligible P U = λ j e. elim (or_cases (T j && not (A j)) (V j && A j) e) [
        | inl kept_one ↦ best.eligible j (and_parts (T j) (not (A j)) kept_one).0
        | inr new_one ↦ eligible j (and_parts (V j) (A j) new_one).0
      ] in
      let whole : NoBetter P U T = no_better P U T (best.greatest U fits) in
      let outside : less U A ≡ less T A = fun_ext (λ j. swapped_less (T j) (V j) (A j)) in
      let half : NoBetter P (meet U A) (meet T A) = half_no_better P U T A separate whole outside in
      let same : meet U A ≡ V = fun_ext (λ j. swapped_meet (T j) (V j) (A j) (inside j)) in
      subst (λ (W : ℕ → Bool). NoBetter P W (meet T A)) same half;
}

pub least_of_masks : (P : ProblemData) (A : ℕ → ℕ → Bool) (n : ℕ) (S : ℕ → Bool) → ArePartMasks P A n → ((j : ℕ) → S j ≡ true → j < length P.links) →
    ((i : ℕ) → i < n → IsLeastWithin P (A i) (meet S (A i))) → IsLeast P S
least_of_masks P A n S masks within each =
    let eligible : AllEligible P S = λ j e.
    let found = masks.covered j (within j e) in
    (each found.0 found.1).best.eligible j (and_from (S j) (A found.0 j) e found.2) in
    record {
      best = record {
        eligible = eligible;
        greatest = λ T fits.
            let halves : (i : ℕ) → i < n → NoBetter P (meet T (A i)) (meet S (A i)) = λ i l.
            (each i l).best.greatest (meet T (A i)) (λ j e. fits j (and_parts (T j) (A i j) e).0) (λ j e. (and_parts (T j) (A i j) e).1) in
            let whole : NoBetter P (meet T (up_to A n)) (meet S (up_to A n)) = prefix_no_better P A n T S masks halves n (omega arith) in
            let placed : NoBetter P T S = rw (all_up P A n T masks (eligible_inside P T fits), all_up P A n S masks within) at whole in
            worth_le P T S placed;
      };
      least = λ T best j e.
          let found = masks.covered j (within j e) in
          let inner : meet T (A found.0) j ≡ true = (each found.0 found.1).least (meet T (A found.0)) (best_within P (A found.0) T (masks.separate found.0 found.1) best) j (and_from (S j) (A found.0 j) e found.2) in
          (and_parts (T j) (A found.0 j) inner).0;
    }
