-- The hits of a flush, link by link.
use Rattle.std.proofs.Common.{◌≡◌, inl, inr, ℕ, zero, suc, ◌+◌, ◌<◌, ◌≤◌, Bool, true, false, cond, not, List, [], ◌∷◌, length, map, refl, sym, ap, ◌∙◌, arith}
use Rattle.std.specs.Prelude.{◌==◌}
use Rattle.std.specs.List.{sum_by, filter}
use Rattle.std.proofs.lemmas.Bool.{cases_lt, eq-eqb, ne_eqb}
use Rattle.std.proofs.lemmas.List.{get_or_past}
use Rattle.std.proofs.lemmas.List.Sums.{sum_by-cons}
use Rattle.std.proofs.lemmas.List.FromFn.{sum_by-map-range_with_len_more}
use Rattle.mh_ledger.specs.Ledgers.{at}
use Rattle.mh_core.specs.Records.{hits_in, hits_of, numbers}

abbrev Hit : Type 0
Hit = ℕ × ℕ

abbrev of_link : ℕ → Hit → ℕ
of_link j p = cond (p.0 == j) p.1 0

-- what is left out counts nothing
no_hit : (j n i : ℕ) → cond (i == j) n 0 ≡ cond (not (n == 0)) (cond (i == j) n 0) 0
no_hit j zero i = elim (i == j) as (λ (b : Bool). cond b zero 0 ≡ 0) [ true ↦ refl | false ↦ refl ]
no_hit j (suc n) i = ap (λ (b : Bool). cond (not b) (cond (i == j) (suc n) 0) 0) (sym (ne_eqb (suc n) 0 (λ e. absurd (omega arith))))

kept_hits : (j : ℕ) (hits : List Hit) → sum_by (of_link j) (filter (λ p. not (p.1 == 0)) hits) ≡ sum_by (of_link j) hits
kept_hits j [] = refl
kept_hits j (p ∷ hits) =
    let rest = kept_hits j hits in
    let here = no_hit j p.1 p.0 in
    let later = filter (λ (q : Hit). not (q.1 == 0)) hits in
    let split : sum_by (of_link j) (cond (not (p.1 == 0)) (p ∷ later) later) ≡ cond (not (p.1 == 0)) (of_link j p) 0 + sum_by (of_link j) later =
    elim (not (p.1 == 0)) as (λ (b : Bool). sum_by (of_link j) (cond b (p ∷ later) later) ≡ cond b (of_link j p) 0 + sum_by (of_link j) later) [
      | true ↦ sum_by-cons (of_link j) p later
      | false ↦ omega arith
    ] in
    omega (arith, split, here, rest, sum_by-cons (of_link j) p hits)

module _ (counts : List ℕ) (j : ℕ) where
  abbrev hit : ℕ → Hit
  hit i = (i, at counts i)

  none_before : (n : ℕ) → n ≤ j → sum_by (of_link j) (map hit (numbers n)) ≡ 0
  none_before zero h = refl
  none_before (suc n) h =
      let e : n + 1 ≡ suc n = omega arith in
      let other : of_link j (hit n) ≡ 0 = ap (λ (b : Bool). cond b (at counts n) 0) (ne_eqb n j (λ e. absurd (omega arith))) in
      ap (λ (k : ℕ). sum_by (of_link j) (map hit (numbers k))) (sym e)
      ∙ omega (arith, sum_by-map-range_with_len_more (of_link j) hit 0 n n (omega arith), other, none_before n (omega arith))

  one_behind : (n : ℕ) → j < n → sum_by (of_link j) (map hit (numbers n)) ≡ at counts j
  one_behind zero h = absurd (omega arith)
  one_behind (suc n) h =
      let e : n + 1 ≡ suc n = omega arith in
      let more = sum_by-map-range_with_len_more (of_link j) hit 0 n n (omega arith) in
      ap (λ (k : ℕ). sum_by (of_link j) (map hit (numbers k))) (sym e)
      ∙ elim (cases_lt j n) [
        | inl earlier ↦
            let other : of_link j (hit n) ≡ 0 = ap (λ (b : Bool). cond b (at counts n) 0) (ne_eqb n j (λ e. absurd (omega arith))) in
            omega (arith, more, other, one_behind n earlier)
        | inr last ↦
            let same : n ≡ j = omega arith in
            let here : of_link j (hit n) ≡ at counts n = ap (λ (b : Bool). cond b (at counts n) 0) (eq-eqb n j same) in
            omega (arith, more, here, none_before n (omega arith), ap (at counts) same)
      ]

-- a link was hit as often as its number says
pub hits_counted : (counts : List ℕ) (j : ℕ) → hits_of (hits_in counts) j ≡ at counts j
hits_counted counts j =
    kept_hits j (map (hit counts j) (numbers (length counts)))
    ∙ elim (cases_lt j (length counts)) [
      | inl inside ↦ one_behind counts j (length counts) inside
      | inr past ↦ none_before counts j (length counts) past ∙ sym (get_or_past counts j 0 past)
    ]
