-- Levels go down along rows, and what went down is listed.
use Rattle.std.proofs.Common.{◌≡◌, ◌<◌, ◌≤◌, ◌+◌, ◌-◌, ◌⊎◌, ℕ, List, [], ◌∷◌, ◌++◌, length, arith, refl, sym, ◌∙◌, subst, inl, inr, sum, length-append}
use Rattle.std.specs.Prelude.{All}
use Rattle.std.proofs.Math.Seq.{get_or-append_seam}
use Rattle.std.proofs.lemmas.Bool.{cases_eq, cases_lt}
use Rattle.std.proofs.lemmas.List.{get_or_append_left}
use Rattle.std.proofs.lemmas.List.Elements.{All-append, All-cons}
use Rattle.mh_flow.specs.declared.need_row.NeedRow.{NeedRow}
use Rattle.mh_flow.specs.Carried.{row_at, number_at}
use Rattle.mh_flow.specs.Chains.{IsLastBelow}
use Rattle.mh_flow.specs.Levels.{ArePathLevels, IsSettledRow, IsSettledForth, IsSettledBack, IsLower}
use Rattle.mh_flow.specs.Spreads.{link_key, point_key, IsListed, IsSpread, IsLinkSettled, IsPointSettled}

pub lower_refl : (xs : List ℕ) → IsLower xs xs
lower_refl xs = record { length = refl; lower = λ k. omega arith }

pub lower_trans : (a b c : List ℕ) → IsLower a b → IsLower b c → IsLower a c
lower_trans a b c f g = record { length = g.length ∙ f.length; lower = λ k. omega (arith, f.lower k, g.lower k) }

listed_more : (xs : List ℕ) (q r : ℕ) → IsListed xs r → IsListed (xs ++ q ∷ []) r
listed_more xs q r h = record {
  place = h.place;
  inside = omega (arith, h.inside, length-append xs (q ∷ []));
  here = get_or_append_left xs (q ∷ []) 0 h.place h.inside ∙ h.here;
}

listed_last : (xs : List ℕ) (q : ℕ) → IsListed (xs ++ q ∷ []) q
listed_last xs q = record {
  place = length xs;
  inside = omega (arith, length-append xs (q ∷ []));
  here = get_or-append_seam xs q [] 0;
}

pub spread_none : (xs listed : List ℕ) → IsSpread xs xs listed listed
spread_none xs listed = record {
  lower = lower_refl xs;
  weight = omega arith;
  changed = λ q. inr refl;
  kept = λ q h. h;
  inside = λ h. h;
}

pub spread_more : (p0 p1 p2 l0 l1 : List ℕ) (q : ℕ) → IsSpread p0 p1 l0 l1 → IsLower p1 p2 → sum p2 < sum p1 →
    ((r : ℕ) → (q ≡ r → ⊥) → number_at p2 r ≡ number_at p1 r) → q < length p1 → IsSpread p0 p2 l0 (l1 ++ q ∷ [])
spread_more p0 p1 p2 l0 l1 q h lower less others inside = record {
  lower = lower_trans p0 p1 p2 h.lower lower;
  weight = omega (arith, h.weight, less, length-append l1 (q ∷ []));
  changed = λ r. elim (cases_eq q r) [
    | inl e ↦ inl (subst (λ (i : ℕ). IsListed (l1 ++ q ∷ []) i) e (listed_last l1 q))
    | inr ne ↦ elim (h.changed r) [ inl found ↦ inl (listed_more l1 q r found) | inr same ↦ inr (others r ne ∙ same) ]
  ];
  kept = λ r found. listed_more l1 q r (h.kept r found);
  inside = λ all.
      let before : All (λ i. i < length p2) l1 = λ k d l. omega (arith, h.inside all k d l, lower.length) in
      All-append (λ i. i < length p2) l1 (q ∷ []) before (All-cons (λ i. i < length p2) q [] (omega (arith, inside, lower.length)) (λ k d l. absurd (omega (arith, l))));
}

pub spread_same : (p0 p1 p2 l0 l1 : List ℕ) → IsSpread p0 p1 l0 l1 → p2 ≡ p1 → IsSpread p0 p2 l0 l1
spread_same p0 p1 p2 l0 l1 h e = subst (λ (xs : List ℕ). IsSpread p0 xs l0 l1) (sym e) h

pub spread_on : (p0 p1 p2 l0 l1 l2 : List ℕ) → IsSpread p0 p1 l0 l1 → IsSpread p1 p2 l1 l2 → IsSpread p0 p2 l0 l2
spread_on p0 p1 p2 l0 l1 l2 f g = record {
  lower = lower_trans p0 p1 p2 f.lower g.lower;
  weight = omega (arith, f.weight, g.weight);
  changed = λ q. elim (g.changed q) [
    | inl found ↦ inl found
    | inr same ↦ elim (f.changed q) [ inl found ↦ inl (g.kept q found) | inr before ↦ inr (same ∙ before) ]
  ];
  kept = λ q found. g.kept q (f.kept q found);
  inside = λ all. g.inside (f.inside all);
}

pub forth_lower : (r : NeedRow) (links p1 p2 : List ℕ) → IsLower p1 p2 → IsSettledForth r links p1 → IsSettledForth r links p2
forth_lower r links p1 p2 lower h = λ f. omega (arith, h f, lower.lower r.point)

pub back_lower : (r : NeedRow) (l1 l2 points : List ℕ) → IsLower l1 l2 → IsSettledBack r l1 points → IsSettledBack r l2 points
back_lower r l1 l2 points lower h = λ some f. omega (arith, h some f, lower.lower r.link)

-- what is settled in a walk over the rows of one key, from the last to the first
pub record IsWalked (key : ℕ → ℕ) (Good : ℕ → Type 0) (n p at : ℕ) : Type 0 where
  pub within : at ≤ n
  pub here : (k : ℕ) → k + 1 ≡ at → key k ≡ p
  pub good : (k : ℕ) → k < n → at ≤ k → key k ≡ p → Good k

pub walked_start : (key : ℕ → ℕ) (Good : ℕ → Type 0) (n p at : ℕ) → IsLastBelow key p n at → IsWalked key Good n p at
walked_start key Good n p at h = record {
  within = h.within;
  here = h.here;
  good = λ k l a e. absurd (h.none k a l e);
}

pub walked_on : (key : ℕ → ℕ) (Good Better : ℕ → Type 0) (n p at next : ℕ) → IsWalked key Good n p at → 0 < at → IsLastBelow key (key (at - 1)) (at - 1) next →
    ((k : ℕ) → Good k → Better k) → Better (at - 1) → IsWalked key Better n p next
walked_on key Good Better n p at next h some last on here =
    let same : key (at - 1) ≡ p = h.here (at - 1) (omega arith) in
    record {
      within = omega (arith, last.within, h.within);
      here = λ k e. last.here k e ∙ same;
      good = λ k l a e. elim (cases_lt k (at - 1)) [
        | inl below ↦ absurd (last.none k a below (e ∙ sym same))
        | inr above ↦ elim (cases_eq k (at - 1)) [
          | inl this ↦ subst Better (sym this) here
          | inr other ↦ on k (h.good k l (omega (arith, above, other, some)) e)
        ]
      ];
    }

pub walked_end : (key : ℕ → ℕ) (Good : ℕ → Type 0) (n p at : ℕ) → IsWalked key Good n p at → at ≤ 0 → (k : ℕ) → k < n → key k ≡ p → Good k
walked_end key Good n p at h none k l e = h.good k l (omega (arith, none)) e

-- the loop over a link's rows
pub record IsLinkSpread (rows : List NeedRow) (left links p0 p1 l0 l1 : List ℕ) (link at : ℕ) : Type 0 where
  pub levels : ArePathLevels rows left links p1
  pub spread : IsSpread p0 p1 l0 l1
  pub walked : IsWalked (link_key rows) (λ k. IsSettledForth (row_at rows k) links p1) (length rows) link at

pub record IsPointSpread (rows : List NeedRow) (left points p0 p1 l0 l1 : List ℕ) (point at : ℕ) : Type 0 where
  pub levels : ArePathLevels rows left p1 points
  pub spread : IsSpread p0 p1 l0 l1
  pub walked : IsWalked (point_key rows) (λ k. IsSettledBack (row_at rows k) p1 points) (length rows) point at

-- a further row of the link is settled
pub link_spread_on : (rows : List NeedRow) (left links p0 p1 p2 l0 l1 l2 : List ℕ) (link at next : ℕ) → IsLinkSpread rows left links p0 p1 l0 l1 link at → 0 < at →
    IsLastBelow (link_key rows) (link_key rows (at - 1)) (at - 1) next →
    ArePathLevels rows left links p2 → IsLower p1 p2 → IsSettledForth (row_at rows (at - 1)) links p2 → IsSpread p0 p2 l0 l2 → IsLinkSpread rows left links p0 p2 l0 l2 link next
link_spread_on rows left links p0 p1 p2 l0 l1 l2 link at next h some last levels lower settled spread = record {
  levels = levels;
  spread = spread;
  walked = walked_on (link_key rows) (λ k. IsSettledForth (row_at rows k) links p1) (λ k. IsSettledForth (row_at rows k) links p2) (length rows) link at next h.walked some last
      (λ k before. forth_lower (row_at rows k) links p1 p2 lower before) settled;
}

pub point_spread_on : (rows : List NeedRow) (left points p0 p1 p2 l0 l1 l2 : List ℕ) (point at next : ℕ) → IsPointSpread rows left points p0 p1 l0 l1 point at → 0 < at →
    IsLastBelow (point_key rows) (point_key rows (at - 1)) (at - 1) next →
    ArePathLevels rows left p2 points → IsLower p1 p2 → IsSettledBack (row_at rows (at - 1)) p2 points → IsSpread p0 p2 l0 l2 → IsPointSpread rows left points p0 p2 l0 l2 point next
point_spread_on rows left points p0 p1 p2 l0 l1 l2 point at next h some last levels lower settled spread = record {
  levels = levels;
  spread = spread;
  walked = walked_on (point_key rows) (λ k. IsSettledBack (row_at rows k) p1 points) (λ k. IsSettledBack (row_at rows k) p2 points) (length rows) point at next h.walked some last
      (λ k before. back_lower (row_at rows k) p1 p2 points lower before) settled;
}

-- the loop over the listed links: those passed are settled
pub record IsLinksSpread (rows : List NeedRow) (left links p0 p1 from lowered : List ℕ) (n : ℕ) : Type 0 where
  pub levels : ArePathLevels rows left links p1
  pub spread : IsSpread p0 p1 [] lowered
  pub passed : (i : ℕ) → i < n → IsLinkSettled rows links p1 (number_at from i)

pub record IsPointsSpread (rows : List NeedRow) (left points p0 p1 from lowered : List ℕ) (n : ℕ) : Type 0 where
  pub levels : ArePathLevels rows left p1 points
  pub spread : IsSpread p0 p1 [] lowered
  pub passed : (i : ℕ) → i < n → IsPointSettled rows p1 points (number_at from i)

pub links_spread_on : (rows : List NeedRow) (left links p0 p1 p2 from l1 l2 : List ℕ) (n : ℕ) → IsLinksSpread rows left links p0 p1 from l1 n →
    ArePathLevels rows left links p2 → IsSpread p1 p2 l1 l2 → IsLinkSettled rows links p2 (number_at from n) → IsLinksSpread rows left links p0 p2 from l2 (n + 1)
links_spread_on rows left links p0 p1 p2 from l1 l2 n h levels spread settled = record {
  levels = levels;
  spread = spread_on p0 p1 p2 [] l1 l2 h.spread spread;
  passed = λ i l. elim (cases_lt i n) [
    | inl m ↦ λ k b e. forth_lower (row_at rows k) links p1 p2 spread.lower (h.passed i m k b e)
    | inr m ↦ let e : i ≡ n = omega (arith, l, m) in subst (λ (j : ℕ). IsLinkSettled rows links p2 (number_at from j)) (sym e) settled
  ];
}

pub points_spread_on : (rows : List NeedRow) (left points p0 p1 p2 from l1 l2 : List ℕ) (n : ℕ) → IsPointsSpread rows left points p0 p1 from l1 n →
    ArePathLevels rows left p2 points → IsSpread p1 p2 l1 l2 → IsPointSettled rows p2 points (number_at from n) → IsPointsSpread rows left points p0 p2 from l2 (n + 1)
points_spread_on rows left points p0 p1 p2 from l1 l2 n h levels spread settled = record {
  levels = levels;
  spread = spread_on p0 p1 p2 [] l1 l2 h.spread spread;
  passed = λ i l. elim (cases_lt i n) [
    | inl m ↦ λ k b e. back_lower (row_at rows k) p1 p2 points spread.lower (h.passed i m k b e)
    | inr m ↦ let e : i ≡ n = omega (arith, l, m) in subst (λ (j : ℕ). IsPointSettled rows p2 points (number_at from j)) (sym e) settled
  ];
}

pub links_all : (rows : List NeedRow) (left links p0 p1 from lowered : List ℕ) → IsLinksSpread rows left links p0 p1 from lowered (length from) →
    ((j : ℕ) → IsListed from j ⊎ IsLinkSettled rows links p0 j) → (j : ℕ) → IsLinkSettled rows links p1 j
links_all rows left links p0 p1 from lowered h waiting j =
    elim (waiting j) [
      | inl found ↦ subst (λ (i : ℕ). IsLinkSettled rows links p1 i) found.here (h.passed found.place found.inside)
      | inr before ↦ λ k b e. forth_lower (row_at rows k) links p0 p1 h.spread.lower (before k b e)
    ]

pub points_all : (rows : List NeedRow) (left points p0 p1 from lowered : List ℕ) → IsPointsSpread rows left points p0 p1 from lowered (length from) →
    ((p : ℕ) → IsListed from p ⊎ IsPointSettled rows p0 points p) → (p : ℕ) → IsPointSettled rows p1 points p
points_all rows left points p0 p1 from lowered h waiting p =
    elim (waiting p) [
      | inl found ↦ subst (λ (i : ℕ). IsPointSettled rows p1 points i) found.here (h.passed found.place found.inside)
      | inr before ↦ λ k b e. back_lower (row_at rows k) p0 p1 points h.spread.lower (before k b e)
    ]

-- a point whose level stayed has its rows settled as before
pub points_wait : (rows : List NeedRow) (links p0 p1 listed : List ℕ) → IsSpread p0 p1 [] listed → ((p : ℕ) → IsPointSettled rows links p0 p) → (p : ℕ) → IsListed listed p ⊎ IsPointSettled rows links p1 p
points_wait rows links p0 p1 listed h settled p =
    elim (h.changed p) [
      | inl found ↦ inl found
      | inr same ↦ inr (λ k b e some f.
          let here : number_at p1 (row_at rows k).point ≡ number_at p0 (row_at rows k).point = subst (λ (i : ℕ). number_at p1 i ≡ number_at p0 i) (sym e) same in
          omega (arith, here, settled p k b e some (omega (arith, here, f))))
    ]

pub links_wait : (rows : List NeedRow) (points p0 p1 listed : List ℕ) → IsSpread p0 p1 [] listed → ((j : ℕ) → IsLinkSettled rows p0 points j) → (j : ℕ) → IsListed listed j ⊎ IsLinkSettled rows p1 points j
links_wait rows points p0 p1 listed h settled j =
    elim (h.changed j) [
      | inl found ↦ inl found
      | inr same ↦ inr (λ k b e f.
          let here : number_at p1 (row_at rows k).link ≡ number_at p0 (row_at rows k).link = subst (λ (i : ℕ). number_at p1 i ≡ number_at p0 i) (sym e) same in
          omega (arith, here, settled j k b e (omega (arith, here, f))))
    ]

-- the rounds of the search: rows back are settled, and links whose rows forth may not be stand in the front
pub record IsRound (rows : List NeedRow) (left l0 p0 links points front : List ℕ) : Type 0 where
  pub levels : ArePathLevels rows left links points
  pub lower_links : IsLower l0 links
  pub lower_points : IsLower p0 points
  pub inside : All (λ j. j < length links) front
  pub waiting : (j : ℕ) → IsListed front j ⊎ IsLinkSettled rows links points j
  pub settled : (p : ℕ) → IsPointSettled rows links points p

pub round_on : (rows : List NeedRow) (left l0 p0 l1 p1 l2 p2 front reached next : List ℕ) → IsRound rows left l0 p0 l1 p1 front →
    IsSpread p1 p2 [] reached → ((j : ℕ) → IsLinkSettled rows l1 p2 j) →
    ArePathLevels rows left l2 p2 → IsSpread l1 l2 [] next → ((p : ℕ) → IsPointSettled rows l2 p2 p) → IsRound rows left l0 p0 l2 p2 next
round_on rows left l0 p0 l1 p1 l2 p2 front reached next h forth links levels back points = record {
  levels = levels;
  lower_links = lower_trans l0 l1 l2 h.lower_links back.lower;
  lower_points = lower_trans p0 p1 p2 h.lower_points forth.lower;
  inside = back.inside (λ k d l. absurd (omega (arith, l)));
  waiting = links_wait rows p2 l1 l2 next back links;
  settled = points;
}

pub round_end : (rows : List NeedRow) (left l0 p0 links points front : List ℕ) → IsRound rows left l0 p0 links points front → length front ≤ 0 →
    (k : ℕ) → k < length rows → IsSettledRow (row_at rows k) links points
round_end rows left l0 p0 links points front h empty k l = record {
  forth = elim (h.waiting (row_at rows k).link) [
    | inl found ↦ absurd (omega (arith, found.inside, empty))
    | inr settled ↦ settled k l refl
  ];
  back = h.settled (row_at rows k).point k l refl;
}
