-- Walks down the levels, and rows that are spent.
use Rattle.std.proofs.Common.{◌≡◌, ◌<◌, ◌≤◌, ◌+◌, ◌-◌, ◌*◌, ◌⊎◌, ℕ, List, [], ◌∷◌, ◌++◌, length, arith, refl, sym, ◌∙◌, ap, subst, cond, inl, inr, sum, get_or-set_same, get_or-set_other}
use Rattle.std.proofs.Math.ListN.{length-set}
use Rattle.std.specs.Prelude.{slice_set, nat_lt}
use Rattle.std.proofs.lemmas.Bool.{cases_eq, cases_lt, lt-ltb, le-ltb}
use Rattle.std.proofs.lemmas.List.Sums.{sum_by-set}
use Rattle.mh_flow.specs.declared.need_row.NeedRow.{NeedRow}
use Rattle.mh_flow.specs.declared.path.Turn.{Turn}
use Rattle.mh_flow.specs.Carried.{row_at, no_row, number_at}
use Rattle.mh_flow.specs.Chains.{IsLastBelow}
use Rattle.mh_flow.specs.Paths.{IsPath, IsFirst, IsWalk, IsTurn}
use Rattle.mh_flow.specs.Levels.{far, IsInRange, IsLower}
use Rattle.mh_flow.specs.inner.Spent.{IsPhase, IsSpent, IsSpentForth, IsSpentBack, IsRowBack}
use Rattle.mh_flow.specs.Spreads.{link_key, point_key}

pub walk_more : (rows : List NeedRow) (links points : ℕ → ℕ) (p q : ℕ) (turns : List Turn) (forth back : ℕ) → IsWalk rows links points p turns q → IsTurn rows links points q forth back →
    IsWalk rows links points p (turns ++ record { forth = forth; back = back } ∷ []) (row_at rows back).point
walk_more rows links points p q [] forth back h turn = (subst (λ (i : ℕ). IsTurn rows links points i forth back) (sym h) turn, refl)
walk_more rows links points p q (first ∷ rest) forth back h turn = (h.0, walk_more rows links points (row_at rows first.back).point q rest forth back h.1 turn)

pub walk_less : (rows : List NeedRow) (links points : ℕ → ℕ) (p q : ℕ) (turns : List Turn) (last : Turn) → IsWalk rows links points p (turns ++ last ∷ []) q →
    IsWalk rows links points p turns (row_at rows last.forth).point × IsTurn rows links points (row_at rows last.forth).point last.forth last.back × ((row_at rows last.back).point ≡ q)
walk_less rows links points p q [] last h = (sym h.0.to_point, subst (λ (i : ℕ). IsTurn rows links points i last.forth last.back) (sym h.0.to_point) h.0, h.1)
walk_less rows links points p q (first ∷ rest) last h =
    let less = walk_less rows links points (row_at rows first.back).point q rest last h.1 in
    ((h.0, less.0), less.1, less.2)

pub walk_path : (rows : List NeedRow) (left : List ℕ) (links points : ℕ → ℕ) (p q : ℕ) (turns : List Turn) (first : ℕ) → IsWalk rows links points p turns q → IsFirst rows left links points q first →
    IsPath rows left links points p turns first
walk_path rows left links points p q [] first h end = subst (λ (i : ℕ). IsFirst rows left links points i first) (sym h) end
walk_path rows left links points p q (turn ∷ rest) first h end = (h.0, walk_path rows left links points (row_at rows turn.back).point q rest first h.1 end)

pub walk_down : (rows : List NeedRow) (links points : ℕ → ℕ) (p q : ℕ) (turns : List Turn) → IsWalk rows links points p turns q → points q ≤ points p
walk_down rows links points p q [] h = let e : points p ≡ points q = ap points h in omega arith
walk_down rows links points p q (turn ∷ rest) h =
    let below = walk_down rows links points (row_at rows turn.back).point q rest h.1 in
    let same : links (row_at rows turn.back).link ≡ links (row_at rows turn.forth).link = ap links h.0.same_link in
    omega (arith, below, same, h.0.point_level, h.0.link_level)

set_lower : (xs : List ℕ) (i v : ℕ) → i < length xs → v ≤ number_at xs i → IsLower xs (slice_set xs i v)
set_lower xs i v l h = record {
  length = length-set xs i v;
  lower = λ k. elim (cases_eq k i) [
    | inl e ↦ let here : number_at (slice_set xs i v) k ≡ v = rw (e, get_or-set_same) refl in omega (arith, here, h, ap (number_at xs) e)
    | inr ne ↦ let there : number_at (slice_set xs i v) k ≡ number_at xs k = rw get_or-set_other refl in omega (arith, there)
  ];
}

pub number_set : (xs : List ℕ) (i v k : ℕ) → i < length xs → ((k ≡ i) × (number_at (slice_set xs i v) k ≡ v)) ⊎ ((k ≡ i → ⊥) × (number_at (slice_set xs i v) k ≡ number_at xs k))
number_set xs i v k l = elim (cases_eq k i) [
  | inl e ↦ inl (e, rw (e, get_or-set_same) refl)
  | inr ne ↦ inr (ne, rw get_or-set_other refl)
]

-- the place of a link moves down past a row that is spent
pub spent_link : (rows : List NeedRow) (left links points lp pp : List ℕ) (j back next : ℕ) → IsSpent rows left links points lp pp → j < length lp → number_at lp j ≡ back + 1 →
    IsSpentBack rows links points pp back → IsLastBelow (link_key rows) (link_key rows back) back next → IsSpent rows left links points (slice_set lp j next) pp
spent_link rows left links points lp pp j back next h inside place spent last =
    let this = h.link_place j back (sym place) in
    let lower = set_lower lp j next inside (omega (arith, place, last.within)) in
    record {
      link_count = length-set lp j next ∙ h.link_count;
      point_count = h.point_count;
      link_within = λ i. omega (arith, lower.lower i, h.link_within i);
      point_within = h.point_within;
      link_place = λ i k e. elim (number_set lp j next i inside) [
        | inl here ↦
            let at : k + 1 ≡ next = e ∙ here.1 in
            (omega (arith, at, last.within, this.0), last.here k at ∙ this.1 ∙ sym here.0)
        | inr there ↦ h.link_place i k (e ∙ there.1)
      ];
      point_place = h.point_place;
      forth = λ k l m. elim (h.forth k l m) [
        | inl up ↦ inl up
        | inr dead ↦ inr (omega (arith, dead.0, lower.lower (row_at rows k).link), dead.1)
      ];
      back = λ k l m. elim (number_set lp j next (row_at rows k).link inside) [
        | inl here ↦ elim (cases_lt k back) [
          | inl below ↦ absurd (last.none k (omega (arith, m, here.1)) below (here.0 ∙ sym this.1))
          | inr above ↦ elim (cases_eq k back) [
            | inl same ↦ subst (λ (i : ℕ). IsSpentBack rows links points pp i) (sym same) spent
            | inr other ↦ h.back k l (omega (arith, ap (number_at lp) here.0, place, above, other))
          ]
        ]
        | inr there ↦ h.back k l (omega (arith, m, there.1))
      ];
    }

-- the place of a point moves down past a row that is spent
pub spent_point : (rows : List NeedRow) (left links points lp pp : List ℕ) (p forth next : ℕ) → IsSpent rows left links points lp pp → p < length pp → number_at pp p ≡ forth + 1 →
    IsSpentForth rows left links points lp forth → IsLastBelow (point_key rows) (point_key rows forth) forth next → IsSpent rows left links points lp (slice_set pp p next) × IsLower pp (slice_set pp p next)
spent_point rows left links points lp pp p forth next h inside place spent last =
    let this = h.point_place p forth (sym place) in
    let lower = set_lower pp p next inside (omega (arith, place, last.within)) in (
      record {
        link_count = h.link_count;
        point_count = length-set pp p next ∙ h.point_count;
        link_within = h.link_within;
        point_within = λ i. omega (arith, lower.lower i, h.point_within i);
        link_place = h.link_place;
        point_place = λ i k e. elim (number_set pp p next i inside) [
          | inl here ↦
              let at : k + 1 ≡ next = e ∙ here.1 in
              (omega (arith, at, last.within, this.0), last.here k at ∙ this.1 ∙ sym here.0)
          | inr there ↦ h.point_place i k (e ∙ there.1)
        ];
        back = λ k l m. elim (h.back k l m) [
          | inl none ↦ inl none
          | inr other ↦ inr (elim other [ inl up ↦ inl up | inr dead ↦ inr (omega (arith, dead, lower.lower (row_at rows k).point)) ])
        ];
        forth = λ k l m. elim (number_set pp p next (row_at rows k).point inside) [
          | inl here ↦ elim (cases_lt k forth) [
            | inl below ↦ absurd (last.none k (omega (arith, m, here.1)) below (here.0 ∙ sym this.1))
            | inr above ↦ elim (cases_eq k forth) [
              | inl same ↦ subst (λ (i : ℕ). IsSpentForth rows left links points lp i) (sym same) spent
              | inr other ↦ h.forth k l (omega (arith, ap (number_at pp) here.0, place, above, other))
            ]
          ]
          | inr there ↦ h.forth k l (omega (arith, m, there.1))
        ];
      },
      lower,
    )

-- the search stands at point q
pub record IsSearch (rows : List NeedRow) (left links points lp pp pp0 : List ℕ) (p q : ℕ) (turns : List Turn) : Type 0 where
  pub spent : IsSpent rows left links points lp pp
  pub lower : IsLower pp0 pp
  pub inside : q < length points
  pub reached : number_at points q < far
  pub walk : IsWalk rows (number_at links) (number_at points) p turns q

-- twice around the levels for each row that is not spent yet; down while the point is open, and up again once it is not
abbrev pub height : List ℕ → List ℕ → ℕ → ℕ
height points pp q = cond (nat_lt 0 (number_at pp q)) (number_at points q) (2 * far - number_at points q)

abbrev pub effort : List ℕ → List ℕ → ℕ → ℕ
effort points pp q = (2 * far + 1) * sum pp + height points pp q

pub height_open : (points pp : List ℕ) (q : ℕ) → 0 < number_at pp q → height points pp q ≡ number_at points q
height_open points pp q h = rw (lt-ltb 0 (number_at pp q) h) refl

pub height_spent : (points pp : List ℕ) (q : ℕ) → number_at pp q ≤ 0 → height points pp q ≡ 2 * far - number_at points q
height_spent points pp q h = rw (le-ltb 0 (number_at pp q) h) refl

height_small : (points pp : List ℕ) (q : ℕ) → number_at points q < far → height points pp q ≤ 2 * far
height_small points pp q h =
    elim (cases_lt 0 (number_at pp q)) [
      | inl some ↦ omega (arith, height_open points pp q some, h)
      | inr none ↦ omega (arith, height_spent points pp q none, h)
    ]

pub search_back : (rows : List NeedRow) (left links points lp pp pp0 : List ℕ) (p q : ℕ) (turns : List Turn) (last : Turn) → IsInRange rows links points → number_at points p < far →
    IsSearch rows left links points lp pp pp0 p q (turns ++ last ∷ []) → number_at pp q ≡ 0 →
    IsSearch rows left links points lp pp pp0 p (row_at rows last.forth).point turns × (effort points pp (row_at rows last.forth).point < effort points pp q)
search_back rows left links points lp pp pp0 p q turns last range reached h none =
    let less = walk_less rows (number_at links) (number_at points) p q turns last h.walk in
    let r : ℕ = (row_at rows last.forth).point in
    let low : number_at points r < far = omega (arith, walk_down rows (number_at links) (number_at points) p r turns less.0, reached) in
    let same : number_at links (row_at rows last.back).link ≡ number_at links (row_at rows last.forth).link = ap (number_at links) less.1.same_link in
    let here : number_at points (row_at rows last.back).point ≡ number_at points q = ap (number_at points) less.2 in
    let up : number_at points r ≡ number_at points q + 2 = omega (arith, same, here, less.1.point_level, less.1.link_level) in
    let at_q : height points pp q ≡ 2 * far - number_at points q = height_spent points pp q (omega (arith, none)) in
    let smaller : height points pp r < height points pp q = elim (cases_lt 0 (number_at pp r)) [
      | inl some ↦ omega (arith, height_open points pp r some, at_q, up, low)
      | inr gone ↦ omega (arith, height_spent points pp r gone, at_q, up, low)
    ] in (
      record {
        spent = h.spent;
        lower = h.lower;
        inside = range.point_range last.forth no_row less.1.forth_in_range;
        reached = low;
        walk = less.0;
      },
      omega (arith, smaller),
    )

pub search_turn : (rows : List NeedRow) (left links points lp pp pp0 lp' : List ℕ) (p q : ℕ) (turns : List Turn) (forth back : ℕ) → IsInRange rows links points → IsPhase rows left links points →
    IsSearch rows left links points lp pp pp0 p q turns → number_at pp q ≡ forth + 1 → number_at links (row_at rows forth).link < number_at points q →
    IsSpent rows left links points lp' pp → IsRowBack rows links points pp (row_at rows forth).link back →
    IsSearch rows left links points lp' pp pp0 p (row_at rows back).point (turns ++ record { forth = forth; back = back } ∷ []) × (effort points pp (row_at rows back).point < effort points pp q)
search_turn rows left links points lp pp pp0 lp' p q turns forth back range phase h place below spent taken =
    let this = h.spent.point_place q forth (sym place) in
    let level : number_at points (row_at rows forth).point ≡ number_at points q = ap (number_at points) this.1 in
    let same : number_at links (row_at rows back).link ≡ number_at links (row_at rows forth).link = ap (number_at links) taken.of_link in
    let up = (phase.settled forth this.0).forth (omega (arith, below, h.reached)) in
    let down = (phase.settled back taken.in_range).back taken.some (omega (arith, taken.lower, below, h.reached)) in
    let turn : IsTurn rows (number_at links) (number_at points) q forth back = record {
      forth_in_range = this.0;
      back_in_range = taken.in_range;
      to_point = this.1;
      link_level = omega (arith, up, level, below);
      same_link = taken.of_link;
      point_level = omega (arith, down, same, taken.lower);
      some = taken.some;
    } in (
      record {
        spent = spent;
        lower = h.lower;
        inside = range.point_range back no_row taken.in_range;
        reached = omega (arith, taken.lower, below, h.reached);
        walk = walk_more rows (number_at links) (number_at points) p q turns forth back h.walk turn;
      },
      omega (arith, height_open points pp q (omega (arith, place)), height_open points pp (row_at rows back).point taken.untried, taken.lower, below),
    )

sum_set : (xs : List ℕ) (i v : ℕ) → i < length xs → sum (slice_set xs i v) + number_at xs i ≡ sum xs + v
sum_set xs i v l = sum_by-set (λ x. x) xs i v 0 l

pub search_past : (rows : List NeedRow) (left links points lp pp pp0 lp' : List ℕ) (p q : ℕ) (turns : List Turn) (forth next : ℕ) →
    IsSearch rows left links points lp pp pp0 p q turns → number_at pp q ≡ forth + 1 → IsSpent rows left links points lp' pp →
    IsSpentForth rows left links points lp' forth → IsLastBelow (point_key rows) (point_key rows forth) forth next →
    IsSearch rows left links points lp' (slice_set pp q next) pp0 p q turns × (effort points (slice_set pp q next) q < effort points pp q)
search_past rows left links points lp pp pp0 lp' p q turns forth next h place now spent last =
    let inside : q < length pp = omega (arith, h.inside, h.spent.point_count) in
    let moved = spent_point rows left links points lp' pp q forth next now inside place spent last in
    let less : sum (slice_set pp q next) + 1 ≤ sum pp = omega (arith, sum_set pp q next inside, place, last.within) in (
      record {
        spent = moved.0;
        lower = record { length = moved.1.length ∙ h.lower.length; lower = λ k. omega (arith, moved.1.lower k, h.lower.lower k) };
        inside = h.inside;
        reached = h.reached;
        walk = h.walk;
      },
      omega (arith, less, height_small points (slice_set pp q next) q h.reached),
    )

pub search_end : (rows : List NeedRow) (left links points lp pp pp0 : List ℕ) (p q : ℕ) (turns : List Turn) (forth : ℕ) → IsPhase rows left links points →
    IsSearch rows left links points lp pp pp0 p q turns → number_at pp q ≡ forth + 1 → number_at links (row_at rows forth).link < number_at points q → 0 < number_at left (row_at rows forth).link →
    IsPath rows left (number_at links) (number_at points) p turns forth
search_end rows left links points lp pp pp0 p q turns forth phase h place below some =
    let this = h.spent.point_place q forth (sym place) in
    let level : number_at points (row_at rows forth).point ≡ number_at points q = ap (number_at points) this.1 in
    let up = (phase.settled forth this.0).forth (omega (arith, below, h.reached)) in
    walk_path rows left (number_at links) (number_at points) p q turns forth h.walk record {
      in_range = this.0;
      to_point = this.1;
      link_level = omega (arith, up, level, below);
      start = phase.spare (row_at rows forth).link some;
      some = some;
    }

pub search_none : (rows : List NeedRow) (left links points lp pp pp0 : List ℕ) (p q : ℕ) → IsSearch rows left links points lp pp pp0 p q [] → number_at pp q ≡ 0 → number_at pp p ≡ 0
search_none rows left links points lp pp pp0 p q h none = ap (number_at pp) h.walk ∙ none

pub search_popped : (rows : List NeedRow) (left links points lp pp pp0 : List ℕ) (p q : ℕ) (all turns : List Turn) (last : Turn) → IsInRange rows links points → number_at points p < far →
    IsSearch rows left links points lp pp pp0 p q all → all ≡ turns ++ last ∷ [] → number_at pp q ≡ 0 →
    IsSearch rows left links points lp pp pp0 p (row_at rows last.forth).point turns × (effort points pp (row_at rows last.forth).point < effort points pp q)
search_popped rows left links points lp pp pp0 p q all turns last range reached h e none =
    let here : IsSearch rows left links points lp pp pp0 p q (turns ++ last ∷ []) = subst (λ (ts : List Turn). IsSearch rows left links points lp pp pp0 p q ts) e h in
    search_back rows left links points lp pp pp0 p q turns last range reached here none

pub popped_inside : (rows : List NeedRow) (left links points lp pp pp0 : List ℕ) (p q : ℕ) (all turns : List Turn) (last : Turn) →
    IsSearch rows left links points lp pp pp0 p q all → all ≡ turns ++ last ∷ [] → last.forth < length rows
popped_inside rows left links points lp pp pp0 p q all turns last h e =
    let here : IsSearch rows left links points lp pp pp0 p q (turns ++ last ∷ []) = subst (λ (ts : List Turn). IsSearch rows left links points lp pp pp0 p q ts) e h in
    (walk_less rows (number_at links) (number_at points) p q turns last here.walk).1.forth_in_range
