use Rattle.std.proofs.Common.{◌≡◌, ◌<◌, ◌≤◌, ◌+◌, ◌-◌, ◌^◌, ℕ, zero, suc, List, [], ◌∷◌, ◌++◌, length, arith, refl, sym, ◌∙◌, ap, subst, cond, Bool, true, false, inl, inr, get_or, length-append, ◌≢◌, get_or-set_same, get_or-set_other}
use Rattle.std.proofs.Math.ListN.{length-set}
use Rattle.std.specs.Prelude.{map, ◌==◌, All, AllPairs, slice_set}
use Rattle.std.specs.List.{list_any}
use Rattle.std.proofs.lemmas.Bool.{cases_lt, cases_eq, eq-eqb, eqb-true, or_left, or_right, cond-true, cond-false, ne_eqb}
use Rattle.std.proofs.lemmas.List.Sums.{sum_by-cons}
use Rattle.std.proofs.lemmas.List.Kept.{AllPairs-cons, AllPairs-from_increasing}
use Rattle.std.proofs.lemmas.List.Folds.{Any-from_list_any}
use Rattle.std.proofs.lemmas.List.Elements.{All-append, All-map, All-get_or, All-from_get_or, All-head, All-tail}
use Rattle.std.proofs.lemmas.List.{get_or_past, get_or-map, length-map, get_or-append_right, get_or_append_left}
use Rattle.mh_network.specs.Sums.{sum_below, amount_at}
use Rattle.mh_network.specs.Needs.{AreNeeds}
use Rattle.mh_network.specs.Problems.{ProblemData, no_link, IsProblem, needs_point, gain_of, cost_of, link_at}
use Rattle.mh_network.specs.Selection.{IsBefore}
use Rattle.mh_network.specs.declared.link_row.LinkRow.{LinkRow}
use Rattle.mh_flow.specs.declared.need_row.NeedRow.{NeedRow}
use Rattle.mh_flow.specs.Carried.{carried, row_at, no_row, number_at, into_point}
use Rattle.mh_flow.specs.Charged.{paid_of}
use Rattle.mh_flow.specs.Paths.{IsPushed, IsWithin, IsSameRow}
use Rattle.mh_flow.specs.Run.{IsRun, IsOrdered, needs_below, row_of}

abbrev idle : ℕ → ℕ → NeedRow
idle j p = record { link = j; point = p; amount = 0 }

needs_itself : (xs : List ℕ) (k : ℕ) → k < length xs → list_any (λ q. q == get_or xs k 0) xs ≡ true
needs_itself [] k l = absurd (omega arith)
needs_itself (x ∷ xs) zero l = or_left (x == x) (list_any (λ q. q == x) xs) (eq-eqb x x refl)
needs_itself (x ∷ xs) (suc k) l = or_right (x == get_or xs k 0) (list_any (λ q. q == get_or xs k 0) xs) (needs_itself xs k (omega arith))

needs_all : (xs : List ℕ) → All (λ p. list_any (λ q. q == p) xs ≡ true) xs
needs_all xs = All-from_get_or (λ p. list_any (λ q. q == p) xs ≡ true) xs 0 (needs_itself xs)

pub below-needed : (P : ProblemData) (n : ℕ) → All (λ r. needs_point P r.link r.point ≡ true) (needs_below P n)
below-needed P zero = λ k d l. absurd (omega arith)
below-needed P (suc n) =
    All-append (λ r. needs_point P r.link r.point ≡ true) (needs_below P n) (map (idle n) (link_at P n).needs) (below-needed P n)
    (All-map (λ r. needs_point P r.link r.point ≡ true) (idle n) (link_at P n).needs (needs_all (link_at P n).needs))

pub below-zero : (P : ProblemData) (n : ℕ) → All (λ r. r.amount ≡ 0) (needs_below P n)
below-zero P zero = λ k d l. absurd (omega arith)
below-zero P (suc n) =
    All-append (λ r. r.amount ≡ 0) (needs_below P n) (map (idle n) (link_at P n).needs) (below-zero P n)
    (All-map (λ r. r.amount ≡ 0) (idle n) (link_at P n).needs (λ k d l. refl))

carried-none : (rows : List NeedRow) → All (λ r. r.amount ≡ 0) rows → carried rows ≡ 0
carried-none [] h = refl
carried-none (r ∷ rows) h =
    let none : r.amount ≡ 0 = All-head (λ x. x.amount ≡ 0) r rows h in
    omega (arith, sum_by-cons (λ (x : NeedRow). x.amount) r rows, none, carried-none rows (All-tail (λ x. x.amount ≡ 0) r rows h))

-- the rows that a run begins with carry nothing
pub begun-idle : (P : ProblemData) (rows : List NeedRow) → rows ≡ needs_below P (length P.links) → carried rows ≡ 0
begun-idle P rows e = ap carried e ∙ carried-none (needs_below P (length P.links)) (below-zero P (length P.links))

abbrev IsRowBefore : NeedRow → NeedRow → Type 0
IsRowBefore r s = IsBefore (row_of r) (row_of s)

pub pairs-append : {X : Type 0} (R : X → X → Type 0) (xs ys : List X) → AllPairs R xs → AllPairs R ys → All (λ x. All (R x) ys) xs → AllPairs R (xs ++ ys)
pairs-append R [] ys f g h = g
pairs-append R (x ∷ xs) ys f g h =
    AllPairs-cons R x (xs ++ ys)
    (All-append (R x) xs ys (λ k d l. f zero (suc k) d (omega arith) (omega arith)) (All-head (λ y. All (R y) ys) x xs h))
    (pairs-append R xs ys (λ i j d l m. f (suc i) (suc j) d (omega arith) (omega arith)) g (All-tail (λ y. All (R y) ys) x xs h))

idle-ordered : (n : ℕ) (ps : List ℕ) → AllPairs (λ p q. p < q) ps → IsOrdered (map (idle n) ps)
idle-ordered n [] h = λ i j d l m. absurd (omega arith)
idle-ordered n (p ∷ ps) h =
    AllPairs-cons IsRowBefore (idle n p) (map (idle n) ps)
    (All-map (IsRowBefore (idle n p)) (idle n) ps (λ k d l. inr (refl, h zero (suc k) d (omega arith) (omega arith))))
    (idle-ordered n ps (λ i j d l m. h (suc i) (suc j) d (omega arith) (omega arith)))

below-links : (P : ProblemData) (n : ℕ) → All (λ r. r.link < n) (needs_below P n)
below-links P zero = λ k d l. absurd (omega arith)
below-links P (suc n) =
    All-append (λ r. r.link < suc n) (needs_below P n) (map (idle n) (link_at P n).needs)
    (λ k d l. let low = below-links P n k d l in omega (arith, low))
    (All-map (λ r. r.link < suc n) (idle n) (link_at P n).needs (λ k d l. omega arith))

below-ordered : (P : ProblemData) → IsProblem P → (n : ℕ) → IsOrdered (needs_below P n)
below-ordered P problem zero = λ i j d l m. absurd (omega arith)
below-ordered P problem (suc n) =
    pairs-append IsRowBefore (needs_below P n) (map (idle n) (link_at P n).needs) (below-ordered P problem n)
    (idle-ordered n (link_at P n).needs (AllPairs-from_increasing (link_at P n).needs (problem.ascending n)))
    (λ k d l. All-map (IsRowBefore (get_or (needs_below P n) k d)) (idle n) (link_at P n).needs (λ i e m. inl (below-links P n k d l)))

row_default : (rows : List NeedRow) (k : ℕ) (d : NeedRow) → k < length rows → get_or rows k d ≡ row_at rows k
row_default [] k d l = absurd (omega arith)
row_default (r ∷ rs) zero d l = refl
row_default (r ∷ rs) (suc k) d l = row_default rs k d (omega arith)

-- rows whose links and points stand as they were are ordered as they were
ordered-same : (old new : List NeedRow) → length new ≡ length old → ((k : ℕ) → IsSameRow (row_at new k) (row_at old k)) → IsOrdered old → IsOrdered new
ordered-same old new count same h i j d l m =
    let first : IsSameRow (get_or new i d) (row_at old i) = rw (row_default new i d (omega (arith, l, m))) (same i) in
    let second : IsSameRow (get_or new j d) (row_at old j) = rw (row_default new j d m) (same j) in
    let before : IsBefore (row_of (row_at old i)) (row_of (row_at old j)) = h i j no_row l (omega (arith, m, count)) in
    elim before [
      | inl less ↦ inl (omega (arith, less, first.link, second.link))
      | inr tied ↦ inr (omega (arith, tied.0, first.link, second.link), omega (arith, tied.1, first.point, second.point))
    ]

same_default : (xs : List ℕ) (k c d : ℕ) → k < length xs → get_or xs k c ≡ get_or xs k d
same_default [] k c d l = absurd (omega arith)
same_default (x ∷ xs) zero c d l = refl
same_default (x ∷ xs) (suc k) c d l = same_default xs k c d (omega arith)

pub below-complete : (P : ProblemData) (n j p : ℕ) → needs_point P j p ≡ true → j < n →
    (k : ℕ) × (k < length (needs_below P n)) × ((row_at (needs_below P n) k).link ≡ j) × ((row_at (needs_below P n) k).point ≡ p)
below-complete P zero j p h l = absurd (omega arith)
below-complete P (suc n) j p h l =
    elim (cases_lt j n) [
      | inl m ↦
          let old = below-complete P n j p h m in
          let same : row_at (needs_below P (suc n)) old.0 ≡ row_at (needs_below P n) old.0 =
          get_or_append_left (needs_below P n) (map (idle n) (link_at P n).needs) no_row old.0 old.1 in (
            old.0,
            omega (arith, old.1, length-append (needs_below P n) (map (idle n) (link_at P n).needs)),
            ap (λ (r : NeedRow). r.link) same ∙ old.2,
            ap (λ (r : NeedRow). r.point) same ∙ old.3,
          )
      | inr m ↦
          let e : n ≡ j = omega arith in
          let here : needs_point P n p ≡ true = subst (λ (i : ℕ). needs_point P i p ≡ true) (sym e) h in
          let found = Any-from_list_any (λ q. q == p) (link_at P n).needs here in
          let k : ℕ = found.0 in
          let after : length (needs_below P n) + k - length (needs_below P n) ≡ k = omega arith in
          let same : row_at (needs_below P (suc n)) (length (needs_below P n) + k) ≡ idle n (get_or (link_at P n).needs k 0) =
          get_or-append_right (needs_below P n) (map (idle n) (link_at P n).needs) (length (needs_below P n)) (length (needs_below P n) + k) no_row refl (omega arith)
          ∙ ap (λ i. get_or (map (idle n) (link_at P n).needs) i no_row) after
          ∙ get_or-map (idle n) (link_at P n).needs k 0 no_row found.2 in
          let value : get_or (link_at P n).needs k 0 ≡ p =
          same_default (link_at P n).needs k 0 found.1 found.2 ∙ found.3 ∙ eqb-true found.1 p found.4 in (
            length (needs_below P n) + k,
            omega (arith, found.2, length-append (needs_below P n) (map (idle n) (link_at P n).needs), length-map (link_at P n).needs (idle n)),
            ap (λ (r : NeedRow). r.link) same ∙ e,
            ap (λ (r : NeedRow). r.point) same ∙ value,
          )
    ]

cond-zero : (b : Bool) (a : ℕ) → a ≡ 0 → cond b a 0 ≡ 0
cond-zero true a e = e
cond-zero false a e = refl

none_carried : (key : NeedRow → ℕ) (q : ℕ) (rows : List NeedRow) → All (λ r. r.amount ≡ 0) rows → amount_at key (λ r. r.amount) rows q ≡ 0
none_carried key q [] h = refl
none_carried key q (r ∷ rs) h =
    let zero_here : r.amount ≡ 0 = All-head (λ (x : NeedRow). x.amount ≡ 0) r rs h in
    let term : cond (key r == q) r.amount 0 ≡ 0 = cond-zero (key r == q) r.amount zero_here in
    omega (arith, sum_by-cons (λ (x : NeedRow). cond (key x == q) x.amount 0) r rs, term, none_carried key q rs (All-tail (λ (x : NeedRow). x.amount ≡ 0) r rs h))

pub run_start : (P : ProblemData) (left cost_left : List ℕ) → AreNeeds P → IsProblem P → length left ≡ length P.links → length cost_left ≡ length P.costs →
    ((j : ℕ) → number_at left j + paid_of P j ≡ gain_of P j) → ((p : ℕ) → number_at cost_left p ≡ cost_of P p) → IsRun P (needs_below P (length P.links)) left cost_left
run_start P left cost_left needs problem links points gains costs = record {
  needed = below-needed P (length P.links);
  ordered = below-ordered P problem (length P.links);
  complete = λ j p h. below-complete P (length P.links) j p h (needs.inside j p h);
  link_count = links;
  point_count = points;
  gains = λ j. omega (arith, gains j, none_carried (λ r. r.link) j (needs_below P (length P.links)) (below-zero P (length P.links)));
  costs = λ p. omega (arith, costs p, none_carried (λ r. r.point) p (needs_below P (length P.links)) (below-zero P (length P.links)));
}

term-le-sum_below : (n : ℕ) (f : ℕ → ℕ) (k : ℕ) → k < n → f k ≤ sum_below n f
term-le-sum_below zero f k l = absurd (omega arith)
term-le-sum_below (suc n) f k l =
    elim (cases_lt k n) [
      | inl m ↦ omega (arith, term-le-sum_below n f k m)
      | inr m ↦ let e : k ≡ n = omega arith in omega (arith, ap f e)
    ]

gain-small : (P : ProblemData) → IsProblem P → (j : ℕ) → gain_of P j ≤ 2 ^ 62
gain-small P problem j =
    elim (cases_lt j (length P.links)) [
      | inl m ↦ omega (arith, term-le-sum_below (length P.links) (gain_of P) j m, problem.gains)
      | inr m ↦
          let none : gain_of P j ≡ 0 = ap (λ (l : LinkRow). l.gain) (get_or_past P.links j no_link m) in
          omega (arith, none)
    ]

pub run_within : (P : ProblemData) (rows : List NeedRow) (left cost_left : List ℕ) → AreNeeds P → IsProblem P → IsRun P rows left cost_left → IsWithin rows left
run_within P rows left cost_left needs problem run = record {
  links = λ k d l. omega (arith, needs.inside _ _ (run.needed k d l), run.link_count);
  gains = λ j. omega (arith, run.gains j, gain-small P problem j);
}

pub run_points : (P : ProblemData) (rows : List NeedRow) (left cost_left : List ℕ) → IsProblem P → IsRun P rows left cost_left → All (λ r. r.point < length cost_left) rows
run_points P rows left cost_left problem run = λ k d l. omega (arith, problem.in_range _ _ (run.needed k d l), run.point_count)

cost_set : (cost_left : List ℕ) (p d old new q c : ℕ) → p < length cost_left → d ≤ number_at cost_left p → number_at cost_left q + old ≡ c → new ≡ old + cond (p == q) d 0 →
    number_at (slice_set cost_left p (number_at cost_left p - d)) q + new ≡ c
cost_set cost_left p d old new q c l m e f =
    elim (cases_eq p q) [
      | inl same ↦
          let more : cond (p == q) d 0 ≡ d = cond-true (p == q) d 0 (eq-eqb p q same) in
          let set_here : number_at (slice_set cost_left p (number_at cost_left p - d)) q ≡ number_at cost_left p - d = rw (← same, get_or-set_same) refl in
          omega (arith, more, set_here, f, e, m, ap (number_at cost_left) same)
      | inr other ↦
          let more : cond (p == q) d 0 ≡ 0 = cond-false (p == q) d 0 (ne_eqb p q other) in
          let away : q ≢ p = λ u. other (sym u) in
          let set_there : number_at (slice_set cost_left p (number_at cost_left p - d)) q ≡ number_at cost_left q = rw get_or-set_other refl in
          omega (arith, more, set_there, f, e)
    ]

pub run_pushed : (P : ProblemData) (old new : List NeedRow) (left left' cost_left : List ℕ) (links points : ℕ → ℕ) (top p d : ℕ) → IsRun P old left cost_left →
    IsPushed old new left left' links points top p d → length left' ≡ length left → p < length cost_left → d ≤ number_at cost_left p →
    IsRun P new left' (slice_set cost_left p (number_at cost_left p - d))
run_pushed P old new left left' cost_left links points top p d run pushed same l m = record {
  needed = All-from_get_or (λ r. needs_point P r.link r.point ≡ true) new no_row (λ k b.
      let before = All-get_or (λ r. needs_point P r.link r.point ≡ true) old k no_row (omega (arith, b, pushed.length)) run.needed in
      rw ((pushed.places k).link, (pushed.places k).point) before);
  ordered = ordered-same old new pushed.length pushed.places run.ordered;
  complete = λ j q h.
      let found = run.complete j q h in
      (found.0, omega (arith, found.1, pushed.length), (pushed.places found.0).link ∙ found.2, (pushed.places found.0).point ∙ found.3);
  link_count = same ∙ run.link_count;
  point_count = length-set cost_left p (number_at cost_left p - d) ∙ run.point_count;
  gains = λ j. omega (arith, pushed.out j, run.gains j);
  costs = λ q. cost_set cost_left p d (into_point old q) (into_point new q) q (cost_of P q) l m (run.costs q) (pushed.into q);
}
