-- Totals and ledgers whose hits were counted earlier.
use Rattle.std.proofs.Common.{Bool, cond, ◌≡◌, ℕ, zero, suc, ◌+◌, ◌<◌, ◌≤◌, ◌^◌, List, [], length, map, replicate, refl, ap, sym, subst, ◌∙◌, arith}
use Rattle.std.specs.List.{All, range_with_len, sum_by}
use Rattle.std.proofs.lemmas.Bool.{ne_eqb}
use Rattle.std.proofs.lemmas.List.{length-replicate}
use Rattle.std.proofs.lemmas.List.FromFn.{get_or-map-range_with_len, length-map-range_with_len, sum_by-map-range_with_len_more}
use Rattle.mh_ledger.specs.Ledgers.{at, ledger_at, no_ledger, AreHeld, Holds, IsTotals, LedgerState, TotalsState}
use Rattle.mh_ledger.specs.Laws.Added.{at-zeros}
use Rattle.mh_ledger.specs.Resumptions.{resumed_ledger, resumed_totals, share_of_worker}

-- a worker after the first has flushed none of the hits
share_none : (hits : List ℕ) (w : ℕ) → 0 < w → share_of_worker hits w ≡ replicate (length hits) 0
share_none hits w some = ap (λ (b : Bool). cond b hits (replicate (length hits) 0)) (ne_eqb w 0 (λ none. absurd (omega (arith, none, some))))

share_length : (hits : List ℕ) (w : ℕ) → length (share_of_worker hits w) ≡ length hits
share_length hits zero = refl
share_length hits (suc w) = ap length (share_none hits (suc w) (omega arith)) ∙ length-replicate (length hits) 0

-- the total of the first workers' shares
abbrev sum_to : List ℕ → ℕ → ℕ → ℕ
sum_to hits j n = sum_by (λ share. at share j) (map (share_of_worker hits) (range_with_len 0 n))

shares_sum : (hits : List ℕ) (n j : ℕ) → sum_to hits j (n + 1) ≡ at hits j
shares_sum hits zero j = omega arith
shares_sum hits (suc n) j =
    let next : suc n ≡ n + 1 = omega arith in
    let more = sum_by-map-range_with_len_more (λ share. at share j) (share_of_worker hits) 0 (suc n) (suc n) (omega arith) in
    let before : sum_to hits j (suc n) ≡ at hits j = ap (sum_to hits j) next ∙ shares_sum hits n j in
    let none : at (share_of_worker hits (suc n)) j ≡ 0 = ap (λ (share : List ℕ). at share j) (share_none hits (suc n) (omega arith)) ∙ at-zeros (length hits) j in
    omega (arith, more, before, none)

sums : (hits : List ℕ) (workers j : ℕ) → 0 < workers → at hits j ≡ sum_to hits j workers
sums hits zero j some = absurd (omega arith)
sums hits (suc n) j some =
    let next : suc n ≡ n + 1 = omega arith in
    sym (ap (sum_to hits j) next ∙ shares_sum hits n j)

pub resumed_sound : (hits : List ℕ) (workers limit : ℕ) → 0 < workers → limit ≤ 2 ^ 62 → All (λ n. n ≤ limit) hits → IsTotals (resumed_totals hits workers limit)
resumed_sound hits workers limit some small within = record {
  lengths = λ w d inside.
      let known : w < workers = omega (arith, inside, length-map-range_with_len (share_of_worker hits) 0 workers) in
      ap length (get_or-map-range_with_len (share_of_worker hits) 0 workers w w d known (omega arith)) ∙ share_length hits w;
  sums = λ j. sums hits workers j some;
  within = within;
  limit = small;
}

pub resumed_held : (hits : List ℕ) (workers limit total : ℕ) → AreHeld (resumed_totals hits workers total) (map (resumed_ledger hits limit) (range_with_len 0 workers))
resumed_held hits workers limit total =
    let ledger : ℕ → LedgerState = resumed_ledger hits limit in
    let t : TotalsState = resumed_totals hits workers total in
    let count : length (map ledger (range_with_len 0 workers)) ≡ workers = length-map-range_with_len ledger 0 workers in
    let shares : length t.shares ≡ workers = length-map-range_with_len (share_of_worker hits) 0 workers in
    let each : (w : ℕ) → w < workers → ledger_at (map ledger (range_with_len 0 workers)) w ≡ ledger w =
    λ w inside. get_or-map-range_with_len ledger 0 workers w w no_ledger inside (omega arith) in
    record {
      count = count ∙ sym shares;
      workers = λ w within. ap (λ (l : LedgerState). l.worker) (each w (omega (arith, within, count)));
      held = λ w within.
          let inside : w < workers = omega (arith, within, count) in
          let there : Holds t (ledger w) = (omega (arith, inside, shares), get_or-map-range_with_len (share_of_worker hits) 0 workers w w [] inside (omega arith)) in
          subst (Holds t) (sym (each w inside)) there;
    }

-- as totals are seen, of the parts that they are made of
abbrev pub the_totals : ℕ → List ℕ → List (List ℕ) → TotalsState
the_totals limit total shares = record { limit = limit; total = total; shares = shares }

pub made_sound : (hits : List ℕ) (workers limit : ℕ) (total : List ℕ) (shares : List (List ℕ)) → 0 < workers → limit ≤ 2 ^ 62 → All (λ n. n ≤ limit) hits → total ≡ hits
    → shares ≡ map (share_of_worker hits) (range_with_len 0 workers) → IsTotals (the_totals limit total shares)
made_sound hits workers limit total shares some small within same parts =
    subst (λ (x : List ℕ). IsTotals (the_totals limit x shares)) (sym same)
    (subst (λ (x : List (List ℕ)). IsTotals (the_totals limit hits x)) (sym parts) (resumed_sound hits workers limit some small within))
