-- The sums of a settlement.
use Rattle.std.proofs.Common.{◌≡◌, ℕ, zero, suc, ◌+◌, ◌*◌, ◌<◌, ◌≤◌, ◌^◌, List, length, refl, ap, sym, subst, arith}
use Rattle.std.specs.List.{range_with_len, sum_by}
use Rattle.std.proofs.Math.Nat.{mul-le-mul_left}
use Rattle.std.proofs.lemmas.List.FromFn.{length-range_with_len}
use Rattle.std.proofs.lemmas.List.Sums.{count_by-le-length, sum_by-cons}
use Rattle.mh_ledger.specs.Ledgers.{at}
use Rattle.mh_site.specs.Defined.{DefinitionData}
use Rattle.mh_site.specs.Links.{links}
use Rattle.mh_core.specs.Laws.{few_links}
use Rattle.mh_core.specs.Books.{Legal}
use Rattle.mh_core.specs.Limits.{LimitsData}
use Rattle.mh_core.specs.Records.{total}
use Rattle.mh_live.specs.Passes.{PassState, new_passes}
use Rattle.mh_live.specs.Settled.{IsSettled, SettledState, Settles}
use Rattle.mh_stress.specs.Rounds.{HaveWorked, hits_by, times_hit}
use Rattle.mh_stress.specs.Stress.{IsSettlement, Settlement, hits_of_round, sums_over}
use Rattle.mh_stress.specs.declared.division.Call.{Call}
use Rattle.mh_stress.proofs.WorkerSums.{made_within, sum_small}

-- what is left of a settled office
abbrev pub settlement_of : SettledState → Settlement
settlement_of s = record { records = s.book.records; unflushed = s.unflushed }

-- a settlement is over 4,096 links at most
pub few_places : (d : DefinitionData) (l : LimitsData) (n : ℕ) (s : SettledState) → IsSettled d l n s → length (links d) ≤ 16384
few_places d l n s is = subst (λ (x : DefinitionData). length (links x) ≤ 16384) is.definition (few_links s.book.definition is.lawful.definition)

-- sums of what is the same below a bound
sum_same : (f g : ℕ → ℕ) (a n : ℕ) → ((j : ℕ) → a ≤ j → j < a + n → f j ≡ g j) → sum_by f (range_with_len a n) ≡ sum_by g (range_with_len a n)
sum_same f g a zero same = refl
sum_same f g a (suc n) same =
    let here = same a (omega arith) (omega arith) in
    let rest = sum_same f g (a + 1) n (λ j low high. same j (omega (arith, low)) (omega (arith, high))) in
    omega (arith, here, rest, sum_by-cons f a (range_with_len (a + 1) n), sum_by-cons g a (range_with_len (a + 1) n))

-- all rounds of so many calls by so many workers
pub few_hits : (d : DefinitionData) (calls : List Call) (workers rounds j : ℕ) → length calls < 2 ^ 64 → workers ≤ 64 → rounds ≤ 1000000 → rounds * hits_of_round d calls workers j ≤ 2 ^ 90
few_hits d calls workers rounds j short some few =
    let each : (w : ℕ) → times_hit d calls w j ≤ 2 ^ 64 = λ w. let within = count_by-le-length (hits_by d w j) calls in omega (arith, within, short) in
    let round = sum_small (λ w. times_hit d calls w j) (2 ^ 64) (range_with_len 0 workers) each in
    let many : length (range_with_len 0 workers) ≡ workers = length-range_with_len 0 workers in
    let hits : hits_of_round d calls workers j ≤ 2 ^ 70 = omega (arith, round, ap (λ n. n * 2 ^ 64) many, some) in
    let all = mul-le-mul_left rounds hits in
    omega (arith, all, few)

-- the sums over what is settled are those of its records
pub are_sums : (d : DefinitionData) (l : LimitsData) (n : ℕ) (s : SettledState) → IsSettled d l n s
    → sums_over (length (links d)) (at s.book.totals.total) (at s.unflushed) ≡ sums_over (length (links d)) (total s.book.records) (at s.unflushed)
are_sums d l n s is =
    let rest : ℕ = sum_by (at s.unflushed) (range_with_len 0 (length (links d))) in
    let same = sum_same (at s.book.totals.total) (total s.book.records) 0 (length (links d)) (λ j low high. is.lawful.totals.sums j (subst (λ (x : DefinitionData). j < length (links x)) (sym is.definition) (omega (arith, high)))) in
    ap (λ (n : ℕ). record { made = n + rest; totals = n; unflushed = rest }) same

module _ (d : DefinitionData) (calls : List Call) (limit workers rounds : ℕ) (passes : List PassState) (worked : HaveWorked d calls rounds (new_passes d limit workers) passes)
    (s : SettledState) (settles : Settles d passes s) where
  abbrev flushed : ℕ → ℕ
  flushed = at s.book.totals.total

  abbrev rest : ℕ → ℕ
  rest = at s.unflushed

  pub unflushed_within : length calls < 2 ^ 64 → workers ≤ 64 → rounds ≤ 1000000 → (j : ℕ) → j < length (links d) → rest j ≤ 2 ^ 90
  unflushed_within short some few j lt =
      let made = settles.made_is j lt in
      let within = made_within d calls limit workers rounds passes worked j in
      let hits = few_hits d calls workers rounds j short some few in
      omega (arith, made, within, hits)

  -- totals are those of the records
  pub are_totals : (l : LimitsData) (n : ℕ) → IsSettled d l n s → (j : ℕ) → j < length (links d) → flushed j ≡ total s.book.records j
  are_totals l n is j lt = is.lawful.totals.sums j (subst (λ (x : DefinitionData). j < length (links x)) (sym is.definition) lt)

  pub is_settlement : (l : LimitsData) (n : ℕ) → IsSettled d l n s → IsSettlement d l calls workers rounds (settlement_of s)
  is_settlement l n is = record {
    legal = subst (λ (m : LimitsData). Legal d m s.book.records) is.limits (subst (λ (x : DefinitionData). Legal x s.book.limits s.book.records) is.definition is.lawful.legal);
    within = λ j lt.
        let made = settles.made_is j lt in
        let within = made_within d calls limit workers rounds passes worked j in
        let is_total = are_totals l n is j lt in
        omega (arith, made, within, is_total);
  }
