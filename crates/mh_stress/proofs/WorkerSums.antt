-- Sums over workers and over links.
use Rattle.std.proofs.Common.{◌≡◌, ℕ, zero, suc, ◌+◌, ◌*◌, ◌<◌, ◌≤◌, List, [], ◌∷◌, length, get_or, ap, sym, ◌∙◌, subst, arith}
use Rattle.std.specs.List.{range_with_len, sum_by}
use Rattle.std.proofs.lemmas.List.FromFn.{get_or-map-range_with_len, length-map-range_with_len}
use Rattle.std.proofs.lemmas.List.Sums.{sum_by-cons}
use Rattle.mh_ledger.specs.Ledgers.{made, opened_ledger}
use Rattle.mh_site.specs.Defined.{DefinitionData}
use Rattle.mh_site.specs.Links.{links}
use Rattle.mh_live.specs.Passes.{PassState, new_pass, new_passes}
use Rattle.mh_live.specs.Settled.{made_by}
use Rattle.mh_stress.specs.Rounds.{HaveWorked, pass_at, times_hit}
use Rattle.mh_stress.specs.Stress.{hits_of_round}
use Rattle.mh_stress.specs.declared.division.Call.{Call}
use Rattle.mh_stress.proofs.Hits.{at_zeros}

-- a sum is bounded element by element
sum_within : {X : Type 0} (f : X → ℕ) (g : ℕ → ℕ) (d : X) (a : ℕ) (xs : List X) → ((i : ℕ) → i < length xs → f (get_or xs i d) ≤ g (a + i)) → sum_by f xs ≤ sum_by g (range_with_len a (length xs))
sum_within f g d a [] each = omega arith
sum_within f g d a (x ∷ xs) each =
    let here = each 0 (omega arith) in
    let same : a + 0 ≡ a = omega arith in
    let rest = sum_within f g d (a + 1) xs (λ i lt. subst (λ n. f (get_or xs i d) ≤ g n) (shift i) (each (suc i) (omega (arith, lt)))) in
    omega (arith, here, ap g same, rest, sum_by-cons f x xs, sum_by-cons g a (range_with_len (a + 1) (length xs)))
  where
    shift : (i : ℕ) → a + suc i ≡ a + 1 + i
    shift i = omega arith

-- one place more
sum_more : (f : ℕ → ℕ) (a n : ℕ) → sum_by f (range_with_len a (suc n)) ≡ sum_by f (range_with_len a n) + f (a + n)
sum_more f a zero = let here : a + 0 ≡ a = omega arith in omega (arith, sum_by-cons f a [], ap f here)
sum_more f a (suc n) =
    let last : a + 1 + n ≡ a + suc n = omega arith in
    omega (arith, sum_by-cons f a (range_with_len (a + 1) (suc n)), sum_more f (a + 1) n, sum_by-cons f a (range_with_len (a + 1) n), ap f last)

pub sum_next : (f : ℕ → ℕ) (n : ℕ) → sum_by f (range_with_len 0 (n + 1)) ≡ sum_by f (range_with_len 0 n) + f n
sum_next f n =
    let more : n + 1 ≡ suc n = omega arith in
    let last : 0 + n ≡ n = omega arith in
    omega (arith, ap (λ k. sum_by f (range_with_len 0 k)) more, sum_more f 0 n, ap f last)

-- a factor of all
times_sum : (n : ℕ) (g : ℕ → ℕ) (xs : List ℕ) → sum_by (λ w. n * g w) xs ≡ n * sum_by g xs
times_sum n g [] = omega arith
times_sum n g (x ∷ xs) =
    sum_by-cons (λ w. n * g w) x xs ∙ (ap (λ k. n * g x + k) (times_sum n g xs) ∙ (sym (spread n (g x) (sum_by g xs)) ∙ ap (λ k. n * k) (sym (sum_by-cons g x xs))))
  where
    spread : (n x y : ℕ) → n * (x + y) ≡ n * x + n * y
    spread zero x y = omega arith
    spread (suc n) x y = omega (arith, spread n x y)

-- a constant bound
pub sum_small : (g : ℕ → ℕ) (bound : ℕ) (xs : List ℕ) → ((w : ℕ) → g w ≤ bound) → sum_by g xs ≤ length xs * bound
sum_small g bound [] each = omega arith
sum_small g bound (x ∷ xs) each = omega (arith, each x, sum_small g bound xs each, sum_by-cons g x xs)

module _ (d : DefinitionData) (calls : List Call) (limit workers rounds : ℕ) (after : List PassState) (worked : HaveWorked d calls rounds (new_passes d limit workers) after) (j : ℕ) where
  fresh : (w : ℕ) → w < workers → pass_at (new_passes d limit workers) w ≡ new_pass (opened_ledger (length (links d)) limit w)
  fresh w lt = get_or-map-range_with_len (λ v. new_pass (opened_ledger (length (links d)) limit v)) 0 workers w w (new_pass _) lt (omega arith)

  pub as_many : length after ≡ workers
  as_many = worked.count ∙ length-map-range_with_len (λ v. new_pass (opened_ledger (length (links d)) limit v)) 0 workers

  one_worker : (w : ℕ) → w < length after → made (pass_at after w).ledger j ≤ rounds * times_hit d calls w j
  one_worker w lt =
      let inside : w < workers = omega (arith, lt, as_many) in
      let is = fresh w inside in
      let hit = (worked.each w (omega (arith, lt, worked.count))).hit j in
      let none = at_zeros (length (links d)) j in
      let began : made (pass_at (new_passes d limit workers) w).ledger j ≡ 0 = ap (λ (p : PassState). made p.ledger j) is ∙ omega (arith, none) in
      let name : (pass_at (new_passes d limit workers) w).ledger.worker ≡ w = ap (λ (p : PassState). p.ledger.worker) is in
      omega (arith, hit, began, ap (λ v. rounds * times_hit d calls v j) name)

  -- what all made is within the hits of all rounds
  pub made_within : made_by after j ≤ rounds * hits_of_round d calls workers j
  made_within =
      let sum = sum_within (λ (p : PassState). made p.ledger j) (λ w. rounds * times_hit d calls w j) (new_pass _) 0 after (λ w lt. subst (λ n. made (pass_at after w).ledger j ≤ rounds * times_hit d calls n j) (from_zero w) (one_worker w lt)) in
      let many = ap (λ n. sum_by (λ w. rounds * times_hit d calls w j) (range_with_len 0 n)) as_many in
      let times = times_sum rounds (λ w. times_hit d calls w j) (range_with_len 0 workers) in
      omega (arith, sum, many, times)
    where
      from_zero : (w : ℕ) → w ≡ 0 + w
      from_zero w = omega arith
