use Rattle.std.proofs.Common.{◌≡◌, ◌+◌, ℕ, zero, suc, ap, [], arith}
use Rattle.std.specs.List.{range_with_len, sum_by}
use Rattle.std.proofs.lemmas.List.Sums.{sum_by-cons}
use Rattle.mh_core.specs.Hits.{unflushed}
use Rattle.mh_core.proofs.machine.Machine.unflushed.Goals as goal

-- one place more
sum_more : (f : ℕ → ℕ) (a n : ℕ) → sum_by f (range_with_len a (suc n)) ≡ sum_by f (range_with_len a n) + f (a + n)
sum_more f a zero = let here : a + 0 ≡ a = omega arith in omega (arith, sum_by-cons f a [], ap f here)
sum_more f a (suc n) =
    let last : a + 1 + n ≡ a + suc n = omega arith in
    omega (arith, sum_by-cons f a (range_with_len (a + 1) (suc n)), sum_more f (a + 1) n, sum_by-cons f a (range_with_len (a + 1) n), ap f last)

sum_next : (f : ℕ → ℕ) (n : ℕ) → sum_by f (range_with_len 0 (n + 1)) ≡ sum_by f (range_with_len 0 n) + f n
sum_next f n =
    let more : n + 1 ≡ suc n = omega arith in
    let last : 0 + n ≡ n = omega arith in
    omega (arith, ap (λ k. sum_by f (range_with_len 0 k)) more, sum_more f 0 n, ap f last)

pub loop-worker-preserved : goal.loop-worker-preserved
loop-worker-preserved c =
    let before = c.loop-worker.invariant in
    let m = c.args.self.now in
    let j = c.args.link in
    record {
      value = omega (arith, before.value, c.from-sum.ensures, c.unflushed_by.ensures.value, sum_next (λ w. unflushed m.setting.definition m.history w j) c.loop-worker.worker);
      within = omega (arith, before.within, c.from-sum.ensures, c.unflushed_by.ensures.within);
    }
