use Rattle.std.proofs.Common.{◌≡◌, ◌+◌, ◌==◌, ℕ, cond, length, slice_index_or, take}
use Rattle.std.specs.List.{list_any}
use Rattle.mh_profile.proofs.accounts.add_at.Given as goal

abbrev pub invariant-loop-number : goal.invariant-loop-number
invariant-loop-number l = record {
  count : length l.sums.items ≡ length l.fn.sums.items;
  sums : (p : ℕ) → slice_index_or l.sums.items p 0 ≡ slice_index_or l.fn.sums.items p 0 + cond (list_any (λ q. q == p) (take l.number-index l.numbers)) l.amount 0;
}
