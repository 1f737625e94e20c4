use Rattle.std.proofs.Common.{◌≡◌, ℕ, length, slice_index_or, false, take}
use Rattle.mh_network.specs.Selection.{member}
use Rattle.mh_sweep.proofs.marking.mark_all.Given as goal

abbrev pub invariant-loop-number : goal.invariant-loop-number
invariant-loop-number l = record {
  count : length l.marks.items ≡ l.bound;
  marked : (j : ℕ) → slice_index_or l.marks.items j false ≡ member (take l.number-index l.numbers) j;
}
