use Rattle.std.proofs.Common.{◌≡◌, ◌≤◌, ◌++◌, filter, length, not, take}
use Rattle.mh_core.specs.Problems.{is_eligible}
use Rattle.mh_core.proofs.book.Book.usable.Given as goal

abbrev pub invariant-loop-link : goal.invariant-loop-link
invariant-loop-link l = record {
  few : length l.usable.items ≤ l.link-index;
  items : l.usable.items ≡ filter (is_eligible l.self.definition l.self.records) (take l.link-index l.chosen);
  left_out : l.left_out.items ≡ l.fn.left_out.items ++ filter (λ j. not (is_eligible l.self.definition l.self.records j)) (take l.link-index l.chosen);
}
