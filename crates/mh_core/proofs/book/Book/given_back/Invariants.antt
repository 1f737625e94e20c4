use Rattle.std.proofs.Common.{◌≡◌, ℕ, filter, not, take}
use Rattle.mh_core.specs.Records.{is_valid}
use Rattle.mh_core.proofs.book.Book.given_back.Given as goal

abbrev pub invariant-loop-point : goal.invariant-loop-point
invariant-loop-point l = l.points.items ≡ filter (λ (p : ℕ). not (is_valid l.self.records p)) (take l.point-index l.again)
