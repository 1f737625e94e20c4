use Rattle.std.proofs.Common.{◌≡◌, ℕ, not}
use Rattle.mh_core.specs.Records.{is_valid}
use Rattle.mh_core.proofs.InstalledLinks.{gathered}
use Rattle.mh_core.proofs.book.Book.invalid_points.Given as goal

abbrev pub invariant-loop-point : goal.invariant-loop-point
invariant-loop-point l = l.invalid.items ≡ gathered (λ (p : ℕ). p) (λ p. not (is_valid l.self.records p)) 0 l.point
