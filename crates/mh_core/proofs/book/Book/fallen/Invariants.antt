use Rattle.std.proofs.Common.{◌≡◌, ℕ, not}
use Rattle.mh_core.specs.Renewals.{is_valid_anew}
use Rattle.mh_core.proofs.InstalledLinks.{gathered}
use Rattle.mh_core.proofs.book.Book.fallen.Given as goal

abbrev pub invariant-loop-point : goal.invariant-loop-point
invariant-loop-point l = l.fallen.items ≡ gathered (λ (p : ℕ). p) (λ p. not (is_valid_anew l.self.records l.again p)) 0 l.point
