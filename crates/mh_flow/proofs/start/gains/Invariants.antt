use Rattle.std.proofs.Common.{◌≡◌, ◌+◌, ◌<◌, ℕ, length}
use Rattle.mh_network.specs.Problems.{gain_of}
use Rattle.mh_flow.specs.Carried.{number_at}
use Rattle.mh_flow.specs.Charged.{paid_of}
use Rattle.mh_flow.proofs.start.gains.Given as goal

abbrev pub invariant-loop-link : goal.invariant-loop-link
invariant-loop-link l = (length l.gains.items ≡ l.link) × ((j : ℕ) → j < l.link → number_at l.gains.items j + paid_of l.problem j ≡ gain_of l.problem j)
