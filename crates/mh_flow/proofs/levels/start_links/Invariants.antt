use Rattle.std.proofs.Common.{◌<◌, ℕ, length}
use Rattle.std.specs.Prelude.{All}
use Rattle.mh_flow.specs.Carried.{number_at}
use Rattle.mh_flow.specs.Spreads.{IsListed}
use Rattle.mh_flow.proofs.levels.start_links.Given as goal

abbrev pub invariant-loop-link : goal.invariant-loop-link
invariant-loop-link l = All (λ j. j < length l.gain_left) l.front.items × ((j : ℕ) → j < l.link → 0 < number_at l.gain_left j → IsListed l.front.items j)
