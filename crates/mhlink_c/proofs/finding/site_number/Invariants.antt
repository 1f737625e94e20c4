use Rattle.std.proofs.Common.{ℕ, ◌<◌}
use Rattle.mhlink_c.specs.Questions.{IsSite}
use Rattle.mhlink_c.proofs.finding.site_number.Given as goal

-- no site before has the name
abbrev pub invariant-loop-site : goal.invariant-loop-site
invariant-loop-site l = (s : ℕ) → s < l.site → IsSite l.definition l.name s → ⊥
