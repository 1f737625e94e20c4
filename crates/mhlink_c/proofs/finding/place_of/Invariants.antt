use Rattle.std.proofs.Common.{◌≡◌, ℕ, ◌<◌, get_or}
use Rattle.mh_core.specs.Defined.{no_link}
use Rattle.mhlink_c.proofs.finding.place_of.Given as goal

-- no link before has the key
abbrev pub invariant-loop-place : goal.invariant-loop-place
invariant-loop-place l = (k : ℕ) → k < l.place → (get_or l.links k no_link).when ≡ l.key → ⊥
