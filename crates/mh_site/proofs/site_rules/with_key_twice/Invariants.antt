use Rattle.std.proofs.Common.{◌≡◌, ◌<◌, ℕ, true}
use Rattle.mh_site.specs.Places.{key_new}
use Rattle.mh_site.proofs.site_rules.with_key_twice.Given as goal

-- no earlier link has the key of one that came before it
abbrev pub invariant-loop-index : goal.invariant-loop-index
invariant-loop-index l = (k : ℕ) → k < l.index → key_new l.links k ≡ true
