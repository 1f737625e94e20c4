use Rattle.std.proofs.Common.{◌≡◌}
use Rattle.mh_words.specs.inner.Switches.{keys_below, keys_from}
use Rattle.mh_words.proofs.switching.parted.Given as goal

abbrev pub invariant-loop-one : goal.invariant-loop-one
invariant-loop-one l = (l.below.items ≡ keys_below l.pivot l.yielded) × (l.above.items ≡ keys_from l.pivot l.yielded)
