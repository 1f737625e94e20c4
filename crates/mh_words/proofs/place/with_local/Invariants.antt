use Rattle.std.proofs.Common.{◌≡◌, take}
use Rattle.mh_words.proofs.place.with_local.Given as goal

abbrev pub invariant-loop-local : goal.invariant-loop-local
invariant-loop-local l = l.all.items ≡ take l.local-index l.local-items
