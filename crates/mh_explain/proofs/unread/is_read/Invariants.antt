use Rattle.std.proofs.Common.{◌≡◌, drop}
use Rattle.mh_explain.specs.Unread.{is_read}
use Rattle.mh_explain.proofs.unread.is_read.Given as goal

-- what is found in the rest is found in all
abbrev pub invariant-loop-known : goal.invariant-loop-known
invariant-loop-known l = is_read (drop l.known-index l.keys) l.key ≡ is_read l.keys l.key
