use Rattle.std.proofs.Common.{◌≡◌, ◌++◌, replicate}
use Rattle.mh_site.proofs.numbering.push_home.Given as goal

abbrev pub invariant-loop-link : goal.invariant-loop-link
invariant-loop-link l = l.homes.items ≡ l.fn.homes.items ++ replicate l._link l.site
