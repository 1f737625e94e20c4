use Rattle.std.proofs.Common.{◌≡◌, ◌≤◌, filter, length, take}
use Rattle.mh_core.specs.Display.{is_linked}
use Rattle.mh_core.proofs.install_report.count_linked.Given as goal

abbrev pub invariant-loop-site : goal.invariant-loop-site
invariant-loop-site l = record {
  value : l.count ≡ length (filter is_linked (take l.site-index l.sites));
  few : l.count ≤ l.site-index;
}
