use Rattle.std.proofs.Common.{◌≡◌, ◌≤◌, filter, length, take}
use Rattle.mh_core.specs.Display.{is_skipped}
use Rattle.mh_core.proofs.install_report.count_skipped.Given as goal

abbrev pub invariant-loop-site : goal.invariant-loop-site
invariant-loop-site l = record {
  value : l.count ≡ length (filter is_skipped (take l.site-index l.sites));
  few : l.count ≤ l.site-index;
}
