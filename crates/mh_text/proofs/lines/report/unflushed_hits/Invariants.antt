use Rattle.std.proofs.Common.{◌≡◌, ◌≤◌, map}
use Rattle.std.specs.List.{All}
use Rattle.mh_core.specs.Records.{numbers}
use Rattle.mh_core.specs.State.{unflushed_of_all}
use Rattle.mh_text.specs.Report.{most_unflushed}
use Rattle.mh_text.proofs.lines.report.unflushed_hits.Given as goal

-- those of the first links
abbrev pub invariant-loop-link : goal.invariant-loop-link
invariant-loop-link l = record {
  value : l.unflushed.items ≡ map (unflushed_of_all l.machine.setting.definition l.machine.history l.machine.setting.workers) (numbers l.link);
  few : All (λ n. n ≤ most_unflushed) l.unflushed.items;
}
