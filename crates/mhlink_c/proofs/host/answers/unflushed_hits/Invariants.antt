use Rattle.std.proofs.Common.{◌≡◌, ◌≤◌, map}
use Rattle.std.specs.List.{All}
use Rattle.mh_core.specs.Records.{numbers}
use Rattle.mh_text.specs.Report.{most_unflushed}
use Rattle.mhlink_c.specs.Texts.{unflushed_of}
use Rattle.mhlink_c.proofs.host.answers.unflushed_hits.Given as goal

-- those of the first links
abbrev pub invariant-loop-link : goal.invariant-loop-link
invariant-loop-link l = record {
  value : l.hits.items ≡ map (unflushed_of l.ledgers) (numbers l.link);
  few : All (λ n. n ≤ most_unflushed) l.hits.items;
}
