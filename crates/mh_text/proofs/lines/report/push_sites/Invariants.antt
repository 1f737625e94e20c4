use Rattle.std.proofs.Common.{◌≡◌, ◌++◌, string_bytes}
use Rattle.std.specs.List.{flat_map}
use Rattle.mh_core.specs.Records.{numbers}
use Rattle.mh_text.specs.Report.{ended, site_text}
use Rattle.mh_text.proofs.lines.report.push_sites.Given as goal

-- the lines so far
abbrev pub invariant-loop-site : goal.invariant-loop-site
invariant-loop-site l = string_bytes l.out ≡ string_bytes l.fn.out ++ flat_map (λ i. ended (site_text l.book.definition l.book.records i)) (numbers l.site)
