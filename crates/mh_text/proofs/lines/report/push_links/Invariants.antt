use Rattle.std.proofs.Common.{◌≡◌, ◌++◌, slice_index_or, string_bytes}
use Rattle.std.specs.List.{flat_map}
use Rattle.mh_core.specs.Records.{numbers}
use Rattle.mh_text.specs.Report.{ended, link_text}
use Rattle.mh_text.proofs.lines.report.push_links.Given as goal

-- the lines so far
abbrev pub invariant-loop-link : goal.invariant-loop-link
invariant-loop-link l = string_bytes l.out ≡ string_bytes l.fn.out ++ flat_map (λ i. ended (link_text l.book.definition l.book.records (slice_index_or l.unflushed i 0) i)) (numbers l.link)
