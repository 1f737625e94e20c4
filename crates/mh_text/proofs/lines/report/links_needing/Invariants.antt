use Rattle.std.proofs.Common.{◌≡◌}
use Rattle.std.specs.List.{filter}
use Rattle.mh_network.specs.Selection.{member}
use Rattle.mh_site.specs.Links.{link_at}
use Rattle.mh_core.specs.Records.{numbers}
use Rattle.mh_text.proofs.lines.report.links_needing.Given as goal

-- those among the first links
abbrev pub invariant-loop-link : goal.invariant-loop-link
invariant-loop-link l = l.links.items ≡ filter (λ j. member (link_at l.book.definition j).1.needs l.point) (numbers l.link)
