use Rattle.std.proofs.Common.{◌∙◌, ℕ, List, ap, length}
use Rattle.std.proofs.lemmas.List.FromFn.{length-map-range_with_len}
use Rattle.mh_core.specs.Links.{links}
use Rattle.mhlink_c.specs.Texts.{unflushed_of}
use Rattle.mhlink_c.proofs.host.Host.report.Goals as goal

pub push_tables-requires-clause-links : goal.push_tables-requires-clause-links
push_tables-requires-clause-links c =
    let hits = c.deref.ensures.value ∙ c.in_ok-unflushed.ensures.value in
    ap (λ (ns : List ℕ). length ns) hits ∙ length-map-range_with_len (unflushed_of c.ledgers.result.now) 0 (length (links c.book-book.result.now.definition))
