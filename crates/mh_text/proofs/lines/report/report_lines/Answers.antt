use Rattle.std.proofs.Common.{◌∙◌, ap, length, sym}
use Rattle.std.proofs.lemmas.List.FromFn.{length-map-range_with_len}
use Rattle.mh_site.specs.Defined.{DefinitionData}
use Rattle.mh_site.specs.Links.{links}
use Rattle.mh_core.specs.State.{unflushed_of_all}
use Rattle.mh_text.proofs.lines.report.report_lines.Goals as goal

pub push_tables-requires-clause-links : goal.push_tables-requires-clause-links
push_tables-requires-clause-links c =
    let m = c.args.machine.now in
    ap length (c.deref.ensures.value ∙ c.in_ok-unflushed.ensures.value)
    ∙ (length-map-range_with_len (unflushed_of_all m.setting.definition m.history m.setting.workers) 0 (length (links m.setting.definition))
    ∙ sym (ap (λ (d : DefinitionData). length (links d)) c.book.ensures.definition))
