use Rattle.std.proofs.Common.{◌≡◌, ◌∙◌, ap, refl, subst}
use Rattle.std.specs.Prelude.{reverse}
use Rattle.mh_ledger.specs.Resumptions.{resumed_totals}
use Rattle.mh_site.specs.Lawful.{IsDefinition}
use Rattle.mh_core.specs.Replayed.{world}
use Rattle.mh_core.specs.Resumptions.{resumed_records}
use Rattle.mh_core.proofs.Resumed.{made_book, resumed_world}
use Rattle.mh_core.proofs.book.Book.resumed.Goals as goal

pub invariant_of-book : goal.invariant_of-book
invariant_of-book c =
    let d = c.args.definition.now in
    let points = c.args.invalid in
    let hits = c.args.hits.now in
    let same : c.in_ok-world.world ≡ world d (resumed_records points hits) = resumed_world d _ points hits _ c.in_ok-definition.ensures.value c.in_ok-world.ensures.value in
    let lawful : IsDefinition d = subst IsDefinition c.in_ok-definition.ensures.value c.sites-sites.ensures.lawful in
    made_book d c.args.workers c.args.limits points hits c.requires.passes lawful c.ledger-ledger_limit.ensures.limits
    c.in_ok-definition.definition (reverse c.in_ok-records.records.items) c.in_ok-world.world c.in_ok-totals.totals (reverse c.new.result.items) (reverse c.new-2.result.items) _
    c.in_ok-definition.ensures.value c.in_ok-records.ensures.value same
    (c.in_ok-totals.ensures.totals ∙ ap (resumed_totals hits c.args.workers) c.total-total_limit.ensures.value) (ap reverse c.new.ensures.items) (ap reverse c.new-2.ensures.items)

pub returns-clause-book : goal.returns-clause-book
returns-clause-book c =
    let d = c.args.definition.now in
    let points = c.args.invalid in
    let hits = c.args.hits.now in
    record {
      definition = c.in_ok-definition.ensures.value;
      limits = refl;
      records = c.in_ok-records.ensures.value;
      world = resumed_world d _ points hits _ c.in_ok-definition.ensures.value c.in_ok-world.ensures.value;
      totals = c.in_ok-totals.ensures.totals ∙ ap (resumed_totals hits c.args.workers) c.total-total_limit.ensures.value;
      snapshots = ap reverse c.new.ensures.items;
      plans = ap reverse c.new-2.ensures.items;
    }
