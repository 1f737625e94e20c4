use Rattle.std.proofs.Common.{◌≤◌, length, subst, sym}
use Rattle.mh_site.specs.Defined.{DefinitionData}
use Rattle.mh_site.specs.Links.{links}
use Rattle.mh_core.specs.Laws.Extending.{extension_longer}
use Rattle.mh_core.proofs.book.Book.extension.Goals as goal

pub beginning_over-requires-clause-longer : goal.beginning_over-requires-clause-longer
beginning_over-requires-clause-longer c =
    let now = c.args.self.now in
    subst (λ (d : DefinitionData). length (links now.definition) ≤ length (links d)) (sym c.in_ok-definition.ensures.value) (extension_longer now.definition now.records c.args.points c.args.sites).links
