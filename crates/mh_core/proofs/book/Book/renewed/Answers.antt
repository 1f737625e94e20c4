use Rattle.std.proofs.Common.{◌∙◌, subst, sym}
use Rattle.mh_site.specs.Targets.{AreTargets}
use Rattle.mh_core.specs.Books.{BookState}
use Rattle.mh_core.specs.Renewals.{renewed_bases}
use Rattle.mh_core.specs.Laws.Renewing.{bases_suit}
use Rattle.mh_core.proofs.book.Book.renewed.Goals as goal

pub with_targets-requires : goal.with_targets-requires
with_targets-requires c =
    let now = c.args.self.now in
    let is = c.kept.ensures.book in
    record {
      targets = subst (AreTargets c.self.inside.definition) (sym (c.deref.ensures.value ∙ c.in_ok-bases.ensures.value))
          (subst (λ (b : BookState). AreTargets b.definition (renewed_bases now.definition now.records c.args.again.now)) (sym c.self.view_is) (bases_suit now.definition now.records c.args.again.now now.limits is.definition is.legal));
    }
