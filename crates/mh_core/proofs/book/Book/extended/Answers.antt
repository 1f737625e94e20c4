use Rattle.std.proofs.Common.{◌∙◌, subst, sym}
use Rattle.mh_site.specs.Targets.{AreTargets}
use Rattle.mh_core.specs.Books.{BookState}
use Rattle.mh_core.specs.Records.{bases}
use Rattle.mh_core.specs.Laws.Extending.{own_targets}
use Rattle.mh_core.proofs.book.Book.extended.Goals as goal

pub extended-requires : goal.extended-requires
extended-requires c =
    let now = c.args.self.now in
    let is = c.kept.ensures.book in
    record {
      targets = subst (AreTargets c.self.inside.definition) (sym (c.deref.ensures.value ∙ c.in_ok-bases.ensures.value))
          (subst (λ (b : BookState). AreTargets b.definition (bases now.definition now.records)) (sym c.self.view_is) (own_targets now.definition now.records now.limits is.definition is.legal));
    }
