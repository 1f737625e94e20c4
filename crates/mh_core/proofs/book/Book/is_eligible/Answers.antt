use Rattle.std.proofs.Common.{◌∙◌, ap, subst}
use Rattle.mh_site.specs.Links.{link_at}
use Rattle.mh_site.specs.declared.link.Link.{Link}
use Rattle.mh_core.specs.Books.{BookState, IsBook}
use Rattle.mh_core.proofs.InstalledLinks.{eligible_now}
use Rattle.mh_core.proofs.book.Book.is_eligible.Goals as goal

pub returns : goal.returns
returns c =
    let now = c.args.self.now in
    let is = subst IsBook c.self.view_is c.self.invariant in
    let valid = c.valid.ensures.value ∙ ap (λ (b : BookState). b.world.valid) c.self.view_is in
    let needs = c.as_slice-needs.ensures.value
    ∙ (ap (λ (l : Link). l.needs) c.link_of.ensures.value ∙ ap (λ (b : BookState). (link_at b.definition c.args.link).1.needs) c.self.view_is) in
    record { value = c.all_valid.ensures.value ∙ eligible_now now _ _ c.args.link is valid needs c.requires.inside }
