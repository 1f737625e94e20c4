use Rattle.std.proofs.Common.{◌∙◌, ap, length, subst, arith}
use Rattle.mh_site.specs.Worlds.{SiteState, state_at}
use Rattle.mh_core.specs.Books.{BookState, IsBook}
use Rattle.mh_core.proofs.InstalledLinks.{sites_now, state_now}
use Rattle.mh_core.proofs.book.Book.base_tree.Goals as goal

pub base-requires : goal.base-requires
base-requires c =
    let is = subst IsBook c.self.view_is c.self.invariant in
    let same = ap (λ (b : BookState). length b.world.sites) c.self.view_is in
    record { inside = omega (arith, c.requires.inside, same, sites_now c.args.self.now is) }

pub returns : goal.returns
returns c =
    let now = c.args.self.now in
    let is = subst IsBook c.self.view_is c.self.invariant in
    record {
      value =
          c.in_ok-tree.ensures.value
          ∙ (c.base.ensures.value
          ∙ (ap (λ (b : BookState). (state_at b.world c.args.site).base) c.self.view_is ∙ ap (λ (x : SiteState). x.base) (state_now now c.args.site is c.requires.inside)));
    }
