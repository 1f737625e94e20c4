use Rattle.std.proofs.Common.{◌≡◌, ◌∙◌, ap, length, subst, arith}
use Rattle.mh_tree.specs.Handle.{TypedTree}
use Rattle.mh_tree.specs.Typing.{IsTyped}
use Rattle.mh_pic.specs.Specialised.{retired_tree}
use Rattle.mh_site.specs.Worlds.{SiteState, state_at}
use Rattle.mh_core.specs.Books.{BookState, IsBook}
use Rattle.mh_core.specs.Records.{base}
use Rattle.mh_core.proofs.InstalledLinks.{sites_now, state_now}
use Rattle.mh_core.proofs.book.Book.base.Goals as goal

pub base-requires : goal.base-requires
base-requires c =
    let is = subst IsBook c.self.view_is c.self.invariant in
    let same = ap (λ (b : BookState). length b.world.sites) c.self.view_is in
    record { inside = omega (arith, c.requires.inside, same, sites_now c.args.self.now is) }

pub returns : goal.returns
returns c =
    let now = c.args.self.now in
    let is = subst IsBook c.self.view_is c.self.invariant in
    let own : c.base.result.now ≡ base now.definition now.records c.args.site =
    c.base.ensures.value
    ∙ (ap (λ (b : BookState). (state_at b.world c.args.site).base) c.self.view_is ∙ ap (λ (x : SiteState). x.base) (state_now now c.args.site is c.requires.inside)) in
    record {
      value = c.in_ok-tree.ensures.value ∙ ap (retired_tree c.args.points.now) own;
      typed = subst (λ (t : TypedTree). IsTyped t.tree t.signature) own c.retire.ensures.sound.typed;
    }
