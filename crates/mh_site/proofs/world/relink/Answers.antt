use Rattle.std.proofs.Common.{ap, arith, ◌∙◌, List, ℕ}
use Rattle.mh_tree.specs.Handle.{TypedTree}
use Rattle.mh_site.specs.declared.world.SiteWorld.{SiteWorld}
use Rattle.mh_site.specs.Worlds.{site_state, site_states, relinked, relink_site}
use Rattle.mh_site.specs.Controls.{Relinked}
use Rattle.mh_site.specs.Defined.{no_tree}
use Rattle.mh_site.specs.Laws.Tables.{unwritten, written}
use Rattle.mh_site.proofs.world.relink.Goals as goal

pub returns-then-site-len-clause-value : goal.returns-then-site-len-clause-value
returns-then-site-len-clause-value c =
    let linked : TypedTree = c.change.inside.linked in
    let kept : List ℕ = c.change.inside.kept.items in
    let xs = c.args.sites.now.items in
    let ts = c.args.linked.now.items in
    written xs ts c.requires.many c.change.inside.site _ _ linked no_tree (relinked linked kept) (omega arith) (ap (λ (x : SiteWorld). relinked linked kept (site_state (x, linked))) c.index_mut-relinked.ensures.value)
    ∙ ap (λ (r : Relinked). relink_site (site_states xs ts) r) c.change.view_is

pub returns-else-site-len-clause-value : goal.returns-else-site-len-clause-value
returns-else-site-len-clause-value c =
    let xs = c.args.sites.now.items in
    let ts = c.args.linked.now.items in
    unwritten xs ts c.requires.many c.change.inside.site _ (omega arith) ∙ ap (λ (r : Relinked). relink_site (site_states xs ts) r) c.change.view_is
