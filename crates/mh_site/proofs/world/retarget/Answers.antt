use Rattle.std.proofs.Common.{ap, arith, ◌∙◌, ◌≡◌, slice_set, slice_index_or, [], List, ℕ}
use Rattle.mh_tree.specs.Handle.{TypedTree}
use Rattle.mh_site.specs.declared.world.SiteWorld.{SiteWorld}
use Rattle.mh_site.specs.Worlds.{site_state, site_states, retargeted, SiteState, no_state}
use Rattle.mh_site.specs.Controls.{Retargeted}
use Rattle.mh_site.specs.Defined.{no_tree}
use Rattle.mh_site.specs.Laws.Tables.{unwritten, written}
use Rattle.mh_site.proofs.world.retarget.Goals as goal

abbrev state_of : TypedTree → TypedTree → List ℕ → ℕ → SiteState
state_of t u k n = record { base = t; linked = u; kept = k; version = n }

same_state : (t u : TypedTree) (k : List ℕ) (n : ℕ) → u ≡ t → k ≡ [] → state_of t u k n ≡ state_of t t [] n
same_state t u k n e h = cc

pub returns-then-site-len-clause-value : goal.returns-then-site-len-clause-value
returns-then-site-len-clause-value c =
    let t = c.retargeting.inside.base in
    let u = c.retargeting.inside.linked in
    let xs = c.args.sites.now.items in
    let ts = c.args.linked.now.items in
    written xs ts c.requires.many c.retargeting.inside.site _ _ u no_tree (retargeted t) (omega arith)
    (same_state t u c.new-entry.result.items _ c.retargeting.invariant.0 c.new-entry.ensures ∙ ap (λ (x : SiteWorld). retargeted t (site_state (x, t))) c.index_mut-entry.ensures.value)
    ∙ ap (λ (r : Retargeted). slice_set (site_states xs ts) r.site (retargeted r.tree (slice_index_or (site_states xs ts) r.site no_state))) c.retargeting.view_is

pub returns-else-site-len-clause-value : goal.returns-else-site-len-clause-value
returns-else-site-len-clause-value c =
    let xs = c.args.sites.now.items in
    let ts = c.args.linked.now.items in
    unwritten xs ts c.requires.many c.retargeting.inside.site _ (omega arith)
    ∙ ap (λ (r : Retargeted). slice_set (site_states xs ts) r.site (retargeted r.tree (slice_index_or (site_states xs ts) r.site no_state))) c.retargeting.view_is
