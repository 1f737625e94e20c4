-- The world before any control.
use Rattle.std.proofs.Common.{◌≡◌, ◌≤◌, ◌∙◌, [], ap, sym, subst, length}
use Rattle.std.proofs.lemmas.List.{get_or-map}
use Rattle.logbook.specs.Pages.{Book}
use Rattle.mh_tree.specs.Limits.{point_bound}
use Rattle.mh_tree.specs.Meaning.{mean}
use Rattle.mh_site.specs.Defined.{DefinitionData, no_site, site_at}
use Rattle.mh_site.specs.Lawful.{IsDefinition, MayInvokeFrom}
use Rattle.mh_site.specs.Worlds.{SiteState, no_state, opened, opening, state_at}
use Rattle.mh_live.specs.Rules.{Stands, world_after}
use Rattle.mh_core.specs.Standing.{AreStanding}
use Rattle.mh_live.specs.declared.published.Published.{Published}

pub opened_stands : (d : DefinitionData) → IsDefinition d → AreStanding d (opened d)
opened_stands d is s h =
    let lawful = is.sites s no_site h in
    let read : state_at (opened d) s ≡ opening (site_at d s) = get_or-map opening d.sites s no_site no_state h in
    record {
      base_type = ap (λ (x : SiteState). x.base.signature) read ∙ lawful.typed;
      linked_type = ap (λ (x : SiteState). x.linked.signature) read ∙ lawful.typed;
      base_points = subst (λ (x : SiteState). point_bound x.base.tree ≤ length d.points) (sym read) lawful.known;
      linked_points = subst (λ (x : SiteState). point_bound x.linked.tree ≤ length d.points) (sym read) lawful.known;
      low = lawful.low;
      base_invokes = subst (λ (x : SiteState). MayInvokeFrom d.sites (site_at d s).level x.base.tree) (sym read) (is.invokes s no_site h);
      linked_invokes = subst (λ (x : SiteState). MayInvokeFrom d.sites (site_at d s).level x.linked.tree) (sym read) (is.invokes s no_site h);
      faithful = λ typed valid a fits. ap (λ (x : SiteState). mean valid x.linked.tree a) read ∙ sym (ap (λ (x : SiteState). mean valid x.base.tree a) read);
    }

-- a published value without controls
pub first_stands : (book : Book) (d : DefinitionData) (x : Published) → IsDefinition d → x.past.book ≡ book → x.past.names ≡ [] → x.past.log ≡ [] → x.world ≡ opened d → Stands book d x
first_stands book d x is book_is names_are log world = record {
  book_is = book_is;
  names_are = names_are;
  replays = world ∙ sym (ap (world_after d) log);
  standing = subst (AreStanding d) (sym world) (opened_stands d is);
}
