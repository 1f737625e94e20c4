-- A world as tables, and how controls change it.
use Rattle.std.specs.List.{All, zip}
use Rattle.std.specs.Prelude.{ℕ, ◌≤◌, ◌+◌, List, [], map, fold, length, replicate, slice_set, slice_index_or, Bool, true, false, refl}
use Rattle.std.specs.Coded.{Coded, code_by, coded×, coded_ℕ, coded_bool, coded_list}
use Rattle.mh_tree.specs.Handle.{TypedTree}
use Rattle.mh_tree.specs.Typing.{IsTyped}
use Rattle.mh_tree.specs.TreeCode.{coded_typed_tree}
use Rattle.mh_site.specs.declared.site.Site.{Site}
use Rattle.mh_site.specs.declared.control.Control.{Control}
use Rattle.mh_site.specs.declared.control.Control.TheVariants.{Target, Invalidate, Install}
use Rattle.mh_site.specs.Controls.{Relinked}
use Rattle.mh_site.specs.Defined.{DefinitionData, no_tree}
use Rattle.mh_tree.specs.Environment.{Environment}
use Rattle.mh_tree.specs.Sites.{Setting, env, sites, with_sites}
use Rattle.mh_site.specs.declared.world.SiteWorld.{SiteWorld}

-- a site's base tree and linked tree, the links that the linked tree holds, and the number of the site's retargetings
pub record SiteState : Type 0 where
  pub base : TypedTree
  pub linked : TypedTree
  pub kept : List ℕ
  pub version : ℕ

-- the points that are valid, each site, and the number of controls absorbed
pub record WorldState : Type 0 where
  pub valid : List Bool
  pub sites : List SiteState
  pub front : ℕ

-- the trees of each site are typed
abbrev pub AreTyped : List SiteState → Type 0
AreTyped sites = All (λ x. IsTyped x.base.tree x.base.signature × IsTyped x.linked.tree x.linked.signature) sites

-- no site was retargeted more often than there were controls, and trees are typed
pub record IsWorld (w : WorldState) : Type 0 where
  pub early : All (λ x. x.version ≤ w.front) w.sites
  pub typed : AreTyped w.sites

-- the base tree of each site, by number
abbrev pub bases : WorldState → List TypedTree
bases w = map (λ x. x.base) w.sites

-- the linked tree of each site, by number
abbrev pub linkeds : WorldState → List TypedTree
linkeds w = map (λ x. x.linked) w.sites

-- the state past the last site
abbrev pub no_state : SiteState
no_state = record { base = no_tree; linked = no_tree; kept = []; version = 0 }

abbrev pub state_at : WorldState → ℕ → SiteState
state_at w s = slice_index_or w.sites s no_state

-- the meaning of trees in the world: an invocation means the base tree of its site
abbrev pub environment_of_bases : WorldState → Environment
environment_of_bases w = with_sites w.valid (bases w)

-- the valid points of the world, and the linked trees, which run in place of the base trees
abbrev pub linked_sites : WorldState → Setting
linked_sites w = sites w.valid (linkeds w)

-- what trees do in the world, and in how many steps: an invocation runs the linked tree of its site
abbrev pub environment_of_links : WorldState → Environment
environment_of_links w = env (linked_sites w)

-- a site before any control
abbrev pub opening : Site → SiteState
opening s = record { base = s.target; linked = s.target; kept = []; version = 0 }

-- the world before any control: all points are valid (`SwitchPoint`, "in the valid state")
abbrev pub opened : DefinitionData → WorldState
opened d = record { valid = replicate (length d.points) true; sites = map opening d.sites; front = 0 }

-- another tree of a site resets its linked tree to the base
abbrev pub retargeted : TypedTree → SiteState → SiteState
retargeted t x = record { base = t; linked = t; kept = []; version = x.version + 1 }

-- a point is invalid from then on (`SwitchPoint.invalidateAll`)
abbrev pub clear_point : List Bool → ℕ → List Bool
clear_point v p = slice_set v p false

-- a site with another linked tree, over the same base
abbrev pub relinked : TypedTree → List ℕ → SiteState → SiteState
relinked t links x = record { base = x.base; linked = t; kept = links; version = x.version }

abbrev pub relink_site : List SiteState → Relinked → List SiteState
relink_site sites r = slice_set sites r.site (relinked r.linked r.kept (slice_index_or sites r.site no_state))

-- the world after a control
abbrev pub after : WorldState → Control → WorldState
after w (Target r) = record { valid = w.valid; sites = slice_set w.sites r.site (retargeted r.tree (state_at w r.site)); front = w.front + 1 }
after w (Invalidate points) = record { valid = fold clear_point w.valid points; sites = w.sites; front = w.front + 1 }
after w (Install changes) = record { valid = w.valid; sites = fold relink_site w.sites changes; front = w.front + 1 }

-- the world after controls, oldest first
abbrev pub replay : WorldState → List Control → WorldState
replay w controls = fold after w controls

abbrev pub coded_state : Coded SiteState
coded_state =
    code_by ((TypedTree × TypedTree) × (List ℕ × ℕ)) (coded× (coded× coded_typed_tree coded_typed_tree) (coded× (coded_list coded_ℕ) coded_ℕ))
    (λ x. ((x.base, x.linked), (x.kept, x.version))) (λ p. record { base = p.0.0; linked = p.0.1; kept = p.1.0; version = p.1.1 }) (λ _. refl)

abbrev pub coded_world : Coded WorldState
coded_world =
    code_by (List Bool × (List SiteState × ℕ)) (coded× (coded_list coded_bool) (coded× (coded_list coded_state) coded_ℕ))
    (λ w. (w.valid, (w.sites, w.front))) (λ p. record { valid = p.0; sites = p.1.0; front = p.1.1 }) (λ _. refl)

-- a site, with its linked tree, as plain data
abbrev pub site_state : SiteWorld × TypedTree → SiteState
site_state x = record { base = x.0.base; linked = x.1; kept = x.0.kept.items; version = x.0.version }

-- the parts of a site other than its linked tree
abbrev pub plain_site : SiteWorld → TypedTree × (List ℕ × ℕ)
plain_site x = (x.base, (x.kept.items, x.version))

abbrev pub site_states : List SiteWorld → List TypedTree → List SiteState
site_states sites linked = map site_state (zip sites linked)
