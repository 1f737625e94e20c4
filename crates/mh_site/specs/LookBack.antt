-- The state after controls, newest first, found by looking back for the last control that decides it.
use Rattle.std.specs.Prelude.{ℕ, ◌+◌, ◌==◌, Bool, true, not, ◌&&◌, List, [], ◌∷◌, map, fold, length, if◌then◌else◌}
use Rattle.std.specs.List.{list_any, range_with_len}
use Rattle.mh_tree.specs.Handle.{TypedTree}
use Rattle.mh_site.specs.declared.control.Control.{Control}
use Rattle.mh_site.specs.declared.control.Control.TheVariants.{Target, Invalidate, Install}
use Rattle.mh_site.specs.Controls.{Relinked}
use Rattle.mh_site.specs.Defined.{DefinitionData, site_at}
use Rattle.mh_site.specs.Worlds.{SiteState}

-- the tree of the last retargeting, otherwise the opening one
abbrev pub base : DefinitionData → List Control → ℕ → TypedTree
base d [] s = (site_at d s).target
base d (Target r ∷ older) s = if r.site == s then r.tree else base d older s
base d (Invalidate points ∷ older) s = base d older s
base d (Install changes ∷ older) s = base d older s

-- the number of times that a site was retargeted
abbrev pub version : List Control → ℕ → ℕ
version [] s = 0
version (Target r ∷ older) s = if r.site == s then version older s + 1 else version older s
version (Invalidate points ∷ older) s = version older s
version (Install changes ∷ older) s = version older s

abbrev pub member : List ℕ → ℕ → Bool
member ps p = list_any (λ q. q == p) ps

-- no invalidation names the point
abbrev pub is_valid : List Control → ℕ → Bool
is_valid [] p = true
is_valid (Target r ∷ older) p = is_valid older p
is_valid (Invalidate points ∷ older) p = not (member points p) && is_valid older p
is_valid (Install changes ∷ older) p = is_valid older p

abbrev pub valid_points : DefinitionData → List Control → List Bool
valid_points d controls = map (is_valid controls) (range_with_len 0 (length d.points))

-- this part of the last of the changes of the site, or `other` if there are none
abbrev pub last_of : {X : Type 0} → (Relinked → X) → ℕ → X → List Relinked → X
last_of part s other changes = fold (λ x c. if c.site == s then part c else x) other changes

-- the linked tree of the last installation that changes the site; a retargeting resets it to the base
abbrev pub linked : DefinitionData → List Control → ℕ → TypedTree
linked d [] s = (site_at d s).target
linked d (Target r ∷ older) s = if r.site == s then r.tree else linked d older s
linked d (Invalidate points ∷ older) s = linked d older s
linked d (Install changes ∷ older) s = last_of (λ c. c.linked) s (linked d older s) changes

-- the links that the linked tree holds; a base tree holds none
abbrev pub kept : List Control → ℕ → List ℕ
kept [] s = []
kept (Target r ∷ older) s = if r.site == s then [] else kept older s
kept (Invalidate points ∷ older) s = kept older s
kept (Install changes ∷ older) s = last_of (λ c. c.kept) s (kept older s) changes

abbrev pub site_after : DefinitionData → List Control → ℕ → SiteState
site_after d controls s = record { base = base d controls s; linked = linked d controls s; kept = kept controls s; version = version controls s }
