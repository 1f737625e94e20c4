-- Installations: the inline caches of a plan's links (Hölzle, Chambers, Ungar 1991), as trees that calls run.
use Rattle.std.specs.Prelude.{ℕ, ◌+◌, ◌<◌, ◌≤◌, ◌==◌, nat_lt, pos, Bool, not, ◌&&◌, ◌||◌, Some, None, List, [], ◌∷◌, map, filter, length, take, if◌then◌else◌}
use Rattle.std.specs.List.{range_with_len}
use Rattle.mh_type.specs.declared.kind.Kind.{Kind}
use Rattle.mh_tree.specs.Environment.{Environment}
use Rattle.mh_tree.specs.Handle.{TypedTree}
use Rattle.mh_tree.specs.Sites.{Setting, env, sites}
use Rattle.mh_pic.specs.Chains.{PlainEntry, chain}
use Rattle.mh_network.specs.Selection.{member}
use Rattle.mh_cert.specs.declared.plan.Plan.{Plan}
use Rattle.mh_site.specs.Defined.{DefinitionData, site_at}
use Rattle.mh_site.specs.Links.{link_at, site_of, first_link}
use Rattle.mh_site.specs.declared.site.Site.{Site}
use Rattle.mh_core.specs.declared.install_report.InstallReport.{InstallReport}
use Rattle.mh_core.specs.declared.install_report.Linkage.{Linkage}
use Rattle.mh_core.specs.declared.install_report.Linkage.TheVariants.{Linked, Unlinked, Skipped}
use Rattle.mh_core.specs.declared.install_report.SiteLinkage.{SiteLinkage}
use Rattle.mh_core.specs.declared.record.Record.{Record}
use Rattle.mh_core.specs.declared.record.Record.TheVariants.{Flushed, Targeted, Invalidated, Snapped, Published, Installed}
use Rattle.mh_core.specs.Problems.{is_eligible}
use Rattle.mh_core.specs.Records.{numbers, base, valid_points, version, past, plans}

-- a plan, and the number of its snapshot
pub record PublishedPlan : Type 0 where
  pub snapshot : ℕ
  pub plan : Plan

abbrev pub no_plan : PublishedPlan
no_plan = record { snapshot = 0; plan = record { links = []; points = []; value = pos 0; flow = []; charges = [] } }

-- the plan of a number, from 1
abbrev pub plan_at : List Record → ℕ → PublishedPlan
plan_at [] m = no_plan
plan_at (Flushed w hits ∷ r) m = plan_at r m
plan_at (Targeted t tree ∷ r) m = plan_at r m
plan_at (Invalidated points ∷ r) m = plan_at r m
plan_at (Snapped ∷ r) m = plan_at r m
plan_at (Published n plan ∷ r) m = if plans r + 1 == m then record { snapshot = n; plan = plan } else plan_at r m
plan_at (Installed m′ ∷ r) m = plan_at r m

-- a plan of this number was published
abbrev pub IsPublished : List Record → ℕ → Type 0
IsPublished r m = (0 < m) × (m ≤ plans r)

-- the site was not retargeted since the plan's snapshot
abbrev pub is_current : List Record → ℕ → ℕ → Bool
is_current r m s = version (past r (plan_at r m).snapshot) s == version r s

-- the numbers of a site's links
abbrev pub own_links : DefinitionData → ℕ → List ℕ
own_links d s = range_with_len (first_link d s) (length (site_at d s).links)

-- the links of a site that a plan selects, in link order
abbrev pub chosen : DefinitionData → List Record → ℕ → ℕ → List ℕ
chosen d r m s = filter (member (plan_at r m).plan.links) (own_links d s)

-- those of them whose needs are all valid
abbrev pub usable : DefinitionData → List Record → ℕ → ℕ → List ℕ
usable d r m s = filter (is_eligible d r) (chosen d r m s)

-- the links that a site's linked tree holds: those of the last installation, unless a retargeting came after it
abbrev pub kept : DefinitionData → List Record → ℕ → List ℕ
kept d [] s = []
kept d (Flushed w hits ∷ r) s = kept d r s
kept d (Targeted t tree ∷ r) s = if t == s then [] else kept d r s
kept d (Invalidated points ∷ r) s = kept d r s
kept d (Snapped ∷ r) s = kept d r s
kept d (Published n plan ∷ r) s = kept d r s
kept d (Installed m ∷ r) s = if is_current r m s then usable d r m s else kept d r s

-- the kinds of the parameters before the key position
abbrev pub before_key : Site → List Kind
before_key x = elim x.key as (λ _. List Kind) [ None ↦ [] | Some q ↦ take q x.method_type.parameters ]

abbrev pub entry : DefinitionData → ℕ → PlainEntry
entry d j = record { key = (link_at d j).1.when; needs = (link_at d j).1.needs }

-- the inline cache of these links over a tree of the site
abbrev pub cached : DefinitionData → ℕ → TypedTree → List ℕ → TypedTree
cached d s t js = record { tree = chain (before_key (site_at d s)) t.tree (map (entry d) js); signature = t.signature }

-- the tree that a call of the site runs
abbrev pub linked : DefinitionData → List Record → ℕ → TypedTree
linked d r s = cached d s (base d r s) (kept d r s)

-- the linked tree of each site, by number
abbrev pub linkeds : DefinitionData → List Record → List TypedTree
linkeds d r = map (linked d r) (numbers (length d.sites))

-- the valid points, and the linked trees, which run in place of the base trees
abbrev pub linked_sites : DefinitionData → List Record → Setting
linked_sites d r = sites (valid_points d r) (linkeds d r)

-- what trees do after the records, and in how many steps: an invocation runs the linked tree of its site
abbrev pub environment_of_links : DefinitionData → List Record → Environment
environment_of_links d r = env (linked_sites d r)

-- an installation concerns the sites that have a link in the plan, and those that currently hold links
abbrev pub is_concerned : DefinitionData → List Record → ℕ → ℕ → Bool
is_concerned d r m s = nat_lt 0 (length (chosen d r m s)) || nat_lt 0 (length (kept d r s))

abbrev pub concerned : DefinitionData → List Record → ℕ → List ℕ
concerned d r m = filter (is_concerned d r m) (numbers (length d.sites))

-- the linkage of a site with these links
abbrev pub linkage_of : List ℕ → Linkage
linkage_of [] = Unlinked
linkage_of (j ∷ js) = Linked (length (j ∷ js))

-- a site that was retargeted since the snapshot is skipped
abbrev pub site_linkage : DefinitionData → List Record → ℕ → ℕ → SiteLinkage
site_linkage d r m s = record { site = s; linkage = if is_current r m s then linkage_of (usable d r m s) else Skipped }

-- the plan's links, at sites that are not skipped, of which a needed point is invalid
abbrev pub left_out : DefinitionData → List Record → ℕ → List ℕ
left_out d r m = filter (λ j. is_current r m (site_of d j) && not (is_eligible d r j)) (plan_at r m).plan.links

-- the reply to the installation of a plan
abbrev pub report : DefinitionData → List Record → ℕ → InstallReport
report d r m = record { sites = map (site_linkage d r m) (concerned d r m); left_out = left_out d r m }
