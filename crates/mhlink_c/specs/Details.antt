-- The properties that C queries.
use Rattle.std.specs.Prelude.{ℕ, ◌+◌, ◌&&◌, nat_le, nat_lt, Bool, true, false, Option, Some, None, option_and_then, option_map, List, [], ◌∷◌, length, if◌then◌else◌}
use Rattle.std.specs.List.{slice_get}
use Rattle.mh_type.specs.declared.kind.Kind.{Kind}
use Rattle.mh_type.specs.declared.kind.Kind.TheVariants as kind
use Rattle.mh_core.specs.Books.{BookState}
use Rattle.mh_core.specs.Defined.{DefinitionData, point_at, site_at}
use Rattle.mh_core.specs.Installations.{is_current, kept, plan_at}
use Rattle.mh_core.specs.Links.{first_link, link_at, links, site_of}
use Rattle.mh_core.specs.Problems.{is_eligible}
use Rattle.mh_core.specs.Records.{is_valid, plans, version}
use Rattle.mhlink_c.specs.declared.detail.CountDetail.{CountDetail}
use Rattle.mhlink_c.specs.declared.detail.CountDetail.TheVariants as all
use Rattle.mhlink_c.specs.declared.detail.Detail.{Detail}
use Rattle.mhlink_c.specs.declared.detail.Detail.TheVariants as of
use Rattle.mhlink_c.specs.declared.detail.LinkDetail.{LinkDetail}
use Rattle.mhlink_c.specs.declared.detail.LinkDetail.TheVariants as link
use Rattle.mhlink_c.specs.declared.detail.PlanDetail.{PlanDetail}
use Rattle.mhlink_c.specs.declared.detail.PlanDetail.TheVariants as plan
use Rattle.mhlink_c.specs.declared.detail.PointDetail.{PointDetail}
use Rattle.mhlink_c.specs.declared.detail.PointDetail.TheVariants as point
use Rattle.mhlink_c.specs.declared.detail.SiteDetail.{SiteDetail}
use Rattle.mhlink_c.specs.declared.detail.SiteDetail.TheVariants as site

-- each property, at the number by which C selects it
abbrev pub details : List Detail
details =
    of.Count all.Points ∷ of.Count all.Sites ∷ of.Count all.Links
    ∷ of.Point point.Valid ∷ of.Point point.Cost
    ∷ of.Site site.Level ∷ of.Site site.Key ∷ of.Site site.Result ∷ of.Site site.Parameters ∷ of.Site site.Parameter
    ∷ of.Site site.Links ∷ of.Site site.Link ∷ of.Site site.Held ∷ of.Site site.HeldLink ∷ of.Site site.Retargetings
    ∷ of.Link link.Site ∷ of.Link link.Weight ∷ of.Link link.Charge ∷ of.Link link.Needs ∷ of.Link link.Need
    ∷ of.Link link.Eligible
    ∷ of.Plan plan.Links ∷ of.Plan plan.Link ∷ of.Plan plan.Points ∷ of.Plan plan.Point ∷ of.Plan plan.Current
    ∷ []

abbrev pub count : DefinitionData → CountDetail → ℕ
count d all.Points = length d.points
count d all.Sites = length d.sites
count d all.Links = length (links d)

abbrev pub truth : Bool → ℕ
truth true = 1
truth false = 0

abbrev pub point_detail : BookState → ℕ → PointDetail → ℕ
point_detail b p point.Valid = truth (is_valid b.records p)
point_detail b p point.Cost = (point_at b.definition p).cost

-- the number that a kind has among those of values
abbrev pub kind_number : Kind → ℕ
kind_number kind.Int = 1
kind_number kind.Long = 2
kind_number kind.Boolean = 3
kind_number kind.Text = 4

-- the number of a site's link at an index
abbrev pub link_of_site : DefinitionData → ℕ → ℕ → Option ℕ
link_of_site d s k = if nat_lt k (length (site_at d s).links) then Some (first_link d s + k) else None

abbrev pub site_detail : BookState → ℕ → ℕ → SiteDetail → Option ℕ
site_detail b s k site.Level = Some (site_at b.definition s).level
site_detail b s k site.Key = (site_at b.definition s).key
site_detail b s k site.Result = Some (kind_number (site_at b.definition s).method_type.ret)
site_detail b s k site.Parameters = Some (length (site_at b.definition s).method_type.parameters)
site_detail b s k site.Parameter = option_map kind_number (slice_get (site_at b.definition s).method_type.parameters k)
site_detail b s k site.Links = Some (length (site_at b.definition s).links)
site_detail b s k site.Link = link_of_site b.definition s k
site_detail b s k site.Held = Some (length (kept b.definition b.records s))
site_detail b s k site.HeldLink = slice_get (kept b.definition b.records s) k
site_detail b s k site.Retargetings = Some (version b.records s)

abbrev pub link_detail : BookState → ℕ → ℕ → LinkDetail → Option ℕ
link_detail b j k link.Site = Some (site_of b.definition j)
link_detail b j k link.Weight = Some (link_at b.definition j).1.weight
link_detail b j k link.Charge = Some (link_at b.definition j).1.charge
link_detail b j k link.Needs = Some (length (link_at b.definition j).1.needs)
link_detail b j k link.Need = slice_get (link_at b.definition j).1.needs k
link_detail b j k link.Eligible = Some (truth (is_eligible b.definition b.records j))

-- whether an installation of a plan includes a site
abbrev pub current_at_site : BookState → ℕ → ℕ → Option ℕ
current_at_site b m s = if nat_lt s (length b.definition.sites) then Some (truth (is_current b.records m s)) else None

abbrev pub plan_detail : BookState → ℕ → ℕ → PlanDetail → Option ℕ
plan_detail b m k plan.Links = Some (length (plan_at b.records m).plan.links)
plan_detail b m k plan.Link = slice_get (plan_at b.records m).plan.links k
plan_detail b m k plan.Points = Some (length (plan_at b.records m).plan.points)
plan_detail b m k plan.Point = slice_get (plan_at b.records m).plan.points k
plan_detail b m k plan.Current = current_at_site b m k

-- a property of the point, site, link or plan of a number; if the property is a list, of the element at an index
abbrev pub told : BookState → Detail → ℕ → ℕ → Option ℕ
told b (of.Count detail) n k = Some (count b.definition detail)
told b (of.Point detail) n k = if nat_lt n (length b.definition.points) then Some (point_detail b n detail) else None
told b (of.Site detail) n k = if nat_lt n (length b.definition.sites) then site_detail b n k detail else None
told b (of.Link detail) n k = if nat_lt n (length (links b.definition)) then link_detail b n k detail else None
told b (of.Plan detail) n k = if nat_lt 0 n && nat_le n (plans b.records) then plan_detail b n k detail else None

-- the property that C selects by its number
abbrev pub detail_at : BookState → ℕ → ℕ → ℕ → Option ℕ
detail_at b which n k = option_and_then (λ detail. told b detail n k) (slice_get details which)
