-- A new history over the current trees, points and hits, with more points and sites.
use Rattle.std.specs.Prelude.{◌≡◌, ◌<◌, ◌≤◌, ◌-◌, ℕ, true, not, List, [], ◌∷◌, filter, length, map, reverse, take}
use Rattle.mh_base.specs.Tests.{Refuses}
use Rattle.mh_type.specs.declared.value.Value.{Value}
use Rattle.mh_tree.specs.Meaning.{mean}
use Rattle.mh_ledger.specs.Extensions.{extended_ledger, extended_totals}
use Rattle.mh_ledger.specs.Ledgers.{AreHeld, LedgerState}
use Rattle.mh_site.specs.declared.point.Point.{Point}
use Rattle.mh_site.specs.declared.site.Site.{Site}
use Rattle.mh_site.specs.Defined.{DefinitionData}
use Rattle.mh_site.specs.Extensions.{extended, extension_rules}
use Rattle.mh_site.specs.Links.{links}
use Rattle.mh_core.specs.declared.extending.Extension.{Extension}
use Rattle.mh_core.specs.declared.extending.ExtensionFault.{ExtensionFault}
use Rattle.mh_core.specs.declared.extending.ExtensionFault.TheVariants.{HistoryFull, Definition}
use Rattle.mh_core.specs.declared.record.Record.{Record}
use Rattle.mh_core.specs.declared.record.Record.TheVariants.{Invalidated}
use Rattle.mh_core.specs.Books.{BookState}
use Rattle.mh_core.specs.Records.{base, bases, environment_of_bases, is_valid, numbers}
use Rattle.mh_core.specs.Renewals.{carried}
use Rattle.mh_core.specs.Replayed.{world}

-- the definition of the new history: each site has its base tree as its target, and the new points and sites come last
abbrev pub extension : DefinitionData → List Record → List Point → List Site → DefinitionData
extension d r points sites = extended d (bases d r) points sites

-- the points that are invalid after the records
abbrev pub invalid_points : DefinitionData → List Record → List ℕ
invalid_points d r = filter (λ p. not (is_valid r p)) (numbers (length d.points))

-- the new history: an invalidation of these points, and a flush of each worker's share
abbrev pub extended_records : DefinitionData → List Record → List (List ℕ) → List Record
extended_records d r shares = carried (Invalidated (invalid_points d r) ∷ []) shares (length shares)

-- the number of links that one definition has more than another
abbrev pub more_links : DefinitionData → DefinitionData → ℕ
more_links d longer = length (links longer) - length (links d)

-- a definition with at least as many points and links as another
pub record IsLonger (d longer : DefinitionData) : Type 0 where
  pub points : length d.points ≤ length longer.points
  pub links : length (links d) ≤ length (links longer)

-- the book begins a new history, in which all hits are kept
pub record Extends (points : List Point) (sites : List Site) (b new : BookState) : Type 0 where
  pub definition : new.definition ≡ extension b.definition b.records points sites
  pub limits : new.limits ≡ b.limits
  pub records : new.records ≡ extended_records b.definition b.records b.totals.shares
  pub totals : new.totals ≡ extended_totals (more_links b.definition new.definition) b.totals

-- the calls of each earlier site mean what they meant, its points are valid if they were, new ones are valid, and links keep their numbers
pub record GoesOn (b new : BookState) : Type 0 where
  pub calls : (s : ℕ) → (a : List Value) → s < length b.definition.sites
      → mean (environment_of_bases new.definition new.records) (base new.definition new.records s).tree a
      ≡ mean (environment_of_bases b.definition b.records) (base b.definition b.records s).tree a
  pub valid : (p : ℕ) → p < length b.definition.points → is_valid new.records p ≡ is_valid b.records p
  pub fresh : (p : ℕ) → length b.definition.points ≤ p → is_valid new.records p ≡ true
  pub links : take (length (links b.definition)) (links new.definition) ≡ links b.definition

-- why the new history cannot begin with this many workers: it has no room for its first records, or the longer definition is refused
abbrev pub RefusesExtension : BookState → ℕ → List Point → List Site → ExtensionFault → Type 0
RefusesExtension b workers points sites HistoryFull = b.limits.history ≤ workers
RefusesExtension b workers points sites (Definition fault) = (workers < b.limits.history) × Refuses (extension_rules b.definition (bases b.definition b.records) points sites) fault

-- the contents of a book at the beginning of the new history, over a definition
pub record BeginsOver (b : BookState) (old : List LedgerState) (d : DefinitionData) (first : Extension) : Type 0 where
  pub definition : first.definition ≡ d
  pub world : first.world ≡ world d (extended_records b.definition b.records b.totals.shares)
  pub records : reverse first.records.items ≡ extended_records b.definition b.records b.totals.shares
  pub totals : first.totals ≡ extended_totals (more_links b.definition d) b.totals
  pub ledgers : first.ledgers.items ≡ map (extended_ledger (more_links b.definition d)) old
  pub held : AreHeld first.totals first.ledgers.items
