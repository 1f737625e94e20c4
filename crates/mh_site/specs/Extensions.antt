-- A definition with more points and sites, which come after its own, so that all numbers stay.
use Rattle.std.specs.Prelude.{◌++◌, List, length, map}
use Rattle.mh_base.specs.Tests.{Tests, may_tell, only}
use Rattle.mh_tree.specs.Handle.{TypedTree}
use Rattle.mh_site.specs.declared.point.Point.{Point}
use Rattle.mh_site.specs.declared.site.Site.{Site}
use Rattle.mh_site.specs.declared.version.Version.TheVariants.{Two}
use Rattle.mh_site.specs.declared.fault.DefinitionFault.{DefinitionFault}
use Rattle.mh_site.specs.declared.fault.DefinitionFault.TheVariants.{NoMemory}
use Rattle.mh_site.specs.Defined.{DefinitionData}
use Rattle.mh_site.specs.Definitions.{site_in_order}
use Rattle.mh_site.specs.Rules.{definition_rules}
use Rattle.mh_site.specs.Targets.{with_targets}

-- the current sites with these targets, and the new ones unchanged
abbrev pub longer_sites : DefinitionData → List TypedTree → List Site → List Site
longer_sites d targets sites = (with_targets d targets).sites ++ sites

-- the definition of these parts, the needs of the new links in ascending order
abbrev pub extended : DefinitionData → List TypedTree → List Point → List Site → DefinitionData
extended d targets points sites = record { points = d.points ++ points; sites = (with_targets d targets).sites ++ map site_in_order sites }

-- the rules of the longer definition; lack of memory may be reported before them
abbrev pub extension_rules : DefinitionData → List TypedTree → List Point → List Site → Tests DefinitionFault
extension_rules d targets points sites = may_tell (only NoMemory) (definition_rules Two (d.points ++ points) (longer_sites d targets sites))
