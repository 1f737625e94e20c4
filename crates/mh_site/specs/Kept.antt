-- The invariant of a definition: of its parts, and of the numbers of its links.
use Rattle.std.specs.Arc.{arc_value}
use Rattle.mh_site.specs.Defined.{DefinitionData}
use Rattle.mh_site.specs.Links.{IsNumbered}
use Rattle.mh_site.specs.declared.definition.Definition.TheInside.{Inside}

abbrev pub kept_definition : Inside → DefinitionData
kept_definition d = record { points = (arc_value d.parts).points; sites = (arc_value d.parts).sites }

abbrev pub IsKept : Inside → Type 0
IsKept d = IsNumbered (kept_definition d) (arc_value d.parts).numbering.firsts.items (arc_value d.parts).numbering.homes.items
