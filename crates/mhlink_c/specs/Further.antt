-- The additions of a text in JSON to a definition.
use Rattle.std.specs.Prelude.{ℕ, List, Result, Ok, fold}
use Rattle.serde_json.specs.Data.{Data}
use Rattle.mh_site.specs.Defined.{DefinitionData}
use Rattle.mh_site.specs.NamesInOrder.{with_name}
use Rattle.mh_site.specs.declared.point.Point.{Point}
use Rattle.mh_site.specs.declared.version.Version.TheVariants.{Two}
use Rattle.mh_json.specs.Gives.{◌>>=◌, at_place}
use Rattle.mh_json.specs.Inputs.{json_of_input}
use Rattle.mh_json.specs.Misreads.{MisreadData}
use Rattle.mh_json.specs.Script.{point_names_of, points_of, sites_in, with_site}
use Rattle.mh_json.specs.Shape.{member_of}
use Rattle.mh_json.specs.Shared.{shared_in}
use Rattle.mh_json.specs.declared.fault.Fault.{Fault as TextualFault}
use Rattle.mh_json.specs.declared.key.Field.TheVariants as field
use Rattle.mh_json.specs.declared.json.scope.Scope.{Scope}
use Rattle.mhlink_c.specs.declared.further.Further.{Further}

-- the names of points, followed by these
abbrev pub names_of_all : List Point → List Point → List (List ℕ)
names_of_all own more = fold (λ names p. with_name names p.name) (point_names_of own) more

-- the names that the first site of the text may use: of all points, of the shared trees of the text, and of the sites of the definition
abbrev pub scope_over : DefinitionData → List Point → Data → Result Scope MisreadData
scope_over d points value = do
  scope ← shared_in (names_of_all d.points points) value
  Ok (fold with_site scope d.sites)

-- the points, the shared trees and the sites, as those of a definition of version 2
abbrev pub further_of : DefinitionData → Data → Result Further MisreadData
further_of d value = do
  points ← member_of field.Points points_of value
  scope ← scope_over d points value
  sited ← sites_in Two scope value
  Ok (record { points = points; sites = sited.sites; scope = sited.scope })

abbrev pub further_in : DefinitionData → List ℕ → Result Further TextualFault
further_in d text = do
  value ← json_of_input text
  at_place 0 (further_of d value)
