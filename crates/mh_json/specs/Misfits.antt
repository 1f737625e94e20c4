-- The places of faults of definitions and problems in the JSON that they were read from.
use Rattle.std.specs.Prelude.{List, [], ◌∷◌, Result, Ok, Err}
use Rattle.mh_network.specs.declared.place.ProblemMisfit.{ProblemMisfit}
use Rattle.mh_network.specs.declared.place.ProblemPlace.{ProblemPlace}
use Rattle.mh_network.specs.declared.place.ProblemPlace.TheVariants as of_problem_place
use Rattle.mh_site.specs.declared.place.DefinitionMisfit.{DefinitionMisfit}
use Rattle.mh_site.specs.declared.place.DefinitionPlace.{DefinitionPlace}
use Rattle.mh_site.specs.declared.place.DefinitionPlace.TheVariants as place
use Rattle.mh_site.specs.declared.place.PointPart.{PointPart}
use Rattle.mh_site.specs.declared.place.PointPart.TheVariants as of_point
use Rattle.mh_site.specs.declared.place.SitePart.{SitePart}
use Rattle.mh_site.specs.declared.place.SitePart.TheVariants as of_site
use Rattle.mh_site.specs.declared.place.LinkPart.{LinkPart}
use Rattle.mh_site.specs.declared.place.LinkPart.TheVariants as of_link
use Rattle.mh_json.specs.declared.key.Field.TheVariants as field
use Rattle.mh_json.specs.declared.key.Key.{Key}
use Rattle.mh_json.specs.declared.key.Key.TheVariants.{Member, Item}
use Rattle.mh_json.specs.Gives.{of_definition, of_problem}
use Rattle.mh_json.specs.Misreads.{MisreadData}

-- the keys of a part: none for the whole
abbrev pub keys_of_point : PointPart → List Key
keys_of_point of_point.Whole = []
keys_of_point of_point.Name = Member field.Name ∷ []
keys_of_point of_point.Cost = Member field.Cost ∷ []

abbrev pub keys_of_site : SitePart → List Key
keys_of_site of_site.Whole = []
keys_of_site of_site.Name = Member field.Name ∷ []
keys_of_site of_site.Level = Member field.Level ∷ []
keys_of_site of_site.Key = Member field.Key ∷ []
keys_of_site of_site.Target = Member field.Target ∷ []
keys_of_site of_site.Links = Member field.Links ∷ []

abbrev pub keys_of_link : LinkPart → List Key
keys_of_link of_link.Whole = []
keys_of_link of_link.When = Member field.When ∷ []
keys_of_link of_link.Weight = Member field.Weight ∷ []
keys_of_link of_link.Charge = Member field.Charge ∷ []
keys_of_link of_link.Needs = Member field.Needs ∷ []

-- the keys that lead to a place in a definition
abbrev pub keys_of : DefinitionPlace → List Key
keys_of place.Whole = []
keys_of place.Points = Member field.Points ∷ []
keys_of place.Sites = Member field.Sites ∷ []
keys_of (place.Point i part) = Member field.Points ∷ Item i ∷ keys_of_point part
keys_of (place.Site i part) = Member field.Sites ∷ Item i ∷ keys_of_site part
keys_of (place.Link i j part) = Member field.Sites ∷ Item i ∷ Member field.Links ∷ Item j ∷ keys_of_link part

-- the fault of a definition, as a misread of its JSON
abbrev pub of_misfit : DefinitionMisfit → MisreadData
of_misfit m = record { fault = of_definition m.fault; path = keys_of m.place }

-- the keys that lead to a place in a problem
abbrev pub keys_in_problem : ProblemPlace → List Key
keys_in_problem of_problem_place.Whole = []
keys_in_problem of_problem_place.Links = Member field.Links ∷ []
keys_in_problem of_problem_place.Points = Member field.Costs ∷ []
keys_in_problem (of_problem_place.Needs j) = Member field.Links ∷ Item j ∷ Member field.Needs ∷ []

-- the fault of a problem, as a misread of its JSON
abbrev pub of_problem_misfit : ProblemMisfit → MisreadData
of_problem_misfit m = record { fault = of_problem m.fault; path = keys_in_problem m.place }

-- the result, or its misfit as a misread
abbrev pub fitted : {A C : Type 0} → (C → MisreadData) → Result A C → Result A MisreadData
fitted misread (Ok x) = Ok x
fitted misread (Err m) = Err (misread m)
