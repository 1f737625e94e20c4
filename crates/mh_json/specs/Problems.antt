-- The problem of selection that a JSON value is.
use Rattle.std.specs.Prelude.{ℕ, ◌+◌, ◌^◌, ◌-◌, ◌≡◌, ◌⊎◌, ◌&&◌, List, [], ◌∷◌, Option, Bool, true, Result, Ok, Err, length, nat_le, nat_lt}
use Rattle.std.specs.List.{list_all}
use Rattle.std.specs.Option.{unwrap_or}
use Rattle.serde_json.specs.Data.{Data}
use Rattle.serde_json.specs.Find.{as_bool}
use Rattle.mh_network.specs.declared.link_row.LinkRow.{LinkRow}
use Rattle.mh_base.specs.Listed.{Decided, first_failing, made_unless}
use Rattle.mh_base.specs.Limits.{most_needs}
use Rattle.mh_network.specs.Limits as network
use Rattle.mh_network.specs.declared.fault.ProblemFault.{ProblemFault}
use Rattle.mh_network.specs.declared.fault.ProblemFault.TheVariants.{GainTooLarge, CostTooLarge, NeedOutOfRange, NeedsNotAscending, TooManyLinks, TooManyPoints, TooManyNeeds}
use Rattle.mh_network.specs.Problems.{ProblemData, problem_of, sum_of_gains, sum_of_costs, sum_of_charges}
use Rattle.mh_base.specs.Tests.{Passes, Refuses}
use Rattle.mh_json.specs.declared.fault.Fault.{Fault}
use Rattle.mh_json.specs.declared.fault.InputFault.TheVariants.{BadShape, Problem}
use Rattle.mh_json.specs.declared.fault.TextFault.TheVariants.{Input}
use Rattle.mh_json.specs.declared.json.problem.ProblemRows.{ProblemRows}
use Rattle.mh_json.specs.Gives.{◌>>=◌, or_fault, at_place, no_memory, of_problem, outside}
use Rattle.mh_json.specs.Inputs.{json_of_input}
use Rattle.mh_site.specs.declared.version.Version.{Version}
use Rattle.mh_json.specs.Misfits.{fitted}
use Rattle.mh_json.specs.Misreads.{MisreadData}
use Rattle.mh_json.specs.Shape.{member_of, member_or, count_of, each_of, counts_of, part_at}
use Rattle.mh_json.specs.declared.key.Field.TheVariants as field
use Rattle.mh_json.specs.declared.key.Key.{Key}
use Rattle.mh_json.specs.declared.key.Key.TheVariants.{Member, Item}
use Rattle.mh_json.specs.Versions.{charge_of, most_links, version_of, version_tests}
use Rattle.mh_site.specs.Limits.{most_points}
use Rattle.mh_site.specs.Places.{unfit}

-- a truth value
abbrev pub truth_of : Data → Result Bool MisreadData
truth_of d = or_fault BadShape (as_bool d)

-- a link: its gain, whether it is eligible (default true), the numbers of the points that it needs, and its charge
abbrev pub row_of : Version → Data → Result LinkRow MisreadData
row_of version d = do
  gain ← member_of field.Gain (count_of (2 ^ 63 - 1)) d
  eligible ← member_or true field.Eligible truth_of d
  needs ← member_of field.Needs (counts_of (2 ^ 32 - 1)) d
  charge ← charge_of version d
  Ok (record { gain = gain; eligible = eligible; needs = needs; charge = charge })

abbrev pub row_list_of : Version → Data → Result (List LinkRow) MisreadData
row_list_of version d = each_of (row_of version) d

-- the version, the costs, the links
abbrev pub rows_of : Data → Result ProblemRows MisreadData
rows_of d = do
  version ← member_of field.Version version_of d
  costs ← member_of field.Costs (counts_of (2 ^ 63 - 1)) d
  links ← member_of field.Links (row_list_of version) d
  Ok (record { version = version; links = links; costs = costs })

-- the links and costs of a value, or of its member at a key
abbrev pub rows_at : Option (List ℕ) → Data → Result ProblemRows MisreadData
rows_at key d = do
  part ← part_at key d
  rows_of part

-- the same of a source that has a JSON value or a fault
abbrev pub rows_by : {A : Type 0} → (A → Result Data Fault) → Option (List ℕ) → A → Result ProblemRows Fault
rows_by json key source = do
  value ← json source
  at_place 0 (rows_at key value)

-- the links and costs of an input
abbrev pub rows_of_input : Option (List ℕ) → List ℕ → Result ProblemRows Fault
rows_of_input = rows_by json_of_input

-- links and costs make their problem, if they pass its tests
abbrev pub IsMade : ProblemRows → ProblemData → Type 0
IsMade rows p = Passes (version_tests rows.version rows.links rows.costs) × (p ≡ problem_of rows.links rows.costs)

-- or they have the fault of the first test that fails
abbrev pub IsNotMade : ProblemRows → Fault → Type 0
IsNotMade rows e = (cause : ProblemFault) × Refuses (version_tests rows.version rows.links rows.costs) cause × (e ≡ record { kind = Input (Problem cause); at = 0 })

-- The result of reading links and costs: their problem; the first fault of reading, or else of the tests; or memory ran out.
abbrev pub MakesProblem : Result ProblemRows Fault → Result ProblemData Fault → Type 0
MakesProblem (Ok rows) (Ok p) = IsMade rows p
MakesProblem (Ok rows) (Err e) = (e ≡ outside no_memory) ⊎ IsNotMade rows e
MakesProblem (Err first) (Ok p) = ⊥
MakesProblem (Err first) (Err e) = (e ≡ outside no_memory) ⊎ (e ≡ first)

-- whether numbers ascend from one that precedes them, and whether they ascend on their own
abbrev pub ascend_from : ℕ → List ℕ → Bool
ascend_from n [] = true
ascend_from n (m ∷ more) = nat_lt n m && ascend_from m more

abbrev pub ascend : List ℕ → Bool
ascend [] = true
ascend (n ∷ more) = ascend_from n more

-- whether a link needs points of these alone
abbrev pub needs_known : ℕ → LinkRow → Bool
needs_known points r = list_all (λ p. nat_lt p points) r.needs

-- the tests of the links and costs of a problem, each decided: those of `version_tests`, in their order (a lemma of mh_json, `ProblemTests`, shows it)
abbrev pub decided_tests : ProblemRows → Decided ProblemFault
decided_tests rows =
    let p : ProblemData = problem_of rows.links rows.costs in
    (nat_le (length rows.links) (most_links rows.version), TooManyLinks)
    ∷ (nat_le (length rows.costs) (most_points rows.version), TooManyPoints)
    ∷ (nat_le (length rows.links) network.most_links, TooManyLinks)
    ∷ (nat_le (length rows.costs) network.most_points, TooManyPoints)
    ∷ (list_all (λ r. nat_le (length r.needs) most_needs) rows.links, TooManyNeeds)
    ∷ (list_all (needs_known (length rows.costs)) rows.links, NeedOutOfRange)
    ∷ (list_all (λ r. ascend r.needs) rows.links, NeedsNotAscending)
    ∷ (nat_le (sum_of_gains p) network.greatest_sum, GainTooLarge)
    ∷ (nat_le (sum_of_costs p + sum_of_charges p) network.greatest_sum, CostTooLarge) ∷ []

-- the problem that links and costs make
abbrev pub problem_made : ProblemRows → Result ProblemData ProblemFault
problem_made rows = made_unless (problem_of rows.links rows.costs) (first_failing (decided_tests rows))

-- the needs of the first link that fails a test
abbrev pub needs_of_first : (LinkRow → Bool) → List LinkRow → List Key
needs_of_first passes links = Member field.Links ∷ Item (unwrap_or (unfit passes links) 0) ∷ Member field.Needs ∷ []

-- the keys that lead to the part of links and costs that has the fault
abbrev pub place_in : List LinkRow → List ℕ → ProblemFault → List Key
place_in links costs TooManyLinks = Member field.Links ∷ []
place_in links costs TooManyPoints = Member field.Costs ∷ []
place_in links costs TooManyNeeds = needs_of_first (λ r. nat_le (length r.needs) most_needs) links
place_in links costs NeedOutOfRange = needs_of_first (needs_known (length costs)) links
place_in links costs NeedsNotAscending = needs_of_first (λ r. ascend r.needs) links
place_in links costs GainTooLarge = Member field.Links ∷ []
place_in links costs _ = []

-- the fault of links and costs, as a misread of their JSON
abbrev pub misread_in : ProblemRows → ProblemFault → MisreadData
misread_in rows cause = record { fault = of_problem cause; path = place_in rows.links rows.costs cause }

-- a problem: its links and costs are read, and make it
abbrev pub problem_read : Data → Result ProblemData MisreadData
problem_read d = do
  rows ← rows_of d
  fitted (misread_in rows) (problem_made rows)
