-- The script that a JSON value is.
use Rattle.std.specs.Prelude.{ℕ, ◌+◌, ◌≡◌, ◌^◌, ◌-◌, ◌<◌, ◌≤◌, ◌&&◌, List, [], ◌∷◌, ◌++◌, length, take, nat_lt, nat_le, Option, Some, None, option_and_then, is_some, Result, Ok, Err, codes, fold, if◌then◌else◌, ◌==◌}
use Rattle.std.specs.List.{list_any, slice_get}
use Rattle.std.specs.Str.{bytes_eq}
use Rattle.serde_json.specs.Data.{Data}
use Rattle.serde_json.specs.Find.{get, as_null, as_object}
use Rattle.mh_base.specs.Limits.{most_workers}
use Rattle.mh_base.specs.Words.{at_word}
use Rattle.mh_type.specs.declared.kind.Kind.{Kind}
use Rattle.mh_type.specs.Signature.{Signature}
use Rattle.mh_site.specs.declared.point.Point.{Point}
use Rattle.mh_site.specs.declared.link.Link.{Link}
use Rattle.mh_site.specs.declared.site.Site.{Site}
use Rattle.mh_site.specs.declared.version.Version.{Version}
use Rattle.mh_site.specs.Defined.{DefinitionData, site_at}
use Rattle.mh_site.specs.Places.{placed_made}
use Rattle.mh_core.specs.declared.event.Event.{Event}
use Rattle.mh_core.specs.declared.event.Event.TheVariants.{Call, Flush, Target, Invalidate, Snapshot, Publish, Install}
use Rattle.mh_core.specs.Limits.{LimitsData, most_events, most_held, most_hits}
use Rattle.mh_json.specs.declared.fault.Fault.{Fault}
use Rattle.mh_json.specs.declared.fault.InputFault.TheVariants.{BadShape}
use Rattle.mh_json.specs.declared.json.declarations.Declarations.{Declarations}
use Rattle.mh_json.specs.declared.json.scope.Scope.{Scope}
use Rattle.mh_json.specs.declared.json.script.Preamble.{Preamble}
use Rattle.mh_json.specs.declared.json.script.Script.{Script}
use Rattle.mh_json.specs.declared.json.sites.Sited.{Sited}
use Rattle.mh_json.specs.declared.json.step.Step.{Step}
use Rattle.mh_json.specs.declared.json.step.Step.TheVariants.{Ask, Plan as ask_plan}
use Rattle.mh_json.specs.Gives.{◌>>=◌, at_place}
use Rattle.mh_json.specs.Misfits.{fitted, of_misfit}
use Rattle.mh_json.specs.Keys.{field_name}
use Rattle.mh_json.specs.Misreads.{MisreadData, here, under}
use Rattle.mh_json.specs.declared.key.Field.TheVariants as field
use Rattle.mh_json.specs.declared.key.Key.TheVariants.{Member, Item}
use Rattle.mh_site.specs.NamesInOrder.{with_name, place_of}
use Rattle.mh_json.specs.Plans.{plan_of}
use Rattle.mh_json.specs.Shape.{list_of, text_of, part_of, member_of, member_or, count_of, each_from, each_of}
use Rattle.mh_json.specs.Shared.{shared_in}
use Rattle.mh_json.specs.Trees.{declared_of, named_point_of}
use Rattle.mh_json.specs.Values.{type_of, value_for, values_for}
use Rattle.mh_json.specs.Versions.{charge_of, version_of}
use Rattle.mh_json.specs.Inputs.{json_of_input}

-- a point: its name, then its cost
abbrev pub point_of : Data → Result Point MisreadData
point_of d = do
  name ← member_of field.Name text_of d
  cost ← member_of field.Cost (count_of (2 ^ 63 - 1)) d
  Ok (record { name = name; cost = cost })

-- the names of the points, by number
abbrev pub point_names_of : List Point → List (List ℕ)
point_names_of points = fold (λ names p. with_name names p.name) [] points

-- [POINT..]
abbrev pub named_points_of : List (List ℕ) → Data → Result (List ℕ) MisreadData
named_points_of points d = each_of (named_point_of points) d

-- a link: its key, read as of the kind at the key position, its weight, its charge, its needs
abbrev pub link_of : Version → List (List ℕ) → Option Kind → Data → Result Link MisreadData
link_of version points kind d = do
  when ← member_of field.When (value_for kind) d
  weight ← member_of field.Weight (count_of (2 ^ 63 - 1)) d
  charge ← charge_of version d
  needs ← member_of field.Needs (named_points_of points) d
  Ok (record { when = when; weight = weight; charge = charge; needs = needs })

-- the links of a site
abbrev pub links_of : Version → List (List ℕ) → Option Kind → Data → Result (List Link) MisreadData
links_of version points kind d = each_of (link_of version points kind) d

-- an index, or null for none
abbrev pub place_or_none : Data → Result (Option ℕ) MisreadData
place_or_none d = if is_some (as_null d) then Ok None else (count_of (2 ^ 63 - 1) d >>= λ place. Ok (Some place))

-- the kind of the parameter at the key position, if there is one
abbrev pub key_kind : Signature → Option ℕ → Option Kind
key_kind method_type key = option_and_then (slice_get method_type.parameters) key

-- the links of a site, default none
unfoldable pub linked_of : Version → List (List ℕ) → Option Kind → Data → Result (List Link) MisreadData
linked_of version points kind site = member_or [] field.Links (links_of version points kind) site

-- a site: its name, its type, its level, its key position, its target, its links
abbrev pub site_of : Version → Scope → Data → Result Site MisreadData
site_of version scope d = do
  name ← member_of field.Name text_of d
  method_type ← member_of field.Type type_of d
  level ← member_or 0 field.Level (count_of (2 ^ 63 - 1)) d
  key ← member_or None field.Key place_or_none d
  target ← member_of field.Target (declared_of scope) d
  links ← linked_of version scope.points (key_kind method_type key) d
  Ok (record { name = name; method_type = method_type; level = level; key = key; target = target; links = links })

-- a site that later trees may invoke; of one name, the first stays
abbrev pub with_site : Scope → Site → Scope
with_site scope s =
    if list_any (bytes_eq s.name) scope.sites then scope else (record {
      points = scope.points;
      names = scope.names;
      trees = scope.trees;
      sites = scope.sites ++ s.name ∷ [];
      types = scope.types ++ s.method_type ∷ [];
    })

-- no site yet, and one more
abbrev pub none_sited : Scope → Sited
none_sited scope = record { scope = scope; sites = [] }

abbrev pub one_sited : Sited → Site → Sited
one_sited sited s = record { scope = with_site sited.scope s; sites = sited.sites ++ s ∷ [] }

-- the points of a definition
unfoldable pub points_of : Data → Result (List Point) MisreadData
points_of d = each_of point_of d

-- the sites in order, with their numbers from n on: each may invoke those before it
abbrev pub all_sites_of : Version → Sited → ℕ → List Data → Result Sited MisreadData
all_sites_of version sited n [] = Ok sited
all_sites_of version sited n (d ∷ ds) = do
  site ← under (Item n) (site_of version sited.scope d)
  all_sites_of version (one_sited sited site) (n + 1) ds

-- the sites of a definition, and the names that the trees of events may use
abbrev pub sites_of : Version → Scope → Data → Result Sited MisreadData
sites_of version scope d = list_of d >>= all_sites_of version (none_sited scope) 0

-- the sites that a definition has
abbrev pub sites_in : Version → Scope → Data → Result Sited MisreadData
sites_in version scope definition = member_of field.Sites (sites_of version scope) definition

-- The version, the points, the shared trees, the sites, and then the faults of the definition that they make. The names
-- go on to the events.
unfoldable pub definition_of : Data → Result Declarations MisreadData
definition_of d = do
  version ← member_of field.Version version_of d
  points ← member_of field.Points points_of d
  scope ← shared_in (point_names_of points) d
  sited ← sites_in version scope d
  definition ← fitted of_misfit (placed_made version points sited.sites)
  Ok (record { definition = definition; scope = sited.scope })

-- the number of workers: 1 to 64
abbrev pub workers_of : Data → Result ℕ MisreadData
workers_of d = do
  workers ← count_of most_workers d
  if workers == 0 then Err (here BadShape) else Ok workers

-- at most 2^20 events, 1 to 2^20 hits in a ledger, and at most 2^40 in the totals
abbrev pub limits_made : ℕ → ℕ → ℕ → Result LimitsData MisreadData
limits_made history ledger total =
    if nat_le history most_events && (nat_lt 0 ledger && nat_le ledger most_held) && nat_le total most_hits
    then Ok (record { history = history; ledger = ledger; total = total }) else Err (here BadShape)

-- the limits, each by default its maximum
abbrev pub limits_in : Data → Result LimitsData MisreadData
limits_in d = if is_some (as_object d) then (do
  history ← member_or most_events field.History (count_of (2 ^ 63 - 1)) d
  ledger ← member_or most_held field.Ledger (count_of (2 ^ 63 - 1)) d
  total ← member_or most_hits field.Total (count_of (2 ^ 63 - 1)) d
  limits_made history ledger total) else Err (here BadShape)

-- the optional limits
abbrev pub limits_where : Option Data → Result LimitsData MisreadData
limits_where None = limits_made most_events most_held most_hits
limits_where (Some d) = under (Member field.Limits) (limits_in d)

abbrev pub limits_of : Data → Result LimitsData MisreadData
limits_of d = limits_where (get (field_name field.Limits) d)

-- the parameters of a site, none past the last
abbrev pub parameters_at : DefinitionData → ℕ → List Kind
parameters_at d s = if nat_lt s (length d.sites) then (site_at d s).method_type.parameters else []

-- the number of a site by its name, or one past the last if no site has it
abbrev pub named_site_of : List (List ℕ) → Data → Result ℕ MisreadData
named_site_of sites d = do
  name ← text_of d
  Ok (place_of sites name)

-- w, SITE, [VALUE..]
abbrev pub call_from : Declarations → List Data → Result Event MisreadData
call_from declared (worker ∷ name ∷ values ∷ []) = do
  worker ← under (Item 1) (count_of (2 ^ 32 - 1) worker)
  site ← under (Item 2) (named_site_of declared.scope.sites name)
  values ← under (Item 3) (values_for (parameters_at declared.definition site) values)
  Ok (Call worker site values)
call_from declared _ = Err (here BadShape)

-- w
abbrev pub flush_from : List Data → Result Event MisreadData
flush_from (worker ∷ []) = do
  worker ← under (Item 1) (count_of (2 ^ 32 - 1) worker)
  Ok (Flush worker)
flush_from _ = Err (here BadShape)

-- SITE, TREE
abbrev pub target_from : Declarations → List Data → Result Event MisreadData
target_from declared (name ∷ tree ∷ []) = do
  site ← under (Item 1) (named_site_of declared.scope.sites name)
  tree ← under (Item 2) (declared_of declared.scope tree)
  Ok (Target site tree)
target_from declared _ = Err (here BadShape)

-- [POINT..]
abbrev pub invalidate_from : List (List ℕ) → List Data → Result Event MisreadData
invalidate_from points (names ∷ []) = do
  places ← under (Item 1) (named_points_of points names)
  Ok (Invalidate places)
invalidate_from points _ = Err (here BadShape)

-- nothing
abbrev pub snapshot_from : List Data → Result Event MisreadData
snapshot_from [] = Ok Snapshot
snapshot_from _ = Err (here BadShape)

-- n, PLAN
abbrev pub offer_from : List Data → Result Event MisreadData
offer_from (snapshot ∷ plan ∷ []) = do
  snapshot ← under (Item 1) (count_of (2 ^ 32 - 1) snapshot)
  plan ← under (Item 2) (plan_of plan)
  Ok (Publish snapshot plan)
offer_from _ = Err (here BadShape)

-- m
abbrev pub install_from : List Data → Result Event MisreadData
install_from (plan ∷ []) = do
  plan ← under (Item 1) (count_of (2 ^ 32 - 1) plan)
  Ok (Install plan)
install_from _ = Err (here BadShape)

-- n
abbrev pub plan_from : List Data → Result Step MisreadData
plan_from (snapshot ∷ []) = do
  snapshot ← under (Item 1) (count_of (2 ^ 32 - 1) snapshot)
  Ok (ask_plan snapshot)
plan_from _ = Err (here BadShape)

-- the event of each word
abbrev pub events : Declarations → List Data → List (List ℕ × Result Event MisreadData)
events declared args =
    (codes "call", call_from declared args)
    ∷ (codes "flush", flush_from args)
    ∷ (codes "target", target_from declared args)
    ∷ (codes "invalidate", invalidate_from declared.scope.points args)
    ∷ (codes "snapshot", snapshot_from args)
    ∷ (codes "offer", offer_from args)
    ∷ (codes "install", install_from args)
    ∷ []

-- the event of a word and its arguments
abbrev pub event_named : Declarations → List ℕ → List Data → Result Event MisreadData
event_named declared word args = at_word (events declared args) word (Err (here BadShape))

-- the step of a word and its arguments: a request for a plan, or an event
abbrev pub step_named : Declarations → List ℕ → List Data → Result Step MisreadData
step_named declared word args =
    if bytes_eq word (codes "plan") then plan_from args else (event_named declared word args >>= λ event. Ok (Ask event))

-- a word and its arguments
abbrev pub step_from : Declarations → List Data → Result Step MisreadData
step_from declared [] = Err (here BadShape)
step_from declared (head ∷ args) = do
  word ← under (Item 0) (text_of head)
  step_named declared word args

abbrev pub step_of : Declarations → Data → Result Step MisreadData
step_of declared d = do
  parts ← list_of d
  step_from declared parts

-- the steps in order
unfoldable pub events_of : Declarations → Data → Result (List Step) MisreadData
events_of declared d = each_of (step_of declared) d

-- the same, each fault with its step's number from 1 in place of its path
abbrev pub steps_of : Declarations → List Data → Result (List Step) Fault
steps_of declared ds = each_from (λ n d. at_place n (step_of declared d)) 1 ds

abbrev pub step_list_of : Declarations → Data → Result (List Step) Fault
step_list_of declared d = do
  events ← at_place 0 (part_of field.Events d)
  events ← at_place 0 (list_of events)
  steps_of declared events

-- the definition of a script, its workers, its limits
unfoldable pub preamble_of : Data → Result Preamble MisreadData
preamble_of d = do
  declared ← member_of field.Definition definition_of d
  workers ← member_of field.Workers workers_of d
  limits ← limits_of d
  Ok (record { declared = declared; workers = workers; limits = limits })

-- a script with these steps
abbrev pub script_with : Preamble → List Step → Script
script_with preamble steps = record { definition = preamble.declared.definition; workers = preamble.workers; limits = preamble.limits; steps = steps }

-- a script; a fault has its place
abbrev pub script_read : Data → Result Script MisreadData
script_read d = do
  preamble ← preamble_of d
  steps ← member_of field.Events (events_of preamble.declared) d
  Ok (script_with preamble steps)

-- the same; a fault has the number of its event
abbrev pub script_of : Data → Result Script Fault
script_of d = do
  preamble ← at_place 0 (preamble_of d)
  steps ← step_list_of preamble.declared d
  Ok (script_with preamble steps)

-- event n of these exists, and those before it are read
abbrev pub IsNext : Declarations → List Data → ℕ → Type 0
IsNext declared ds n = (before : List Step) × (0 < n) × (n ≤ length ds) × (steps_of declared (take (n - 1) ds) ≡ Ok before)

-- event n of a script with this definition exists, and those before it are read
abbrev pub IsNextOf : Declarations → Data → ℕ → Type 0
IsNextOf declared d n = (ds : List Data) × ((part_of field.Events d >>= list_of) ≡ Ok ds) × IsNext declared ds n

-- event n of a script exists, and nothing that is read before it has a fault
abbrev pub IsReached : Data → ℕ → Type 0
IsReached d n = (preamble : Preamble) × (preamble_of d ≡ Ok preamble) × IsNextOf preamble.declared d n

-- the script of a source that has a JSON value or a fault: an input has it by `json_of_input`, and a value by `Ok`
abbrev pub script_by : {A : Type 0} → (A → Result Data Fault) → A → Result Script Fault
script_by json source = do
  value ← json source
  script_of value

-- the script of an input
abbrev pub script_of_input : List ℕ → Result Script Fault
script_of_input = script_by json_of_input

-- event n of a source is reached: it exists, and nothing before it has a fault
abbrev pub IsReachedBy : {A : Type 0} → (A → Result Data Fault) → A → ℕ → Type 0
IsReachedBy json source n = (d : Data) × (json source ≡ Ok d) × IsReached d n

-- event n of an input is reached
abbrev pub IsReachedIn : List ℕ → ℕ → Type 0
IsReachedIn = IsReachedBy json_of_input
