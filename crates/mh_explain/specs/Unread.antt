-- The keys of an input that are not read: where objects are in each form of input, and the known keys of each.
use Rattle.std.specs.Prelude.{ℕ, ◌+◌, ◌||◌, List, [], ◌∷◌, ◌++◌, Option, Some, None, Bool, false, not, codes, bytes_eq, Result, Ok, Err, if◌then◌else◌}
use Rattle.serde_json.specs.Data.{Data, null, boolean, number, string, array, object, Members, no_members, member}
use Rattle.serde_json.specs.Find.{get, at, as_str}
use Rattle.mh_site.specs.declared.version.Version.{Version}
use Rattle.mh_site.specs.declared.version.Version.TheVariants.{One, Two}
use Rattle.mh_json.specs.declared.fault.Fault.{Fault}
use Rattle.mh_json.specs.Inputs.{json_of_input}
use Rattle.mh_json.specs.Keys.{field_name}
use Rattle.mh_json.specs.Misreads.{MisreadData}
use Rattle.mh_json.specs.Shape.{to_list}
use Rattle.mh_json.specs.Versions.{version_of}
use Rattle.mh_json.specs.declared.json.form.InputForm.{InputForm}
use Rattle.mh_json.specs.declared.json.form.InputForm.TheVariants as input
use Rattle.mh_json.specs.declared.key.Field.{Field}
use Rattle.mh_json.specs.declared.key.Field.TheVariants as field
use Rattle.mh_explain.specs.declared.unread.Reach.{Reach}
use Rattle.mh_explain.specs.declared.unread.Reach.TheVariants.{At, Each, Offered}

-- objects of one kind: the steps that lead to them, and the known keys of each
pub record Objects : Type 0 where
  pub steps : List Reach
  pub keys : List Field

-- the keys of a link, whose charge version 1 does not read; its name is known, for readers of the input, but never read
abbrev pub with_charge : Version → List Field → List Field
with_charge One keys = keys
with_charge Two keys = keys ++ field.Charge ∷ []

abbrev pub link_keys : Version → List Field
link_keys version = with_charge version (field.When ∷ field.Weight ∷ field.Needs ∷ field.Name ∷ [])

abbrev pub row_keys : Version → List Field
row_keys version = with_charge version (field.Gain ∷ field.Eligible ∷ field.Needs ∷ field.Name ∷ [])

abbrev pub plan_keys : List Field
plan_keys = field.Links ∷ field.Points ∷ field.Value ∷ field.Flow ∷ field.Charges ∷ []

-- a script, its definition, and each point, site and link in it
abbrev pub script_object : Objects
script_object = record { steps = []; keys = field.Definition ∷ field.Workers ∷ field.Limits ∷ field.Events ∷ [] }

abbrev pub definition_object : Objects
definition_object =
    record { steps = At field.Definition ∷ []; keys = field.Version ∷ field.Points ∷ field.Shared ∷ field.Sites ∷ [] }

abbrev pub point_objects : Objects
point_objects = record { steps = At field.Definition ∷ At field.Points ∷ Each ∷ []; keys = field.Name ∷ field.Cost ∷ [] }

abbrev pub site_objects : Objects
site_objects =
    record {
      steps = At field.Definition ∷ At field.Sites ∷ Each ∷ [];
      keys = field.Name ∷ field.Type ∷ field.Level ∷ field.Key ∷ field.Target ∷ field.Links ∷ [];
    }

abbrev pub link_objects : Version → Objects
link_objects version =
    record { steps = At field.Definition ∷ At field.Sites ∷ Each ∷ At field.Links ∷ Each ∷ []; keys = link_keys version }

-- its limits, and each plan that it offers
abbrev pub limits_object : Objects
limits_object = record { steps = At field.Limits ∷ []; keys = field.History ∷ field.Ledger ∷ field.Total ∷ [] }

abbrev pub offered_objects : Objects
offered_objects = record { steps = At field.Events ∷ Offered ∷ []; keys = plan_keys }

abbrev pub script_objects : Version → List Objects
script_objects version =
    script_object ∷ definition_object ∷ point_objects ∷ site_objects ∷ link_objects version ∷ limits_object
    ∷ offered_objects ∷ []

-- a problem, which is at the end of these steps, and each link in it
abbrev pub problem_at : List Reach → Version → List Objects
problem_at steps version =
    record { steps = steps; keys = field.Version ∷ field.Costs ∷ field.Links ∷ [] }
    ∷ record { steps = steps ++ At field.Links ∷ Each ∷ []; keys = row_keys version } ∷ []

abbrev pub problem_objects : Version → List Objects
problem_objects version = problem_at [] version

-- a problem with a plan
abbrev pub claim_objects : Version → List Objects
claim_objects version =
    record { steps = []; keys = field.Problem ∷ field.Plan ∷ [] }
    ∷ (problem_at (At field.Problem ∷ []) version ++ record { steps = At field.Plan ∷ []; keys = plan_keys } ∷ [])

abbrev pub objects_of : InputForm → Version → List Objects
objects_of input.Script version = script_objects version
objects_of input.Problem version = problem_objects version
objects_of input.Claim version = claim_objects version

-- a version that may be missing: 2 if none is read
abbrev pub version_or_two : Result Version MisreadData → Version
version_or_two (Ok version) = version
version_or_two (Err m) = Two

abbrev pub version_where : Option Data → Version
version_where (Some d) = version_or_two (version_of d)
version_where None = Two

-- the version of an object that may be missing
abbrev pub version_at : Option Data → Version
version_at (Some d) = version_where (get (field_name field.Version) d)
version_at None = Two

-- the version of an input, which says whether charges are read
abbrev pub version_in : InputForm → Data → Version
version_in input.Script d = version_at (get (field_name field.Definition) d)
version_in input.Problem d = version_at (Some d)
version_in input.Claim d = version_at (get (field_name field.Problem) d)

-- whether a key is one of these
abbrev pub is_read : List Field → List ℕ → Bool
is_read [] key = false
is_read (known ∷ more) key = bytes_eq key (field_name known) || is_read more key

-- whether members have a key that is not among these
abbrev pub has_other : List Field → Members → Bool
has_other keys no_members = false
has_other keys (member key d more) = not (is_read keys key) || has_other keys more

-- whether a value is an object with such a key
abbrev pub has_unread : List Field → Data → Bool
has_unread keys (object ms) = has_other keys ms
has_unread keys null = false
has_unread keys (boolean b) = false
has_unread keys (number n) = false
has_unread keys (string s) = false
has_unread keys (array ds) = false

-- the items of an array, or none for any other value
abbrev pub items_in : Data → List Data
items_in (array ds) = to_list ds
items_in null = []
items_in (boolean b) = []
items_in (number n) = []
items_in (string s) = []
items_in (object ms) = []

-- the first, or otherwise the second
abbrev pub or_later : Option ℕ → Option ℕ → Option ℕ
or_later (Some n) later = Some n
or_later None later = later

-- the first that is found in the items of a list, which are numbered from n on
abbrev pub first_in : (ℕ → Data → Option ℕ) → ℕ → List Data → Option ℕ
first_in look n [] = None
first_in look n (d ∷ ds) = or_later (look n d) (first_in look (n + 1) ds)

-- the result of a search in a value that may be missing
abbrev pub first_where : (Data → Option ℕ) → Option Data → Option ℕ
first_where look None = None
first_where look (Some d) = look d

abbrev pub is_word : List ℕ → Option (List ℕ) → Bool
is_word word (Some text) = bytes_eq text word
is_word word None = false

abbrev pub text_in : Option Data → Option (List ℕ)
text_in (Some d) = as_str d
text_in None = None

-- the plan that an event offers
abbrev pub offered_in : Data → Option Data
offered_in d = if is_word (codes "offer") (text_in (at 0 d)) then at 2 d else None

-- the number of the first event with an object, at the end of these steps, that has a key that is not read; n if the steps lead through no
-- event
abbrev pub first_along : List Field → List Reach → ℕ → Data → Option ℕ
first_along keys [] n d = if has_unread keys d then Some n else None
first_along keys (At key ∷ steps) n d = first_where (first_along keys steps n) (get (field_name key) d)
first_along keys (Each ∷ steps) n d = first_in (λ _. first_along keys steps n) 1 (items_in d)
first_along keys (Offered ∷ steps) n d = first_in (λ i event. first_where (first_along keys steps i) (offered_in event)) 1 (items_in d)

-- the same for objects of any kind; the number is 0 for those outside the events
abbrev pub first_of : List Objects → Data → Option ℕ
first_of [] d = None
first_of (objects ∷ more) d = or_later (first_along objects.keys objects.steps 0 d) (first_of more d)

abbrev pub first_unread_in : InputForm → Data → Option ℕ
first_unread_in form d = first_of (objects_of form (version_in form d)) d

abbrev pub first_of_read : InputForm → Result Data Fault → Option ℕ
first_of_read form (Ok d) = first_unread_in form d
first_of_read form (Err e) = None

-- The number of the event with the first key of an input that is not read, or 0 if it is outside the events; none if each key of each
-- object is read, or if the input is not valid JSON.
unfoldable pub first_unread : InputForm → List ℕ → Option ℕ
first_unread form bytes = first_of_read form (json_of_input bytes)
