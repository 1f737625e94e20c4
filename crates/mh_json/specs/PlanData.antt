-- A plan as JSON.
use Rattle.std.specs.Prelude.{ℕ, ℤ, List, [], ◌∷◌, codes, map}
use Rattle.serde_json.specs.Data.{Data, Members, number, array, object, unsigned, no_members, member}
use Rattle.serde_json.specs.Find.{of_integer}
use Rattle.serde_json.specs.View.{items_of}
use Rattle.serde_json.specs.Written.{compact_text}
use Rattle.mh_network.specs.Selection.{Row, Charge}
use Rattle.mh_cert.specs.declared.plan.Plan.{Plan}

abbrev pub count_data : ℕ → Data
count_data n = number (unsigned n)

abbrev pub counts_data : List ℕ → Data
counts_data ns = array (items_of (map count_data ns))

-- link, point, amount
abbrev pub row_data : Row → Data
row_data r = counts_data (r.0 ∷ r.1 ∷ r.2 ∷ [])

abbrev pub flow_data : List Row → Data
flow_data rows = array (items_of (map row_data rows))

-- link, amount
abbrev pub charge_data : Charge → Data
charge_data r = counts_data (r.0 ∷ r.1 ∷ [])

abbrev pub charges_data : List Charge → Data
charges_data charges = array (items_of (map charge_data charges))

-- the keys of every plan: its flow, links, points and value
abbrev pub uncharged : Data → Data → Data → ℤ → Members
uncharged flow links points value =
    member (codes "flow") flow
    (member (codes "links") links
    (member (codes "points") points
    (member (codes "value") (number (of_integer value)) no_members)))

-- the amounts paid of charges, before other keys, if there are any
abbrev pub with_charges : List Charge → Members → Members
with_charges [] rest = rest
with_charges (r ∷ more) rest = member (codes "charges") (charges_data (r ∷ more)) rest

-- a plan as a JSON object
abbrev pub plan_data : Plan → Data
plan_data plan = object (with_charges plan.charges (uncharged (flow_data plan.flow) (counts_data plan.links) (counts_data plan.points) plan.value))

-- its text without spaces
abbrev pub plan_json : Plan → List ℕ
plan_json plan = compact_text (plan_data plan)
