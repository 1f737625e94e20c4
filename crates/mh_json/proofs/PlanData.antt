-- A plan's JSON has no float.
use Rattle.std.proofs.Common.{◌≡◌, ◌≢◌, refl, ℕ, ℤ, pos, negsuc, false, List, [], ◌∷◌, length, map, arith}
use Rattle.std.specs.Prelude.{codes}
use Rattle.serde_json.specs.Data.{Members, number, member}
use Rattle.serde_json.specs.Find.{of_integer}
use Rattle.serde_json.specs.View.{items_of}
use Rattle.serde_json.specs.Written.{has_float, items_have_float, members_have_float}
use Rattle.mh_network.specs.Selection.{Row, Charge}
use Rattle.mh_cert.specs.declared.plan.Plan.{Plan}
use Rattle.mh_json.specs.PlanData.{charge_data, charges_data, count_data, row_data, plan_data, with_charges}

counts_have_none : (ns : List ℕ) → items_have_float (items_of (map count_data ns)) ≡ false
counts_have_none [] = refl
counts_have_none (n ∷ ns) = counts_have_none ns

rows_have_none : (rows : List Row) → items_have_float (items_of (map row_data rows)) ≡ false
rows_have_none [] = refl
rows_have_none (r ∷ rows) = rows_have_none rows

charges_have_none : (rows : List Charge) → items_have_float (items_of (map charge_data rows)) ≡ false
charges_have_none [] = refl
charges_have_none (r ∷ rows) = charges_have_none rows

charges_keep_none : (rows : List Charge) (rest : Members) → members_have_float rest ≡ false → members_have_float (with_charges rows rest) ≡ false
charges_keep_none [] rest h = h
charges_keep_none (r ∷ rows) rest h = rw (charges_have_none (r ∷ rows)) h

value_has_none : (z : ℤ) → has_float (number (of_integer z)) ≡ false
value_has_none (pos n) = refl
value_has_none (negsuc n) = refl

pub has_no_float : (plan : Plan) → has_float (plan_data plan) ≡ false
has_no_float plan =
    charges_keep_none plan.charges _
    (rw (rows_have_none plan.flow, counts_have_none plan.links, counts_have_none plan.points, value_has_none plan.value) refl)

-- what is paid of charges stands first, where there is any
pub charges_first : (rows : List Charge) (rest : Members) → length rows ≢ 0 → with_charges rows rest ≡ member (codes "charges") (charges_data rows) rest
charges_first [] rest h = absurd (h refl)
charges_first (r ∷ rows) rest h = refl

pub no_charges_first : (rows : List Charge) (rest : Members) → length rows ≡ 0 → with_charges rows rest ≡ rest
no_charges_first [] rest h = refl
no_charges_first (r ∷ rows) rest h = absurd (omega arith)
