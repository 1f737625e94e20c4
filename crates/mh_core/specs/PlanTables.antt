-- The plans that a book stores.
use Rattle.std.specs.Prelude.{ℕ, List, [], ◌∷◌, refl}
use Rattle.std.specs.Coded.{Coded, code_by, coded×, coded_ℕ}
use Rattle.mh_cert.specs.contracts.plan.Plan as plan
use Rattle.mh_cert.specs.declared.plan.Plan.{Plan}
use Rattle.mh_core.specs.declared.record.Record.{Record}
use Rattle.mh_core.specs.declared.record.Record.TheVariants.{Flushed, Targeted, Invalidated, Snapped, Published, Installed}
use Rattle.mh_core.specs.Installations.{PublishedPlan}

-- the plans that these records published, newest first
abbrev pub plans_of : List Record → List PublishedPlan
plans_of [] = []
plans_of (Flushed w hits ∷ r) = plans_of r
plans_of (Targeted t tree ∷ r) = plans_of r
plans_of (Invalidated points ∷ r) = plans_of r
plans_of (Snapped ∷ r) = plans_of r
plans_of (Published n plan ∷ r) = record { snapshot = n; plan = plan } ∷ plans_of r
plans_of (Installed m ∷ r) = plans_of r

abbrev pub coded_published : Coded PublishedPlan
coded_published = code_by (ℕ × Plan) (coded× coded_ℕ plan.the_row.coded) (λ p. (p.snapshot, p.plan)) (λ p. record { snapshot = p.0; plan = p.1 }) (λ _. refl)
