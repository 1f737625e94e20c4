-- Texts for C.
use Rattle.std.specs.Prelude.{◌≡◌, ◌≢◌, ◌⊎◌, ℕ, List, Option, None, length, map}
use Rattle.std.specs.List.{sum_by}
use Rattle.mh_cert.specs.declared.plan.Plan.{Plan}
use Rattle.mh_core.specs.Ledgers.{LedgerState, at}
use Rattle.mh_core.specs.Links.{links}
use Rattle.mh_core.specs.Records.{numbers}
use Rattle.mh_core.specs.Runtimes.{RuntimeState}
use Rattle.mh_json.specs.PlanData.{plan_json}
use Rattle.mh_text.specs.Report.{tables_text}
use Rattle.mhlink_c.specs.Buffers.{IsTooShort}
use Rattle.mhlink_c.specs.Changes.{IsBest}
use Rattle.mhlink_c.specs.Statuses.{no_memory}
use Rattle.mhlink_c.specs.declared.failure.Failure.{Failure}
use Rattle.mhlink_c.specs.declared.failure.Failure.TheVariants.{Short, Unknown}

-- an optimal plan with the flow that proves it optimal, as JSON
abbrev pub IsCertificate : RuntimeState → ℕ → List ℕ → Type 0
IsCertificate r snapshot text = (plan : Plan) × (IsBest r.book snapshot plan × (text ≡ plan_json plan))

-- the hits of a link that no worker has flushed
abbrev pub unflushed_of : List LedgerState → ℕ → ℕ
unflushed_of ledgers j = sum_by (λ l. at l.unflushed j) ledgers

-- a line for each point, site and link
abbrev pub report_of : RuntimeState → List ℕ
report_of r =
    tables_text r.book.definition r.book.records (map (unflushed_of r.ledgers) (numbers (length (links r.book.definition))))

-- the last call returned no text, or memory ran out
abbrev pub HasNoText : Option (List ℕ) → Failure → Type 0
HasNoText given e = ((e ≡ Unknown) × (given ≡ None)) ⊎ ((e ≡ no_memory) × (given ≢ None))

-- there is such a text, and the buffer is too short for it
abbrev pub IsUncopied : (List ℕ → Type 0) → ℕ → List ℕ → Failure → Type 0
IsUncopied Is count buffer e = (e ≡ Short) × ((text : List ℕ) × (Is text × IsTooShort text count buffer))
