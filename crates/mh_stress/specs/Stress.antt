-- The output of a stress of a script.
use Rattle.std.specs.Prelude.{ℕ, ◌≡◌, ◌⊎◌, ◌+◌, ◌*◌, ◌<◌, ◌≤◌, ◌^◌, Bool, List, [], ◌∷◌, ◌++◌, Option, Some, None, Result, Ok, codes, cond, length, max, min, IfSome}
use Rattle.std.specs.Fmt.{decimal}
use Rattle.std.specs.Io.KnownBytes.{Keeps}
use Rattle.std.specs.List.{range_with_len, sum_by}
use Rattle.serde_json.specs.Data.{Data}
use Rattle.mh_site.specs.Defined.{DefinitionData}
use Rattle.mh_site.specs.Links.{links}
use Rattle.mh_core.specs.Books.{Legal}
use Rattle.mh_core.specs.Limits.{LimitsData}
use Rattle.mh_core.specs.Records.{total}
use Rattle.mh_core.specs.declared.record.Record.{Record}
use Rattle.mh_ledger.specs.Ledgers.{at}
use Rattle.mh_base.specs.Limits.{most_workers}
use Rattle.mh_live.specs.declared.open_fault.OpenFault.{OpenFault}
use Rattle.mh_live.specs.declared.open_fault.OpenFault.TheVariants as opening
use Rattle.mh_json.specs.Inputs.{json_of_input}
use Rattle.mh_text.specs.Output.{EndsReadingBy, IsUnread}
use Rattle.mh_json.specs.Gives.{outside, no_memory}
use Rattle.mh_json.specs.Script.{script_by}
use Rattle.mh_text.specs.Planning.{IsCutShort}
use Rattle.mh_text.specs.Report.{tables_text}
use Rattle.mh_json.specs.declared.fault.Fault.{Fault}
use Rattle.mh_json.specs.declared.fault.TextFault.{TextFault}
use Rattle.mh_json.specs.declared.fault.TextFault.TheVariants.{NoReader}
use Rattle.mh_json.specs.declared.json.script.Script.{Script}
use Rattle.mh_stress.specs.Divisions.{calls_in}
use Rattle.mh_stress.specs.Rounds.{times_hit}
use Rattle.mh_stress.specs.declared.division.Call.{Call}
use Rattle.mh_stress.specs.declared.stress.StressOptions.{StressOptions}
use Rattle.mh_stress.specs.declared.sums.Sums.{Sums}

-- the greatest number of rounds of each worker
abbrev pub most_rounds : ℕ
most_rounds = 1000000

-- the greatest number of hits of a link that no worker flushed
abbrev pub most_unflushed : ℕ
most_unflushed = 2 ^ 90

-- the reason why an office was not opened, as a cause of a fault
abbrev pub cause_of : OpenFault → TextFault
cause_of opening.NoMemory = no_memory
cause_of opening.NoReader = NoReader

-- from 1 to 64 workers, if they are given, and from 1 to 1,000,000 rounds
pub record AreLawful (options : StressOptions) : Type 0 where
  pub workers : IfSome options.workers (λ n. (0 < n) × (n ≤ most_workers))
  pub some : 0 < options.rounds
  pub few : options.rounds ≤ most_rounds

-- the given number, or the script's, which is from 1 to 64
abbrev pub workers_of : Option ℕ → ℕ → ℕ
workers_of (Some n) own = n
workers_of None own = max 1 (min own most_workers)

-- the flushed and the unflushed hits, over the first n links
abbrev pub sums_over : ℕ → (ℕ → ℕ) → (ℕ → ℕ) → Sums
sums_over n total unflushed =
    let flushed = sum_by total (range_with_len 0 n) in
    let rest = sum_by unflushed (range_with_len 0 n) in
    record { made = flushed + rest; totals = flushed; unflushed = rest }

-- how often all workers together hit a link in one round of these calls
abbrev pub hits_of_round : DefinitionData → List Call → ℕ → ℕ → ℕ
hits_of_round d calls workers j = sum_by (λ w. times_hit d calls w j) (range_with_len 0 workers)

-- the result when all workers are done: the records, and for each link the hits that no worker flushed
pub record Settlement : Type 0 where
  pub records : List Record
  pub unflushed : List ℕ

-- The records are legal over the definition within the limits. No link has more hits than all rounds of the calls make.
pub record IsSettlement (d : DefinitionData) (l : LimitsData) (calls : List Call) (workers rounds : ℕ) (s : Settlement) : Type 0 where
  pub legal : Legal d l s.records
  pub within : (j : ℕ) → j < length (links d) → total s.records j + at s.unflushed j ≤ rounds * hits_of_round d calls workers j

-- `settled made 9 totals 9 unflushed 0`
abbrev pub settled_text : Sums → List ℕ
settled_text sums = codes "settled made " ++ (decimal sums.made ++ (codes " totals " ++ (decimal sums.totals ++ (codes " unflushed " ++ decimal sums.unflushed))))

-- the same, and the byte 0x0A
abbrev pub settled_line : Sums → List ℕ
settled_line sums = settled_text sums ++ 10 ∷ []

-- a line for each point, site and link, if these are asked for
abbrev pub report_where : Bool → DefinitionData → List Record → List ℕ → List ℕ
report_where report d records unflushed = cond report (tables_text d records unflushed) []

-- the line of the sums, and those lines
abbrev pub settlement_text : Bool → DefinitionData → Settlement → List ℕ
settlement_text report d s =
    settled_line (sums_over (length (links d)) (total s.records) (at s.unflushed)) ++ report_where report d s.records s.unflushed

-- the text of some settlement of these calls
pub record IsSettledText (report : Bool) (d : DefinitionData) (l : LimitsData) (calls : List Call) (workers rounds : ℕ) (text : List ℕ) : Type 0 where
  pub settlement : Settlement
  pub is : IsSettlement d l calls workers rounds settlement
  pub text_is : text ≡ settlement_text report d settlement

-- the same for a script
abbrev pub IsSettledTextOf : StressOptions → Script → List ℕ → Type 0
IsSettledTextOf options script =
    IsSettledText options.report script.definition script.limits (calls_in script.steps) (workers_of options.workers script.workers) options.rounds

-- the same for the script of a source that has a JSON value or a fault
abbrev pub IsStressedBy : {A : Type 0} → (A → Result Data Fault) → StressOptions → A → List ℕ → Type 0
IsStressedBy json options source text = (script : Script) × (script_by json source ≡ Ok script) × IsSettledTextOf options script text

-- the same for the script of an input
abbrev pub IsStressed : StressOptions → List ℕ → List ℕ → Type 0
IsStressed = IsStressedBy json_of_input

-- a source is a script
abbrev pub IsScriptBy : {A : Type 0} → (A → Result Data Fault) → A → Type 0
IsScriptBy json source = (script : Script) × (script_by json source ≡ Ok script)

-- an input is a script
abbrev pub IsScript : List ℕ → Type 0
IsScript = IsScriptBy json_of_input

-- The state in which a fault leaves the writer: unchanged, or with a prefix of the line.
abbrev pub FailsStressBy : {A : Type 0} → (A → Result Data Fault) → StressOptions → Option A → Option (List ℕ) → Option (List ℕ) → Type 0 → Type 0 → Fault → Type 0
FailsStressBy json options source old new ReadHasFailed WriteHasFailed e =
    (Keeps old new × (IsUnread (EndsReadingBy json) source ReadHasFailed e ⊎ (e ≡ outside NoReader)))
    ⊎ ((text : List ℕ) × IfSome source (λ it. IsStressedBy json options it text) × IsCutShort old new WriteHasFailed e text)

-- the state in which a fault leaves the writer of a stress of an input
abbrev pub FailsStress : StressOptions → Option (List ℕ) → Option (List ℕ) → Option (List ℕ) → Type 0 → Type 0 → Fault → Type 0
FailsStress = FailsStressBy json_of_input
