-- The words of a command line.
use Rattle.std.specs.Prelude.{◌≡◌, ◌⊎◌, ◌<◌, ◌≤◌, ℕ, Bool, List, [], ◌∷◌, ◌++◌, drop, codes, true, false, Option, Some, None, pos, ⊤}
use Rattle.std.specs.Str.Parse.{IsNumeral, digits_value, without_leading_plus, true_text, false_text}
use Rattle.clap.specs.Simple.{on_top}
use Rattle.clap.specs.Words.{App, Row, Rule, new_app, new_rule, one_of, subcommand_of, takes, with_rule, with_subcommand}
use Rattle.clap.specs.declared.builder.action.ArgAction.TheVariants.{SetTrue}
use Rattle.clap.specs.declared.builder.value_parser.ValueParser.TheVariants.{Signed}
use Rattle.clap.specs.declared.error.kind.ErrorKind.{ErrorKind}
use Rattle.mh_base.specs.Limits.{most_workers}
use Rattle.mh_text.specs.declared.streams.planning.PlanOptions.{PlanOptions}
use Rattle.mh_text.specs.declared.streams.run.RunOptions.{RunOptions}
use Rattle.mh_profile.specs.declared.planning.ProfileOptions.{ProfileOptions}
use Rattle.mh_stress.specs.Stress.{AreLawful, most_rounds}
use Rattle.mh_stress.specs.declared.stress.StressOptions.{StressOptions}
use Rattle.mh_command.specs.Statuses.{status_answered}
use Rattle.mh_command.specs.declared.options.Reading.{Reading}
use Rattle.mh_command.specs.declared.request.Asked.{Asked}
use Rattle.mh_command.specs.declared.request.Request.{Request}
use Rattle.mh_command.specs.declared.request.Request.TheVariants.{Run, Check, CheckProfile, Plan, Stress, Profile}

-- the program before its subcommands: it has a version, and one of its subcommands is required
abbrev pub root_app : App
root_app = on_top (λ s. record s { has_version = true; subcommand_required = true }) (new_app (codes "mhlink"))

-- `--workers N`, N from 1 to 64, 1 by default
abbrev pub workers_rule : Rule
workers_rule = record (new_rule (codes "workers")) {
  long = Some (codes "workers");
  value_names = 1;
  defaults = codes "1" ∷ [];
  parser = Some (Signed (pos 1) (pos most_workers));
}

-- the same, the script's number by default
abbrev pub callers_rule : Rule
callers_rule = record (new_rule (codes "workers")) { long = Some (codes "workers"); value_names = 1; parser = Some (Signed (pos 1) (pos most_workers)) }

-- `--rounds N`, N from 1 to 1,000,000, 1 by default
abbrev pub rounds_rule : Rule
rounds_rule = record (new_rule (codes "rounds")) {
  long = Some (codes "rounds");
  value_names = 1;
  defaults = codes "1" ∷ [];
  parser = Some (Signed (pos 1) (pos most_rounds));
}

-- an option without a value
abbrev pub flag_rule : List ℕ → Rule
flag_rule name = record (new_rule name) { long = Some name; action = Some SetTrue }

-- any subcommand takes `--explain`
abbrev pub with_explain : App → App
with_explain app = with_rule app (flag_rule (codes "explain"))

-- and any but `profile` takes `--strict`
abbrev pub with_reading : App → App
with_reading app = with_rule (with_explain app) (flag_rule (codes "strict"))

abbrev pub run_app : App
run_app = with_rule (with_reading (new_app (codes "run"))) (flag_rule (codes "report"))

abbrev pub check_app : App
check_app = with_rule (with_reading (new_app (codes "check"))) (flag_rule (codes "profile"))

abbrev pub plan_app : App
plan_app =
    with_rule (with_rule (with_rule (with_reading (new_app (codes "plan"))) workers_rule) (flag_rule (codes "certificate"))) (flag_rule (codes "phases"))

abbrev pub stress_app : App
stress_app =
    with_rule (with_rule (with_rule (with_reading (new_app (codes "stress"))) callers_rule) rounds_rule) (flag_rule (codes "report"))

abbrev pub profile_app : App
profile_app =
    with_rule (with_rule (with_rule (with_explain (new_app (codes "profile"))) workers_rule) (flag_rule (codes "certificate"))) (flag_rule (codes "sweep"))

-- the program with its first two subcommands
abbrev pub plain_app : App
plain_app = with_subcommand (with_subcommand root_app run_app.top) check_app.top

-- the program with the next two
abbrev pub further_app : App
further_app = with_subcommand (with_subcommand plain_app plan_app.top) stress_app.top

-- the program
abbrev pub program : App
program = with_subcommand further_app profile_app.top

-- there are from 1 to 64 workers, and some rounds
abbrev pub HasWorkers : Request → Type 0
HasWorkers (Plan options) = (0 < options.workers) × (options.workers ≤ most_workers)
HasWorkers (Stress options) = AreLawful options
HasWorkers (Profile options) = (0 < options.workers) × (options.workers ≤ most_workers)
HasWorkers _ = ⊤

-- a text is a number in decimal digits
abbrev pub IsNumber : Option (List ℕ) → ℕ → Type 0
IsNumber (Some text) n = IsNumeral 10 (without_leading_plus text) × (digits_value 10 (without_leading_plus text) ≡ n)
IsNumber None n = ⊥

abbrev pub truth_text : Bool → List ℕ
truth_text true = true_text
truth_text false = false_text

-- the words after `run` are these options
abbrev pub IsReported : RunOptions → List Row → Type 0
IsReported options rows = one_of (codes "report") rows ≡ Some (truth_text options.report)

-- the words say that so many workers plan
pub record AreWorkers (workers : ℕ) (rows : List Row) : Type 0 where
  pub number : IsNumber (one_of (codes "workers") rows) workers
  pub some : 0 < workers
  pub few : workers ≤ most_workers

-- the words after `plan` are these options
pub record AreOptions (options : PlanOptions) (rows : List Row) : Type 0 where
  pub workers : AreWorkers options.workers rows
  pub certificate : one_of (codes "certificate") rows ≡ Some (truth_text options.certificate)
  pub phases : one_of (codes "phases") rows ≡ Some (truth_text options.phases)

-- the words after `profile` are these options
pub record AreProfiled (options : ProfileOptions) (rows : List Row) : Type 0 where
  pub workers : AreWorkers options.workers rows
  pub certificate : one_of (codes "certificate") rows ≡ Some (truth_text options.certificate)
  pub sweep : one_of (codes "sweep") rows ≡ Some (truth_text options.sweep)

-- a number that may be left out
abbrev pub MayBeNumber : Option (List ℕ) → Option ℕ → Type 0
MayBeNumber (Some text) (Some n) = IsNumber (Some text) n
MayBeNumber None None = ⊤
MayBeNumber _ _ = ⊥

-- the words after `stress` are these options
pub record AreStressed (options : StressOptions) (rows : List Row) : Type 0 where
  pub workers : MayBeNumber (one_of (codes "workers") rows) options.workers
  pub rounds : IsNumber (one_of (codes "rounds") rows) options.rounds
  pub report : one_of (codes "report") rows ≡ Some (truth_text options.report)
  pub lawful : AreLawful options

-- the words after any subcommand but `profile` say how to read its input
pub record IsRead (reading : Reading) (rows : List Row) : Type 0 where
  pub explain : one_of (codes "explain") rows ≡ Some (truth_text reading.explain)
  pub strict : one_of (codes "strict") rows ≡ Some (truth_text reading.strict)

-- the words after `profile` say whether to explain a fault; no key is refused
pub record IsReadPlainly (reading : Reading) (rows : List Row) : Type 0 where
  pub explain : one_of (codes "explain") rows ≡ Some (truth_text reading.explain)
  pub strict : reading.strict ≡ false

-- the words after the subcommand of a request say how to read its input
abbrev pub IsReadFor : Request → Reading → List Row → Type 0
IsReadFor (Profile options) reading rows = IsReadPlainly reading rows
IsReadFor (Run options) reading rows = IsRead reading rows
IsReadFor Check reading rows = IsRead reading rows
IsReadFor CheckProfile reading rows = IsRead reading rows
IsReadFor (Plan options) reading rows = IsRead reading rows
IsReadFor (Stress options) reading rows = IsRead reading rows

-- they ask for no explanation
abbrev pub IsUnexplained : List Row → Type 0
IsUnexplained rows = one_of (codes "explain") rows ≡ Some false_text

-- the words after `check` say whether a profile is checked
abbrev pub IsOfProfile : Bool → List Row → Type 0
IsOfProfile profile rows = one_of (codes "profile") rows ≡ Some (truth_text profile)

-- the name of a request's subcommand, and the words after it
abbrev pub IsRequest : Request → List ℕ → List Row → Type 0
IsRequest (Run options) name rows = (name ≡ codes "run") × IsReported options rows
IsRequest Check name rows = (name ≡ codes "check") × IsOfProfile false rows
IsRequest CheckProfile name rows = (name ≡ codes "check") × IsOfProfile true rows
IsRequest (Plan options) name rows = (name ≡ codes "plan") × AreOptions options rows
IsRequest (Stress options) name rows = (name ≡ codes "stress") × AreStressed options rows
IsRequest (Profile options) name rows = (name ≡ codes "profile") × AreProfiled options rows

-- the subcommand of a request with its options for reading, and the words after it
abbrev pub IsNamed : Asked → Option (List ℕ × List Row) → Type 0
IsNamed asked (Some (name, rows)) = IsRequest asked.request name rows × IsReadFor asked.request asked.reading rows
IsNamed asked None = ⊥

-- a subcommand with no word that asks for an explanation, or none
abbrev pub SaysNoExplanation : Option (List ℕ × List Row) → Type 0
SaysNoExplanation (Some (name, rows)) = IsUnexplained rows
SaysNoExplanation None = ⊤

-- the word of an option that is asked for
abbrev pub word_where : Bool → List ℕ → List (List ℕ)
word_where true word = word ∷ []
word_where false word = []

abbrev pub reading_words : Reading → List (List ℕ)
reading_words reading = word_where reading.explain (codes "--explain") ++ word_where reading.strict (codes "--strict")

-- `mhlink run`, with the options that are asked for in this order
abbrev pub run_words : RunOptions → Reading → List (List ℕ)
run_words options reading = codes "run" ∷ (word_where options.report (codes "--report") ++ reading_words reading)

-- `mhlink check`, with the same
abbrev pub check_words : Reading → List (List ℕ)
check_words reading = codes "check" ∷ reading_words reading

-- words after the program's name that need no reading by clap
abbrev pub AreWords : Request → Reading → List (List ℕ) → Type 0
AreWords (Run options) reading after = after ≡ run_words options reading
AreWords Check reading after = after ≡ check_words reading
AreWords CheckProfile reading after = ⊥
AreWords (Plan options) reading after = ⊥
AreWords (Stress options) reading after = ⊥
AreWords (Profile options) reading after = ⊥

-- The words, the program's name first, are those of a request: `mhlink run` and `mhlink check`; or, in any order that clap takes,
-- `mhlink plan --workers 2 --certificate` and `mhlink stress --rounds 3 --explain`.
abbrev pub AsksFor : Asked → List (List ℕ) → Type 0
AsksFor asked words =
    AreWords asked.request asked.reading (drop 1 words)
    ⊎ ((takes program words ≡ true) × IsNamed asked (subcommand_of program words))

-- the words ask for no explanation
abbrev pub AsksNoExplanation : List (List ℕ) → Type 0
AsksNoExplanation words = SaysNoExplanation (subcommand_of program words)

-- those of `mhlink --help`, or of `mhlink -h`
abbrev pub AsksHelp : List (List ℕ) → Type 0
AsksHelp words = (drop 1 words ≡ codes "--help" ∷ []) ⊎ (drop 1 words ≡ codes "-h" ∷ [])

-- those of `mhlink --version`, or of `mhlink -V`
abbrev pub AsksVersion : List (List ℕ) → Type 0
AsksVersion words = (drop 1 words ≡ codes "--version" ∷ []) ⊎ (drop 1 words ≡ codes "-V" ∷ [])

-- the status of the kind, or that of the failure to write its text
abbrev pub IsReply : ℕ → ErrorKind → Type 0
IsReply status kind = (status ≡ status_answered kind) ⊎ (status ≡ 3) ⊎ (status ≡ 4)
