-- What the words after `plan` say, as it is read.
use Rattle.std.proofs.Common.{◌≡◌, ◌≤◌, ◌<◌, ◌^◌, ◌∙◌, refl, sym, ap, subst, arith, ℕ, Bool, true, false, List, Option, Some, None, Result, Ok, Err, codes, length, IfSome}
use Rattle.std.specs.Str.Parse.{ParsesUnsigned}
use Rattle.clap.specs.Words.{ReadsOne, Row, one_of, one_text, rows_of}
use Rattle.clap.specs.declared.parser.matches.Found.{Found}
use Rattle.clap.proofs.WalkLemmas.{one_text-rows}
use Rattle.mh_text.specs.declared.streams.run.RunOptions.{RunOptions}
use Rattle.mh_stress.specs.declared.stress.StressOptions.{StressOptions}
use Rattle.mh_command.specs.CommandLine.{AreStressed, AreWorkers, IsNumber, IsRead, IsReadFor, IsReadPlainly, IsRequest, IsReported, IsUnexplained, MayBeNumber, truth_text}
use Rattle.mh_command.specs.declared.options.Reading.{Reading}
use Rattle.mh_command.specs.declared.request.Request.{Request}
use Rattle.mh_command.specs.declared.request.Request.TheVariants.{Run, Check, CheckProfile, Plan, Stress, Profile}

-- a number that has so many bits is read as what it is
number_read : {E : Type 0} (bits : ℕ) (G : List ℕ → Result ℕ E → Type 0) → ((t : List ℕ) (x : Result ℕ E) → G t x → ParsesUnsigned bits 10 t x)
    → (o : Option (List ℕ)) (n : ℕ) (r : Option ℕ) → ((t : List ℕ) → o ≡ Some t → ReadsOne G t r) → IsNumber o n → n < 2 ^ bits → r ≡ Some n
number_read bits G only None n r reads number small = absurd number
number_read bits G only (Some t) n (Some v) reads (numeral, is) small = ap Some ((only t (Ok v) (reads t refl)).1 ∙ is)
number_read bits G only (Some t) n None reads (numeral, is) small =
    let failed = reads t refl in
    absurd (only t (Err failed.0) failed.1 (numeral, subst (λ k. k < 2 ^ bits) (sym is) small))

-- one that may be left out, too
may_be_read : {E : Type 0} (bits : ℕ) (G : List ℕ → Result ℕ E → Type 0) → ((t : List ℕ) (x : Result ℕ E) → G t x → ParsesUnsigned bits 10 t x)
    → (o : Option (List ℕ)) (n : Option ℕ) (r : Option ℕ) → (o ≡ None → r ≡ None) → ((t : List ℕ) → o ≡ Some t → ReadsOne G t r) → MayBeNumber o n → IfSome n (λ k. k < 2 ^ bits) → r ≡ n
may_be_read bits G only None None r none reads number small = none refl
may_be_read bits G only (Some t) (Some n) r none reads number small = number_read bits G only (Some t) n r reads number small
may_be_read bits G only None (Some n) r none reads number small = absurd number
may_be_read bits G only (Some t) None r none reads number small = absurd number

-- a word that is there or not is read as that
flag_read : (o : Option (List ℕ)) (b : Bool) (r : Bool) → (o ≡ Some (codes "true") → r ≡ true) → (o ≡ Some (codes "false") → r ≡ false) → o ≡ Some (truth_text b) → r ≡ b
flag_read o true r on off is = on is
flag_read o false r on off is = off is

-- what the words after any subcommand say of reading
module _ (f : Found) (reading : Reading) (is : IsRead reading (rows_of f)) where
  pub explain_is : (r : Bool) → (one_text f (codes "explain") ≡ Some (codes "true") → r ≡ true)
      → (one_text f (codes "explain") ≡ Some (codes "false") → r ≡ false) → r ≡ reading.explain
  explain_is r on off = flag_read _ reading.explain r on off (one_text-rows f (codes "explain") ∙ is.explain)

  pub strict_is : (r : Bool) → (one_text f (codes "strict") ≡ Some (codes "true") → r ≡ true)
      → (one_text f (codes "strict") ≡ Some (codes "false") → r ≡ false) → r ≡ reading.strict
  strict_is r on off = flag_read _ reading.strict r on off (one_text-rows f (codes "strict") ∙ is.strict)

-- they do not say to explain
pub explain_is_not : (f : Found) → IsUnexplained (rows_of f) → (r : Bool) → (one_text f (codes "explain") ≡ Some (codes "false") → r ≡ false) → r ≡ false
explain_is_not f is r off = off (one_text-rows f (codes "explain") ∙ is)

-- what the words after `run` say
pub report_is : (f : Found) (options : RunOptions) → IsReported options (rows_of f) → (r : Bool) → (one_text f (codes "report") ≡ Some (codes "true") → r ≡ true)
    → (one_text f (codes "report") ≡ Some (codes "false") → r ≡ false) → r ≡ options.report
report_is f options is r on off = flag_read _ options.report r on off (one_text-rows f (codes "report") ∙ is)

-- how many workers plan
pub planners_are : (f : Found) (workers : ℕ) → AreWorkers workers (rows_of f) → {E : Type 0} (G : List ℕ → Result ℕ E → Type 0) → ((t : List ℕ) (x : Result ℕ E) → G t x → ParsesUnsigned 8 10 t x)
    → (r : Option ℕ) → ((t : List ℕ) → one_text f (codes "workers") ≡ Some t → ReadsOne G t r) → r ≡ Some workers
planners_are f workers are G only r reads = number_read 8 G only (one_text f (codes "workers")) workers r reads
    (subst (λ o. IsNumber o workers) (sym (one_text-rows f (codes "workers"))) are.number) (omega (arith, are.few))

-- a word that was found is read as it is
pub word_is : (f : Found) (word : List ℕ) (b : Bool) → one_of word (rows_of f) ≡ Some (truth_text b) → (r : Bool) → (one_text f word ≡ Some (codes "true") → r ≡ true)
    → (one_text f word ≡ Some (codes "false") → r ≡ false) → r ≡ b
word_is f word b is r on off = flag_read _ b r on off (one_text-rows f word ∙ is)

-- what the words after `stress` say
module _ (f : Found) (options : StressOptions) (are : AreStressed options (rows_of f)) where
  in_byte : (n : Option ℕ) → IfSome n (λ k. (0 < k) × (k ≤ 64)) → IfSome n (λ k. k < 2 ^ 8)
  in_byte None small = tt
  in_byte (Some n) small = let few = small.1 in omega (arith, few)

  pub callers_are : {E : Type 0} (G : List ℕ → Result ℕ E → Type 0) → ((t : List ℕ) (x : Result ℕ E) → G t x → ParsesUnsigned 8 10 t x)
      → (r : Option ℕ) → (one_text f (codes "workers") ≡ None → r ≡ None) → ((t : List ℕ) → one_text f (codes "workers") ≡ Some t → ReadsOne G t r) → r ≡ options.workers
  callers_are G only r none reads = may_be_read 8 G only (one_text f (codes "workers")) options.workers r none reads
      (subst (λ o. MayBeNumber o options.workers) (sym (one_text-rows f (codes "workers"))) are.workers) (in_byte options.workers are.lawful.workers)

  pub tables_are : (r : Bool) → (one_text f (codes "report") ≡ Some (codes "true") → r ≡ true)
      → (one_text f (codes "report") ≡ Some (codes "false") → r ≡ false) → r ≡ options.report
  tables_are r on off = flag_read _ options.report r on off (one_text-rows f (codes "report") ∙ are.report)

  pub rounds_are : {E : Type 0} (G : List ℕ → Result ℕ E → Type 0) → ((t : List ℕ) (x : Result ℕ E) → G t x → ParsesUnsigned 32 10 t x)
      → (r : Option ℕ) → ((t : List ℕ) → one_text f (codes "rounds") ≡ Some t → ReadsOne G t r) → r ≡ Some options.rounds
  rounds_are G only r reads = number_read 32 G only (one_text f (codes "rounds")) options.rounds r reads
      (subst (λ o. IsNumber o options.rounds) (sym (one_text-rows f (codes "rounds"))) are.rounds) (let few = are.lawful.few in omega (arith, few))

-- words after `profile` ask for a profile alone
pub reading_plain : (request : Request) (reading : Reading) (name : List ℕ) (rows : List Row) → name ≡ codes "profile" → IsRequest request name rows → IsReadFor request reading rows → IsReadPlainly reading rows
reading_plain (Run options) reading name rows is asks reads = absurd (omega (arith, ap length (sym is ∙ asks.0)))
reading_plain Check reading name rows is asks reads = absurd (omega (arith, ap length (sym is ∙ asks.0)))
reading_plain CheckProfile reading name rows is asks reads = absurd (omega (arith, ap length (sym is ∙ asks.0)))
reading_plain (Plan options) reading name rows is asks reads = absurd (omega (arith, ap length (sym is ∙ asks.0)))
reading_plain (Stress options) reading name rows is asks reads = absurd (omega (arith, ap length (sym is ∙ asks.0)))
reading_plain (Profile options) reading name rows is asks reads = reads

-- words after any other subcommand say how its input is read
pub reading_said : (request : Request) (reading : Reading) (name : List ℕ) (rows : List Row) → (name ≡ codes "profile" → ⊥) → IsRequest request name rows → IsReadFor request reading rows → IsRead reading rows
reading_said (Run options) reading name rows other asks reads = reads
reading_said Check reading name rows other asks reads = reads
reading_said CheckProfile reading name rows other asks reads = reads
reading_said (Plan options) reading name rows other asks reads = reads
reading_said (Stress options) reading name rows other asks reads = reads
reading_said (Profile options) reading name rows other asks reads = absurd (other asks.0)

-- what the words after `profile` say of reading
pub plain_is : (explain : Bool) (reading : Reading) → explain ≡ reading.explain → reading.strict ≡ false → record { explain = explain; strict = false } ≡ reading
plain_is explain reading said plain = rw (said, sym plain) refl
