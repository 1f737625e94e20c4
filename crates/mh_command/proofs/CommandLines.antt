-- What words are taken for.
use Rattle.std.proofs.Common.{◌≡◌, ◌⊎◌, inl, inr, ◌∙◌, sym, ap, subst, refl, ◌&&◌, ℕ, List, [], ◌∷◌, drop, Option, true, Bool, false}
use Rattle.clap.specs.Simple.{built, entered, names_of}
use Rattle.clap.specs.Faults.{built_fault}
use Rattle.clap.specs.Takes.{built_takes}
use Rattle.clap.specs.Walk.{nothing_held, stop_after}
use Rattle.clap.specs.Words.{HasKind, HasMatchesOf, Row, Text, app_of, fault_of, is_simple, is_simple_and_free, kind_of, subcommand_of, subcommand_rows_of, takes}
use Rattle.clap.specs.declared.builder.command.Command.{Command}
use Rattle.clap.specs.declared.error.Error.{Error}
use Rattle.clap.specs.declared.error.kind.ErrorKind.{ErrorKind}
use Rattle.clap.specs.declared.error.kind.ErrorKind.TheVariants.{DisplayHelp, DisplayVersion, OutOfMemory}
use Rattle.clap.specs.declared.parser.matches.ArgMatches.{ArgMatches}
use Rattle.clap.proofs.OnLiterals.{clap_on_literals}
use Rattle.mh_command.specs.CommandLine.{program, run_words, check_words, AreWords, AsksFor, AsksHelp, AsksVersion, IsNamed}
use Rattle.mh_command.specs.declared.options.Reading.{Reading}
use Rattle.mh_command.specs.declared.request.Asked.{Asked}
use Rattle.mh_command.specs.declared.request.Request.{Request}
use Rattle.mh_command.specs.declared.request.Request.TheVariants.{Run, Check, CheckProfile, Plan, Stress, Profile}

is_plain : is_simple program ≡ true
unfolding clap_on_literals
is_plain = refl

abbrev Takes : List (List ℕ) → Type 0
Takes after = is_simple program && built_takes (built program) nothing_held after ≡ true

-- the words of `run` and `check` are taken
taken_run : (report explain strict : Bool) → Takes (run_words (record { report = report }) (record { explain = explain; strict = strict }))
unfolding clap_on_literals
taken_run true true true = refl
taken_run true true false = refl
taken_run true false true = refl
taken_run true false false = refl
taken_run false true true = refl
taken_run false true false = refl
taken_run false false true = refl
taken_run false false false = refl

taken_check : (explain strict : Bool) → Takes (check_words (record { explain = explain; strict = strict }))
unfolding clap_on_literals
taken_check true true = refl
taken_check true false = refl
taken_check false true = refl
taken_check false false = refl

taken_words : (request : Request) (reading : Reading) (after : List (List ℕ)) → AreWords request reading after → Takes after
taken_words (Run options) reading after is = subst Takes (sym is) (taken_run options.report reading.explain reading.strict)
taken_words Check reading after is = subst Takes (sym is) (taken_check reading.explain reading.strict)
taken_words CheckProfile reading after is = absurd is
taken_words (Plan options) reading after is = absurd is
taken_words (Stress options) reading after is = absurd is
taken_words (Profile options) reading after is = absurd is

pub is_taken : (asked : Asked) (words : List (List ℕ)) → AsksFor asked words → takes program words ≡ true
is_taken asked words (inl are) = taken_words asked.request asked.reading (drop 1 words) are
is_taken asked words (inr found) = found.0

abbrev entered_by : List (List ℕ) → Option (Text × List Row)
entered_by after = entered (built program) (stop_after (built program).top.rules (names_of (built program)) after)

abbrev IsEntered : Request → Reading → List (List ℕ) → Type 0
IsEntered request reading after = IsNamed (record { request = request; reading = reading }) (entered_by after)

named_run : (report explain strict : Bool) → IsEntered (Run (record { report = report })) (record { explain = explain; strict = strict })
    (run_words (record { report = report }) (record { explain = explain; strict = strict }))
unfolding clap_on_literals
named_run true true true = ((refl, refl), record { explain = refl; strict = refl })
named_run true true false = ((refl, refl), record { explain = refl; strict = refl })
named_run true false true = ((refl, refl), record { explain = refl; strict = refl })
named_run true false false = ((refl, refl), record { explain = refl; strict = refl })
named_run false true true = ((refl, refl), record { explain = refl; strict = refl })
named_run false true false = ((refl, refl), record { explain = refl; strict = refl })
named_run false false true = ((refl, refl), record { explain = refl; strict = refl })
named_run false false false = ((refl, refl), record { explain = refl; strict = refl })

named_check : (explain strict : Bool) → IsEntered Check (record { explain = explain; strict = strict }) (check_words (record { explain = explain; strict = strict }))
unfolding clap_on_literals
named_check true true = ((refl, refl), record { explain = refl; strict = refl })
named_check true false = ((refl, refl), record { explain = refl; strict = refl })
named_check false true = ((refl, refl), record { explain = refl; strict = refl })
named_check false false = ((refl, refl), record { explain = refl; strict = refl })

named_words : (request : Request) (reading : Reading) (after : List (List ℕ)) → AreWords request reading after → IsEntered request reading after
named_words (Run options) reading after is = subst (IsEntered (Run options) reading) (sym is) (named_run options.report reading.explain reading.strict)
named_words Check reading after is = subst (IsEntered Check reading) (sym is) (named_check reading.explain reading.strict)
named_words CheckProfile reading after is = absurd is
named_words (Plan options) reading after is = absurd is
named_words (Stress options) reading after is = absurd is
named_words (Profile options) reading after is = absurd is

is_named : (asked : Asked) (words : List (List ℕ)) → AsksFor asked words → IsNamed asked (subcommand_of program words)
is_named asked words (inl are) = named_words asked.request asked.reading (drop 1 words) are
is_named asked words (inr found) = found.1

module _ (c : Command) (words : List (List ℕ)) (made : app_of c ≡ program) where
  -- matches of these words are those of the subcommand
  pub are_rows : (m : ArgMatches) → HasMatchesOf (app_of c) words m → subcommand_rows_of m ≡ subcommand_of program words
  are_rows m has = (has (ap is_simple made ∙ is_plain)).1 ∙ ap (λ a. subcommand_of a words) made

  pub is_matched : (m : ArgMatches) → HasMatchesOf (app_of c) words m → (asked : Asked) → AsksFor asked words → IsNamed asked (subcommand_rows_of m)
  is_matched m has asked is = subst (IsNamed asked) (sym (are_rows m has)) (is_named asked words is)

is_free : is_simple_and_free program ≡ true
unfolding clap_on_literals
is_free = refl

module _ (c : Command) (words : List (List ℕ)) (kind : ErrorKind) (made : app_of c ≡ program) (faulty : fault_of program words ≡ kind ∷ []) where
  is_given : fault_of (app_of c) words ≡ kind ∷ []
  is_given = ap (λ a. fault_of a words) made ∙ faulty

  -- words with one kind of fault are refused
  pub is_refused : (is_simple_and_free (app_of c) ≡ true → fault_of (app_of c) words ≡ []) → ⊥
  is_refused free = let none = sym (free (ap is_simple_and_free made ∙ is_free)) ∙ is_given in cc

  -- and the error is of that kind, or memory ran out
  pub kind_told : (e : Error) → (is_simple_and_free (app_of c) ≡ true → HasKind (fault_of (app_of c) words) e) → (kind_of e ≡ OutOfMemory) ⊎ (kind_of e ≡ kind)
  kind_told e has = elim (subst (λ kinds. HasKind kinds e) is_given (has (ap is_simple_and_free made ∙ is_free))) [
    | inl memory ↦ inl memory
    | inr among ↦ elim among [ inl same ↦ inr same | inr none ↦ absurd none ]
  ]

-- words that ask for help, or for the version, have that kind alone
pub asks_help : (words : List (List ℕ)) → AsksHelp words → fault_of program words ≡ DisplayHelp ∷ []
unfolding clap_on_literals
asks_help words (inl is) = subst (λ after. built_fault (built program) nothing_held after ≡ DisplayHelp ∷ []) (sym is) refl
asks_help words (inr is) = subst (λ after. built_fault (built program) nothing_held after ≡ DisplayHelp ∷ []) (sym is) refl

pub asks_version : (words : List (List ℕ)) → AsksVersion words → fault_of program words ≡ DisplayVersion ∷ []
unfolding clap_on_literals
asks_version words (inl is) = subst (λ after. built_fault (built program) nothing_held after ≡ DisplayVersion ∷ []) (sym is) refl
asks_version words (inr is) = subst (λ after. built_fault (built program) nothing_held after ≡ DisplayVersion ∷ []) (sym is) refl
