-- The relation of answers to outcomes.
use Rattle.std.specs.Prelude.{◌≡◌, ℕ}
use Rattle.mh_type.specs.declared.value.Value.TheVariants as value
use Rattle.mh_type.specs.declared.outcome.Outcome.{Outcome}
use Rattle.mh_type.specs.declared.outcome.Outcome.TheVariants as outcome
use Rattle.mh_eval.specs.declared.answer.Answer.{Answer}
use Rattle.mh_eval.specs.declared.answer.Answer.TheVariants.{Int, Long, Boolean, Text, Thrown, NoMemory}

-- the answer is the outcome, or memory was refused
abbrev pub Gives : Answer → Outcome → Type 0
Gives (Int x) o = o ≡ outcome.Value (value.Int x)
Gives (Long x) o = o ≡ outcome.Value (value.Long x)
Gives (Boolean x) o = o ≡ outcome.Value (value.Boolean x)
Gives (Text x) o = o ≡ outcome.Value (value.Text x)
Gives (Thrown t) o = o ≡ outcome.Thrown t
Gives NoMemory o = Unit {0}

-- the answer is the outcome, and n is the number of steps, m in all; or memory was refused
abbrev pub Ran : Answer → ℕ → Outcome → ℕ → Type 0
Ran (Int x) n o m = (o ≡ outcome.Value (value.Int x)) × (n ≡ m)
Ran (Long x) n o m = (o ≡ outcome.Value (value.Long x)) × (n ≡ m)
Ran (Boolean x) n o m = (o ≡ outcome.Value (value.Boolean x)) × (n ≡ m)
Ran (Text x) n o m = (o ≡ outcome.Value (value.Text x)) × (n ≡ m)
Ran (Thrown t) n o m = (o ≡ outcome.Thrown t) × (n ≡ m)
Ran NoMemory n o m = Unit {0}
