-- An answer with its steps.
use Rattle.std.proofs.Common.{ℕ, refl}
use Rattle.mh_type.specs.declared.outcome.Outcome.{Outcome}
use Rattle.mh_eval.specs.Answers.{Gives, Ran}
use Rattle.mh_eval.specs.declared.answer.Answer.{Answer}
use Rattle.mh_eval.specs.declared.answer.Answer.TheVariants.{Int, Long, Boolean, Text, Thrown, NoMemory}

pub gives_ran : (r : Answer) (o : Outcome) (n : ℕ) → Gives r o → Ran r n o n
gives_ran (Int x) o n h = (h, refl)
gives_ran (Long x) o n h = (h, refl)
gives_ran (Boolean x) o n h = (h, refl)
gives_ran (Text x) o n h = (h, refl)
gives_ran (Thrown t) o n h = (h, refl)
gives_ran NoMemory o n h = tt
