-- The words of statuses and of faults.
use Rattle.std.proofs.Common.{◌≡◌, ◌≢◌, ◌++◌, ◌∷◌, ℕ, List, Result, Some, Ok, Err, inr, refl, subst}
use Rattle.std.specs.Prelude.{IfErr, OnErr, OnOk}
use Rattle.std.specs.Fmt.{decimal}
use Rattle.std.proofs.lemmas.Bool.{ne_eqb}
use Rattle.std.proofs.lemmas.Result.{IfErr-weaker, on_ok_weaker}
use Rattle.mhlink_c.specs.Buffers.{IsCopied, IsTooShort}
use Rattle.mhlink_c.specs.Statuses.{status_of}
use Rattle.mhlink_c.specs.Wording.{RefusesWords, with_part, words_of}
use Rattle.mhlink_c.specs.declared.failure.Failure.{Failure}
use Rattle.mhlink_c.specs.declared.failure.Failure.TheVariants.{Short}

-- the fault of a status that is not 0
pub status_told : (r : Result (Unit {0}) Failure) (status : ℕ) (Q : Failure → Type 0) → OnOk r (status ≡ 0) → IfErr r (λ e. status ≡ status_of e) → IfErr r Q → status ≢ 0 → (e : Failure) × ((status ≡ status_of e) × Q e)
status_told (Ok u) status Q ok told is some = absurd (some ok)
status_told (Err e) status Q ok told is some = (e, (told, is))

-- what is so of a status 0
pub status_done : {A : Type 0} (r : Result (Unit {0}) Failure) (status : ℕ) → OnErr r (status ≢ 0) → OnOk r A → status ≡ 0 → A
status_done (Ok u) status some is done = is
status_done (Err e) status some is done = absurd (some done)

pub with_some_part : (words : List ℕ) (part : ℕ) → part ≢ 0 → words ++ 32 ∷ decimal part ≡ with_part words part
with_some_part words part some = rw (ne_eqb part 0 some) refl

module _ (status part : ℕ) (words bytes : List ℕ) (is : words_of status ≡ Some words) (same : bytes ≡ with_part words part) where
  pub copied : {E : Type 0} (r : Result (Unit {0}) E) (count : ℕ) (buffer : List ℕ) → OnOk r (IsCopied bytes count buffer) → OnOk r ((words : List ℕ) × ((words_of status ≡ Some words) × IsCopied (with_part words part) count buffer))
  copied r count buffer h =
      on_ok_weaker r (λ (it : IsCopied bytes count buffer). (words, (is, subst (λ (xs : List ℕ). IsCopied xs count buffer) same it))) h

  pub too_short : (r : Result (Unit {0}) Failure) (count : ℕ) (buffer : List ℕ) → IfErr r (λ e. (e ≡ Short) × IsTooShort bytes count buffer) → IfErr r (RefusesWords status part count buffer)
  too_short r count buffer h =
      IfErr-weaker r (λ e. (e ≡ Short) × IsTooShort bytes count buffer) (RefusesWords status part count buffer)
      (λ e it. inr (inr (it.0, (words, (is, subst (λ (xs : List ℕ). IsTooShort xs count buffer) same it.1))))) h
