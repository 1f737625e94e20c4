-- What is read of a reader's bytes, chunk by chunk.
use Rattle.std.proofs.Common.{◌≡◌, ◌⊎◌, ◌+◌, ◌≤◌, ℕ, List, [], ◌++◌, length, Option, Some, None, Result, Ok, Err, IfOk, IfErr, IfSome, sym, ap, ◌∙◌, inl, inr, arith}
use Rattle.std.specs.Io.KnownBytes.{Consumes, IsAtEnd}
use Rattle.std.proofs.KnownBytes.{Consumes-trans}
use Rattle.std.proofs.lemmas.List.{append_assoc, length-append}
use Rattle.std.proofs.lemmas.Grind.{common_steps}
use Rattle.mh_json.specs.declared.fault.Fault.{Fault}
use Rattle.mh_profile.specs.declared.profile.Profile.{Profile}
use Rattle.mh_profile.specs.declared.reader.LineReader.{LineReader}
use Rattle.mh_json.specs.Gives.{no_memory, GivesAt, outside}
use Rattle.mh_profile.specs.declared.named.NamedProblem.{NamedProblem}
use Rattle.mh_profile.specs.declared.planning.ProfileOptions.{ProfileOptions}
use Rattle.mh_profile.specs.Inputs.{IsFaultOfLines, IsProfileFault, IsProfileInput}
use Rattle.mh_profile.specs.Planning.{IsPlanOf, IsPlanned}
use Rattle.mh_profile.specs.Profiles.{profile_of}
use Rattle.mh_profile.specs.Limits.{most_at_once, most_in_all}
use Rattle.mh_profile.specs.Readers.{resumed, taken_by, IsReading, Takes}
use Rattle.mh_text.specs.Bytes.{LosesAtMost}
use Rattle.mh_text.specs.Output.{IsUnread}

-- a reader that has taken these bytes, the first of an input
abbrev pub HasTaken : List ℕ → LineReader → Type 0
HasTaken front r = (rest : List ℕ) → profile_of (front ++ rest) ≡ resumed r rest

pub more_taken : (front bytes : List ℕ) (r next : LineReader) → HasTaken front r → Takes r bytes (Ok next) → HasTaken (front ++ bytes) next
more_taken front bytes r next taken more = λ rest. ap profile_of (append_assoc front bytes rest) ∙ (taken (bytes ++ rest) ∙ more rest)

pub more_counted : (front bytes : List ℕ) (r next : LineReader) → length front ≡ taken_by r → taken_by next ≡ taken_by r + length bytes
    → length (front ++ bytes) ≡ taken_by next
more_counted front bytes r next count more = length-append front bytes ∙ ap (λ n. n + length bytes) count ∙ sym more

-- a reader has taken no more than the limit of all lines
pub taken_within : (r : LineReader) → IsReading r → taken_by r ≤ most_in_all
taken_within r reading = grind (arith, common_steps)

-- and so it has lost few of the bytes of an input: those that it has taken, and one part more
pub few_lost : (old mid new : Option (List ℕ)) (front part : List ℕ) (r : LineReader) → IsReading r → length front ≡ taken_by r → Consumes old mid front
    → Consumes mid new part → length part ≤ most_at_once → LosesAtMost (most_in_all + most_at_once) old new
few_lost old mid new front part r reading count begun more few =
    let within = taken_within r reading in
    let sum = length-append front part in
    (front ++ part, Consumes-trans old mid new front part begun more, omega (arith, sum, count, within, few))

module _ (H : Type 0) where
  told : (input : List ℕ) (s : Result Profile Fault) → GivesAt (λ x. x) s (profile_of input) → IfErr s (IsUnread IsFaultOfLines (Some input) H)
  told input (Ok x) gives = tt
  told input (Err e) (inl memory) = inl memory
  told input (Err e) (inr fails) = inr (inr fails)

  given : (input : List ℕ) (s : Result Profile Fault) → GivesAt (λ x. x) s (profile_of input) → IfOk s (λ x. profile_of input ≡ Ok x)
  given input (Ok x) gives = gives
  given input (Err e) gives = tt

  whole : (input : List ℕ) (front rest : List ℕ) (r : LineReader) → HasTaken front r → input ≡ front ++ rest → rest ≡ [] → profile_of input ≡ resumed r []
  whole input front rest r taken is none = ap profile_of is ∙ (taken rest ∙ ap (resumed r) none)

  unknown_told : (s : Result Profile Fault) → IfErr s (IsUnread IsFaultOfLines None H)
  unknown_told (Ok x) = tt
  unknown_told (Err e) = inr (inr tt)

  unknown_given : (s : Result Profile Fault) → IfOk s (λ x. IfSome None (λ (input : List ℕ). profile_of input ≡ Ok x))
  unknown_given (Ok x) = tt
  unknown_given (Err e) = tt

  -- the end of the input
  pub all_read : (initial now : Option (List ℕ)) (front : List ℕ) (r : LineReader) (s : Result Profile Fault) → Consumes initial now front → IsAtEnd now → HasTaken front r
      → GivesAt (λ x. x) s (resumed r []) → IfOk s (λ x. IfSome initial (λ input. profile_of input ≡ Ok x)) × IfErr s (IsUnread IsFaultOfLines initial H)
  all_read None now front r s consumed end taken gives = (unknown_given s, unknown_told s)
  all_read (Some input) None front r s consumed end taken gives = absurd consumed
  all_read (Some input) (Some rest) front r s consumed end taken gives =
      let is = whole input front rest r taken consumed end in
      let gives′ : GivesAt (λ x. x) s (profile_of input) = rw is gives in
      (given input s gives′, told input s gives′)

  -- a fault before it
  pub fails_early : (initial now : Option (List ℕ)) (front bytes : List ℕ) (r : LineReader) (e : Fault) → Consumes initial now (front ++ bytes) → HasTaken front r
      → Takes r bytes (Err e) → IsUnread IsFaultOfLines initial H e
  fails_early initial now front bytes r e consumed taken (inl memory) = inl memory
  fails_early None now front bytes r e consumed taken (inr fails) = inr (inr tt)
  fails_early (Some input) None front bytes r e consumed taken (inr fails) = absurd consumed
  fails_early (Some input) (Some rest) front bytes r e consumed taken (inr fails) =
      inr (inr (ap profile_of (consumed ∙ append_assoc front bytes rest) ∙ (taken (bytes ++ rest) ∙ fails rest)))

-- the lines of a problem with names are those of the input that it was read of
pub planned_in : (options : ProfileOptions) (input : Option (List ℕ)) (n : NamedProblem) (text : List ℕ) → IfSome input (λ bytes. IsProfileInput bytes n) → IsPlanOf options n text
    → IfSome input (λ bytes. IsPlanned options bytes text)
planned_in options None n text is planned = tt
planned_in options (Some bytes) n text is planned = (n, is, planned)

-- ---- lines that are past the limit of all, of which a beginning was taken
pub late_fails : (r : LineReader) (front : List ℕ) (e : Fault) → ((input : List ℕ) → resumed r input ≡ profile_of input) → Takes r front (Err e)
    → (e ≡ outside no_memory) ⊎ ((rest : List ℕ) → profile_of (front ++ rest) ≡ Err e)
late_fails r front e value (inl memory) = inl memory
late_fails r front e value (inr fails) = inr (λ rest. sym (value (front ++ rest)) ∙ fails rest)

pub front_fails : (initial now : Option (List ℕ)) (front : List ℕ) (H : Type 0) (e : Fault) → Consumes initial now front
    → (e ≡ outside no_memory) ⊎ ((rest : List ℕ) → profile_of (front ++ rest) ≡ Err e) → IsUnread IsProfileFault initial H e
front_fails initial now front H e consumed (inl memory) = inl memory
front_fails None now front H e consumed (inr fails) = inr (inr tt)
front_fails (Some input) None front H e consumed (inr fails) = absurd consumed
front_fails (Some input) (Some rest) front H e consumed (inr fails) = inr (inr (inl (ap profile_of consumed ∙ fails rest)))
