-- What stands written of a text and what is behind it, where the stream fails.
use Rattle.std.proofs.Common.{◌≡◌, ◌∙◌, ap, sym, ℕ, List, [], ◌++◌, append_assoc, append-nil, Option, Result, Ok, Err, OnErr, arith}
use Rattle.std.proofs.KnownBytes.{Appends-kept, Appends-trans}
use Rattle.std.specs.Io.KnownBytes.{Appends, Keeps}
use Rattle.mh_text.specs.Bytes.{AppendsFront, HasFailed, one_more}
use Rattle.mh_command.specs.Streams.{IsCut}

pub always_on_err : {A E : Type 0} (r : Result A E) (P : Type 0) → P → OnErr r P
always_on_err (Ok x) P h = tt
always_on_err (Err e) P h = h

pub on_err : {A E : Type 0} (r : Result A E) (P Q : Type 0) → (P → Q) → OnErr r P → OnErr r Q
on_err (Ok x) P Q f h = tt
on_err (Err e) P Q f h = f h

pub one_more_fails : (old new : ℕ) → new ≡ one_more old → HasFailed old new
one_more_fails old new more same = omega (arith, more, same)

-- the first write fails
pub text_cut : (old new : Option (List ℕ)) (failures_old failures_new : ℕ) (text help : List ℕ) → failures_new ≡ one_more failures_old
    → AppendsFront old new text → IsCut old new failures_old failures_new (text ++ help)
text_cut old new failures_old failures_new text help more (front, rest, left, split, begun) =
    (one_more_fails failures_old failures_new more, (front, rest ++ help, ap (λ xs. xs ++ help) split ∙ append_assoc front rest help, begun))

-- the second one does
pub help_cut : (old mid new : Option (List ℕ)) (failures_old failures_mid failures_new : ℕ) (text help : List ℕ) → failures_mid ≡ failures_old
    → failures_new ≡ one_more failures_mid → Appends old mid text → AppendsFront mid new help → IsCut old new failures_old failures_new (text ++ help)
help_cut old mid new failures_old failures_mid failures_new text help same more written (front, rest, left, split, begun) = (
  one_more_fails failures_old failures_new (more ∙ ap one_more same),
  (text ++ front, rest, ap (λ xs. text ++ xs) split ∙ sym (append_assoc text front rest), Appends-trans old mid new text front written begun),
)

-- the flush does, behind the whole
pub flush_cut : (old mid all new : Option (List ℕ)) (failures_old failures_all failures_new : ℕ) (text help : List ℕ) → failures_all ≡ failures_old
    → Appends old mid text → Appends mid all help → Keeps all new → failures_new ≡ one_more failures_all → IsCut old new failures_old failures_new (text ++ help)
flush_cut old mid all new failures_old failures_all failures_new text help same written more kept fails = (
  one_more_fails failures_old failures_new (fails ∙ ap one_more same),
  (
    text ++ help,
    [],
    sym (append-nil (text ++ help)),
    Appends-kept old all new (text ++ help) (Appends-trans old mid all text help written more) kept,
  ),
)
