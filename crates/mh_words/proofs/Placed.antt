-- What is lowered at a place is lowered at the place before it.
use Rattle.std.proofs.Common.{◌≡◌, ◌+◌, ℕ, List, Bor, Result, Ok, Err, IfOk, sym, subst}
use Rattle.std.specs.Arc.{arc_value}
use Rattle.std.specs.declared.alloc.Global.{Global}
use Rattle.std.specs.declared.sync.Arc.{Arc}
use Rattle.mh_code.specs.Routine.{Source, Routine, give}
use Rattle.mh_type.specs.Signature.{Signature}
use Rattle.mh_words.specs.Routine.{WordRoutine, give as give_word}
use Rattle.mh_words.specs.RoutineOf.{word_routine}
use Rattle.mh_words.specs.inner.Lowered.{Lowers, Makes}
use Rattle.mh_words.specs.declared.known.Known.{Known}
use Rattle.mh_words.specs.declared.made.Made.{Made}
use Rattle.mh_words.specs.declared.piece.WordPiece.{WordPiece}
use Rattle.mh_words.proofs.Lowers.{lowers_give}

-- what holds of a result's value
pub if_ok : {A E : Type 0} (r : Result A E) (P Q : A → Type 0) → ((x : A) → P x → Q x) → IfOk r P → IfOk r Q
if_ok (Ok x) P Q k h = k x h
if_ok (Err e) P Q k h = h

-- the same, by two facts
pub if_ok_both : {A E : Type 0} (r : Result A E) (P R Q : A → Type 0) → ((x : A) → P x → R x → Q x) → IfOk r P → IfOk r R → IfOk r Q
if_ok_both (Ok x) P R Q k h g = k x h g
if_ok_both (Err e) P R Q k h g = h

-- the type and the locals of the place before
module _ (m n : Bor Signature) (ks js : Bor (List Known)) (same : n ≡ m) (locals : js ≡ ks) where
  pub moved : (p : WordRoutine) (r : Routine) (b : ℕ) → Lowers n.now js.now p r b → Lowers m.now ks.now p r b
  moved p r b h = subst (λ (k : Bor (List Known)). Lowers m.now k.now p r b) locals (subst (λ (o : Bor Signature). Lowers o.now js.now p r b) same h)

  pub placed_give : {E : Type 0} (a : Result (Arc WordPiece Global) E) (x : Source) (y : Made) (s b after : ℕ) (q : Routine) → after ≡ b + s → Makes n.now js.now x y → q ≡ give s x → IfOk a (λ i. word_routine (arc_value i) ≡ give_word after y.source) → IfOk a (λ i. y.kind ≡ n.now.ret) → IfOk a (λ i. Lowers m.now ks.now (word_routine (arc_value i)) q b)
  placed_give a x y s b after q is made form value kind = if_ok_both a _ _ _
      (λ i v k. subst (λ r. Lowers m.now ks.now (word_routine (arc_value i)) r b) (sym form)
      (subst (λ p. Lowers m.now ks.now p (give s x) b) (sym v) (moved _ _ b (lowers_give n.now js.now x y s b after is made k))))
      value kind
