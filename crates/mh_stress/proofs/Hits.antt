-- What calls and flushes add to the hits of a pass.
use Rattle.std.proofs.Common.{◌≡◌, ◌⊎◌, inl, inr, ℕ, zero, suc, ◌+◌, ◌<◌, ◌≤◌, Bool, true, false, List, [], ◌∷◌, length, get_or, take, slice_set, replicate, ◌==◌, ◌&&◌, Result, Ok, Err, OnOk, OnErr, refl, ap, sym, subst, ◌∙◌, arith}
use Rattle.std.specs.List.{count_by}
use Rattle.std.proofs.lemmas.Bool.{cases_lt}
use Rattle.std.proofs.lemmas.Bool.Decides.{Decides-eqb}
use Rattle.std.proofs.lemmas.List.Sums.{count_by_more_no, count_by_more_yes}
use Rattle.mh_type.specs.declared.value.Value.{Value}
use Rattle.mh_ledger.specs.Ledgers.{LedgerState, added, at, made, settled}
use Rattle.mh_site.specs.Defined.{DefinitionData}
use Rattle.mh_core.specs.Hits.{hits}
use Rattle.mh_core.specs.Callers.{Counts}
use Rattle.mh_live.specs.Passes.{PassState}
use Rattle.mh_stress.specs.Rounds.{HasCalled, HasWorked, MakesCall, hits_by, times_hit}
use Rattle.mh_stress.specs.declared.division.Call.{Call}

one_more : (xs : List ℕ) (k j : ℕ) → at (slice_set xs k (at xs k + 1)) j ≤ at xs j + 1
one_more [] k j = omega arith
one_more (x ∷ xs) zero zero = omega arith
one_more (x ∷ xs) zero (suc j) = omega arith
one_more (x ∷ xs) (suc k) zero = omega arith
one_more (x ∷ xs) (suc k) (suc j) = one_more xs k j

other_place : (xs : List ℕ) (k j y : ℕ) → (j ≡ k → ⊥) → at (slice_set xs k y) j ≡ at xs j
other_place [] k j y differs = refl
other_place (x ∷ xs) zero zero y differs = absurd (differs refl)
other_place (x ∷ xs) zero (suc j) y differs = refl
other_place (x ∷ xs) (suc k) zero y differs = refl
other_place (x ∷ xs) (suc k) (suc j) y differs = other_place xs k j y (λ same. differs (ap suc same))

either : (b : Bool) → (b ≡ true) ⊎ (b ≡ false)
either true = inl refl
either false = inr refl

-- A call makes one hit at most, of the link that it hits.
module _ (d : DefinitionData) (s : ℕ) (a : List Value) (l new : LedgerState) (counts : Counts d s a l new) (j : ℕ) where
  no_other : ((k : ℕ) → hits d s a k ≡ true → ⊥) → new ≡ l
  no_other none = counts.none (λ k. elim (either (hits d s a k)) [ inl hit ↦ absurd (none k hit) | inr missed ↦ missed ])

  pub hit_once : made new j ≤ made l j + 1
  hit_once = elim (cases_lt (made l j + 1) (made new j)) [
    | inr within ↦ within
    | inl more ↦
        let same = no_other (λ k hit.
        let bound = one_more l.unflushed k j in
        let is = ap (λ (x : LedgerState). made x j) (counts.hit k hit) in
        omega (arith, more, bound, is)) in
        let is = ap (λ (x : LedgerState). made x j) same in
        absurd (omega (arith, more, is))
  ]

  pub not_hit : hits d s a j ≡ false → made new j ≤ made l j
  not_hit missed = elim (cases_lt (made l j) (made new j)) [
    | inr within ↦ within
    | inl more ↦
        let same = no_other (λ k hit.
        let differs : j ≡ k → ⊥ = λ e. absurd (true_false (sym hit ∙ (ap (λ i. hits d s a i) (sym e) ∙ missed))) in
        let stays = other_place l.unflushed k j (at l.unflushed k + 1) differs in
        let is = ap (λ (x : LedgerState). made x j) (counts.hit k hit) in
        omega (arith, more, stays, is)) in
        let is = ap (λ (x : LedgerState). made x j) same in
        absurd (omega (arith, more, is))
  ]
    where
      true_false : true ≡ false → ⊥
      true_false e = cc

  -- nor does it change whose ledger it is
  pub same_worker : new.worker ≡ l.worker
  same_worker = elim (either (new.worker == l.worker)) [
    | inl same ↦ (Decides-eqb new.worker l.worker).0 same
    | inr differs ↦
        ap (λ (x : LedgerState). x.worker) (no_other (λ k hit.
        let is : new.worker ≡ l.worker = ap (λ (x : LedgerState). x.worker) (counts.hit k hit) in
        absurd (true_false (sym ((Decides-eqb new.worker l.worker).1 is) ∙ differs))))
  ]
    where
      true_false : true ≡ false → ⊥
      true_false e = cc

-- a call of a worker, and one that is not its own or was refused
both_true : (a b : Bool) → a ≡ true → (a && b) ≡ false → b ≡ false
both_true true b one none = none
both_true false b one none = cc

pub call_counted : (d : DefinitionData) (c : Call) (old new : PassState) → c.worker ≡ old.ledger.worker → Counts d c.site c.arguments old.ledger new.ledger → MakesCall d c old new
call_counted d c old new own counts = record {
  worker = same_worker d c.site c.arguments old.ledger new.ledger counts 0;
  hit = λ j hit. hit_once d c.site c.arguments old.ledger new.ledger counts j;
  miss = λ j none. not_hit d c.site c.arguments old.ledger new.ledger counts j (both_true (c.worker == old.ledger.worker) (hits d c.site c.arguments j) ((Decides-eqb c.worker old.ledger.worker).1 own) none);
}

pub nothing_counted : (d : DefinitionData) (c : Call) (old new : PassState) → new.ledger ≡ old.ledger → MakesCall d c old new
nothing_counted d c old new same =
    let stays : (j : ℕ) → made new.ledger j ≤ made old.ledger j = λ j. let is = ap (λ (x : LedgerState). made x j) same in omega (arith, is) in
    record {
      worker = ap (λ (x : LedgerState). x.worker) same;
      hit = λ j hit. let before = stays j in omega (arith, before);
      miss = λ j none. stays j;
    }

-- a call that was answered or refused
pub call_made : {X Y : Type 0} (d : DefinitionData) (c : Call) (a : List Value) (old new : PassState) (r : Result X Y) → c.worker ≡ old.ledger.worker → a ≡ c.arguments
    → OnOk r (Counts d c.site a old.ledger new.ledger) → OnErr r (new.ledger ≡ old.ledger) → MakesCall d c old new
call_made d c a old new (Ok x) own same counted kept = call_counted d c old new own (subst (λ b. Counts d c.site b old.ledger new.ledger) same counted)
call_made d c a old new (Err e) own same counted kept = nothing_counted d c old new kept

-- one call more of a list
module _ (d : DefinitionData) (calls : List Call) (w i j : ℕ) (call : Call) (inside : i < length calls) (is : get_or calls i call ≡ call) where
  abbrev so_far : ℕ → ℕ
  so_far n = count_by (hits_by d w j) (take n calls)

  pub counted_more : (first l new : ℕ) → l ≤ first + so_far i → (hits_by d w j call ≡ true → new ≤ l + 1) → (hits_by d w j call ≡ false → new ≤ l) → new ≤ first + so_far (i + 1)
  counted_more first l new before when_hit when_missed = elim (either (hits_by d w j call)) [
    | inl hit ↦
        let more = count_by_more_yes (hits_by d w j) calls i call inside (ap (hits_by d w j) is ∙ hit) in
        let one = when_hit hit in
        omega (arith, more, one, before)
    | inr none ↦
        let more = count_by_more_no (hits_by d w j) calls i call inside (ap (hits_by d w j) is ∙ none) in
        let same = when_missed none in
        omega (arith, more, same, before)
  ]

-- a flush makes no hit
at_added : (xs ys : List ℕ) (j : ℕ) → at (added xs ys) j ≤ at xs j + at ys j
at_added [] ys j = omega arith
at_added (x ∷ xs) [] j = omega arith
at_added (x ∷ xs) (y ∷ ys) zero = omega arith
at_added (x ∷ xs) (y ∷ ys) (suc j) = at_added xs ys j

pub at_zeros : (n j : ℕ) → at (replicate n 0) j ≡ 0
at_zeros zero j = refl
at_zeros (suc n) zero = refl
at_zeros (suc n) (suc j) = at_zeros n j

pub flush_makes_none : (l : LedgerState) (j : ℕ) → made (settled l) j ≤ made l j
flush_makes_none l j = omega (arith, at_added l.flushed l.unflushed j, at_zeros (length l.unflushed) j)

pub record Flushes (old new : PassState) : Type 0 where
  pub worker : new.ledger.worker ≡ old.ledger.worker
  pub hit : (j : ℕ) → made new.ledger j ≤ made old.ledger j

-- accepted or refused
pub flush_made : {X Y : Type 0} (old new : PassState) (r : Result X Y) → OnOk r (new.ledger ≡ settled old.ledger) → OnErr r (new ≡ old) → Flushes old new
flush_made old new (Ok x) flushed kept = record {
  worker = ap (λ (l : LedgerState). l.worker) flushed;
  hit = λ j. let is = ap (λ (l : LedgerState). made l j) flushed in omega (arith, is, flush_makes_none old.ledger j);
}
flush_made old new (Err e) flushed kept = record {
  worker = ap (λ (p : PassState). p.ledger.worker) kept;
  hit = λ j. let is = ap (λ (p : PassState). made p.ledger j) kept in omega (arith, is);
}

-- one round more
pub round_made : (d : DefinitionData) (calls : List Call) (rounds : ℕ) (first old mid new : PassState) → HasWorked d calls rounds first old → HasCalled d calls old mid → Flushes mid new
    → HasWorked d calls (rounds + 1) first new
round_made d calls rounds first old mid new before called flushed = record {
  worker = flushed.worker ∙ (called.worker ∙ before.worker);
  hit = λ j.
      let w = before.worker in
      let one = called.hit j in
      let last = flushed.hit j in
      let far = before.hit j in
      let same = ap (λ v. times_hit d calls v j) w in
      omega (arith, one, last, far, same);
}
