-- Ledgers that are exchanged, and exchanged back, by any owners that have one each.
use Rattle.std.proofs.Common.{◌≡◌, ◌<◌, ◌≤◌, ◌+◌, ◌∙◌, ◌⊎◌, inl, inr, ℕ, zero, suc, List, [], ◌∷◌, ap, arith, length, map, refl, slice_index_or, subst, sym}
use Rattle.std.proofs.Common.{Result, Ok, Err}
use Rattle.std.specs.List.{All}
use Rattle.std.specs.Prelude.{OnErr, OnOk}
use Rattle.std.proofs.lemmas.Bool.{cases_lt}
use Rattle.std.proofs.lemmas.List.{ext_get_or, get_or-map, length-map}
use Rattle.mh_ledger.specs.Ledgers.{LedgerState, ledger_at, no_ledger}
use Rattle.mh_ledger.specs.Renewals.{renewed_ledger}
use Rattle.mh_ledger.specs.declared.old_hits.OldHits.{OldHits}
use Rattle.mh_core.specs.declared.refusal.Refusal.{Refusal}
use Rattle.mh_share.specs.Renewals.{with_each}

-- a fact of all numbers before one and of that one holds of all before the next
pub one_more : (P : ℕ → Type 0) (n : ℕ) → ((w : ℕ) → w < n → P w) → P n → (w : ℕ) → w < n + 1 → P w
one_more P n before there w lt =
    elim (cases_lt w n) [
      | inl less ↦ before w less
      | inr more ↦ let same : n ≡ w = omega (arith, lt, more) in subst P same there
    ]

module _ {C : Type 0} (get : C → LedgerState) (put : C → LedgerState → C) where
  abbrev at_place : C → List C → ℕ → C
  at_place none cs w = slice_index_or cs w none

  -- the ledger at an index is that of the owner there
  pub ledger_there : (cs : List C) (w : ℕ) (d : C) → w < length cs → ledger_at (map get cs) w ≡ get (slice_index_or cs w d)
  ledger_there cs w d lt = get_or-map get cs w d no_ledger lt

  length-with : (cs : List C) (ls : List LedgerState) → length (with_each put cs ls) ≡ length cs
  length-with [] ls = refl
  length-with (c ∷ cs) [] = refl
  length-with (c ∷ cs) (l ∷ ls) = omega (arith, length-with cs ls)

  at-with : (none : C) (cs : List C) (ls : List LedgerState) (w : ℕ) → w < length cs → w < length ls → at_place none (with_each put cs ls) w ≡ put (at_place none cs w) (ledger_at ls w)
  at-with none [] ls w lt inside = absurd (omega (arith, lt))
  at-with none (c ∷ cs) [] w lt inside = absurd (omega (arith, inside))
  at-with none (c ∷ cs) (l ∷ ls) zero lt inside = refl
  at-with none (c ∷ cs) (l ∷ ls) (suc w) lt inside = at-with none cs ls w (omega (arith, lt)) (omega (arith, inside))

  -- after each has another ledger
  pub all_with : (none : C) (cs new : List C) (ls : List LedgerState) → length ls ≡ length cs → length new ≡ length cs
      → ((w : ℕ) → w < length cs → at_place none new w ≡ put (at_place none cs w) (ledger_at ls w)) → new ≡ with_each put cs ls
  all_with none cs new ls count same each =
      ext_get_or none _ _ (same ∙ sym (length-with cs ls))
      (λ w inside. each w (omega (arith, inside, same)) ∙ sym (at-with none cs ls w (omega (arith, inside, same)) (omega (arith, inside, same, count))))

  -- after each ledger is that of the owner at its index
  pub all_taken : (none : C) (cs : List C) (new : List LedgerState) → length new ≡ length cs
      → ((w : ℕ) → w < length cs → ledger_at new w ≡ get (at_place none cs w)) → new ≡ map get cs
  all_taken none cs new same each =
      ext_get_or no_ledger _ _ (same ∙ sym (length-map cs get))
      (λ w inside. each w (omega (arith, inside, same)) ∙ sym (ledger_there cs w none (omega (arith, inside, same))))

  pub ledgers_with : ((c : C) (l : LedgerState) → get (put c l) ≡ l) → (cs : List C) (ls : List LedgerState) → length ls ≡ length cs → map get (with_each put cs ls) ≡ ls
  ledgers_with has [] [] count = refl
  ledgers_with has [] (l ∷ ls) count = absurd (omega (arith, count))
  ledgers_with has (c ∷ cs) [] count = absurd (omega (arith, count))
  ledgers_with has (c ∷ cs) (l ∷ ls) count =
      ap (λ (x : LedgerState). x ∷ map get (with_each put cs ls)) (has c l) ∙ ap (λ (rest : List LedgerState). l ∷ rest) (ledgers_with has cs ls (omega (arith, count)))

  -- each has its own ledger again, as this function left it
  pub again : ((c : C) (l m : LedgerState) → put (put c l) m ≡ put c m) → (f : LedgerState → LedgerState) (cs : List C) (ls : List LedgerState) → length ls ≡ length cs
      → with_each put (with_each put cs ls) (map f (map get cs)) ≡ map (λ c. put c (f (get c))) cs
  again over f [] ls count = refl
  again over f (c ∷ cs) [] count = absurd (omega (arith, count))
  again over f (c ∷ cs) (l ∷ ls) count =
      ap (λ (x : C). x ∷ with_each put (with_each put cs ls) (map f (map get cs))) (over c l (f (get c)))
      ∙ ap (λ (rest : List C). put c (f (get c)) ∷ rest) (again over f cs ls (omega (arith, count)))

  pub back : ((c : C) (l m : LedgerState) → put (put c l) m ≡ put c m) → ((c : C) → put c (get c) ≡ c) → (cs : List C) (ls : List LedgerState) → length ls ≡ length cs
      → with_each put (with_each put cs ls) (map get cs) ≡ cs
  back over own [] ls count = refl
  back over own (c ∷ cs) [] count = absurd (omega (arith, count))
  back over own (c ∷ cs) (l ∷ ls) count =
      ap (λ (x : C). x ∷ with_each put (with_each put cs ls) (map get cs)) (over c l (get c) ∙ own c)
      ∙ ap (λ (rest : List C). c ∷ rest) (back over own cs ls (omega (arith, count)))

-- ledgers that are taken from their owners, who then have spare ones, and given back after a renewal
module _ {C : Type 0} (get : C → LedgerState) (put : C → LedgerState → C) (has : (c : C) (l : LedgerState) → get (put c l) ≡ l) (h : OldHits) (cs between : List C) (spare before now : List LedgerState) (count : length spare ≡ length cs) (gone : between ≡ with_each put cs spare) (taken : before ≡ map get cs) where
  -- the renewal renews them, or leaves them unchanged
  abbrev Renewed : Result (Unit {0}) Refusal → Type 0
  Renewed r = OnOk r (now ≡ map (renewed_ledger h) before) × OnErr r (now ≡ before)

  as_many : (r : Result (Unit {0}) Refusal) → Renewed r → length now ≡ length before
  as_many (Ok u) is = ap length is.0 ∙ length-map before (renewed_ledger h)
  as_many (Err e) is = ap length is.1

  as_large : (r : Result (Unit {0}) Refusal) → Renewed r → (w : ℕ) → w < length before → length (ledger_at now w).unflushed ≡ length (ledger_at before w).unflushed
  as_large (Ok u) is w lt =
      ap (λ (ls : List LedgerState). length (ledger_at ls w).unflushed) is.0
      ∙ ap (λ (l : LedgerState). length l.unflushed) (get_or-map (renewed_ledger h) before w no_ledger no_ledger lt)
  as_large (Err e) is w lt = ap (λ (ls : List LedgerState). length (ledger_at ls w).unflushed) is.1

  pub same_count : (r : Result (Unit {0}) Refusal) → Renewed r → length now ≡ length between
  same_count r is = as_many r is ∙ (ap length taken ∙ (length-map cs get ∙ (sym (length-with get put cs spare) ∙ sym (ap length gone))))

  pub same_links : (r : Result (Unit {0}) Refusal) → Renewed r → (links : ℕ) → ((w : ℕ) → w < length cs → length (ledger_at (map get cs) w).unflushed ≡ links)
      → All (λ l. length l.unflushed ≡ links) spare → (w : ℕ) → w < length between → length (ledger_at now w).unflushed ≡ length (ledger_at (map get between) w).unflushed
  same_links r is links sizes spares w inside =
      let less : w < length cs = omega (arith, inside, ap length gone, length-with get put cs spare) in
      let size : List LedgerState → ℕ = λ ls. length (ledger_at ls w).unflushed in
      as_large r is w (omega (arith, less, ap length taken, length-map cs get))
      ∙ (ap size taken ∙ (sizes w less ∙ (sym (spares w no_ledger (omega (arith, less, count))) ∙ ap size (sym (ap (map get) gone ∙ ledgers_with get put has cs spare count)))))

  pub ledgers_after : (after : List C) → after ≡ with_each put between now → length now ≡ length between → map get after ≡ now
  ledgers_after after given same = ap (map get) given ∙ ledgers_with get put has between now same

  pub all_renewed : ((c : C) (l m : LedgerState) → put (put c l) m ≡ put c m) → (after : List C) → after ≡ with_each put between now → (r : Result (Unit {0}) Refusal) → Renewed r
      → OnOk r (after ≡ map (λ c. put c (renewed_ledger h (get c))) cs)
  all_renewed over after given (Ok u) is =
      given
      ∙ (ap (λ (xs : List C). with_each put xs now) gone
      ∙ (ap (with_each put (with_each put cs spare)) (is.0 ∙ ap (map (renewed_ledger h)) taken) ∙ again get put over (renewed_ledger h) cs spare count))
  all_renewed over after given (Err e) is = tt

  pub all_kept : ((c : C) (l m : LedgerState) → put (put c l) m ≡ put c m) → ((c : C) → put c (get c) ≡ c) → (after : List C) → after ≡ with_each put between now → (r : Result (Unit {0}) Refusal)
      → Renewed r → OnErr r (after ≡ cs)
  all_kept over own after given (Ok u) is = tt
  all_kept over own after given (Err e) is =
      given
      ∙ (ap (λ (xs : List C). with_each put xs now) gone ∙ (ap (with_each put (with_each put cs spare)) (is.1 ∙ taken) ∙ back get put over own cs spare count))
