-- What the ledgers of a machine's workers have after one event more.
use Rattle.std.proofs.Common.{◌≡◌, ◌≢◌, inl, inr, ℕ, ◌+◌, ◌<◌, ◌==◌, ◌&&◌, Bool, true, false, cond, List, [], ◌∷◌, length, map, replicate, slice_set, refl, ap, sym, subst, ◌∙◌, arith}
use Rattle.std.specs.List.{range_with_len}
use Rattle.std.proofs.lemmas.Bool.{cases_eq, eq-eqb, ne_eqb}
use Rattle.std.proofs.lemmas.List.{ext_get_or, get_or-replicate, get_or-set_other, get_or-set_same, length-replicate, length-set}
use Rattle.std.proofs.lemmas.List.FromFn.{get_or-map-range_with_len, length-map-range_with_len}
use Rattle.mh_type.specs.declared.value.Value.{Value}
use Rattle.mh_ledger.specs.Ledgers.{LedgerState, at, ledger_at, no_ledger, opened_ledger, settled, with_hit}
use Rattle.mh_site.specs.Defined.{DefinitionData}
use Rattle.mh_site.specs.Links.{links}
use Rattle.mh_core.specs.declared.event.Event.{Event}
use Rattle.mh_core.specs.declared.event.Event.TheVariants.{Call, Flush}
use Rattle.std.specs.Prelude.{Option, Some, None}
use Rattle.mh_core.specs.Hits.{IsHitLink, hits, unflushed, unflushed_hits}
use Rattle.mh_core.specs.Machines.{AreCounted}
use Rattle.mh_core.specs.Runtimes.{CountsHit}
use Rattle.mh_core.specs.Laws.Numbered.{at_number, same_numbers}

-- ---- what a worker's numbers are
pub unflushed_length : (d : DefinitionData) (h : List Event) (w : ℕ) → length (unflushed_hits d h w) ≡ length (links d)
unflushed_length d h w = length-map-range_with_len (unflushed d h w) 0 (length (links d))

pub unflushed_at : (d : DefinitionData) (h : List Event) (w j : ℕ) → j < length (links d) → at (unflushed_hits d h w) j ≡ unflushed d h w j
unflushed_at d h w j inside = at_number (unflushed d h w) (length (links d)) j inside

-- a list with these numbers
pub is_unflushed : (d : DefinitionData) (h : List Event) (w : ℕ) (ns : List ℕ) → length ns ≡ length (links d) → ((j : ℕ) → j < length (links d) → at ns j ≡ unflushed d h w j) → ns ≡ unflushed_hits d h w
is_unflushed d h w ns count same =
    ext_get_or 0 ns (unflushed_hits d h w) (count ∙ sym (unflushed_length d h w))
    (λ j within. let inside : j < length (links d) = omega (arith, within, count) in same j inside ∙ sym (unflushed_at d h w j inside))

-- ---- all ledgers
-- an event that counts nothing
pub same_counted : (d : DefinitionData) (h more : List Event) (ledgers : List LedgerState) → AreCounted d h ledgers
    → ((w j : ℕ) → unflushed d more w j ≡ unflushed d h w j) → AreCounted d more ledgers
same_counted d h more ledgers are same w inside =
    are w inside ∙ same_numbers 0 (unflushed d h w) (unflushed d more w) (length (links d)) (λ j _. sym (same w j))

-- an event of a worker, whose ledger alone changes
pub set_counted : (d : DefinitionData) (h more : List Event) (ledgers : List LedgerState) (v : ℕ) (l : LedgerState) → AreCounted d h ledgers → v < length ledgers
    → l.unflushed ≡ unflushed_hits d more v → ((w j : ℕ) → w ≢ v → unflushed d more w j ≡ unflushed d h w j) → AreCounted d more (slice_set ledgers v l)
set_counted d h more ledgers v l are known own others w inside = elim (cases_eq w v) [
  | inl e ↦
      ap (λ (x : LedgerState). x.unflushed) (ap (ledger_at (slice_set ledgers v l)) e ∙ get_or-set_same ledgers v l no_ledger known)
      ∙ (own ∙ ap (unflushed_hits d more) (sym e))
  | inr e ↦
      ap (λ (x : LedgerState). x.unflushed) (get_or-set_other ledgers v w l no_ledger e)
      ∙ (are w (omega (arith, inside, length-set ledgers v l))
      ∙ same_numbers 0 (unflushed d h w) (unflushed d more w) (length (links d)) (λ j _. sym (others w j e)))
]

-- ---- a flush
pub flush_empties : (d : DefinitionData) (h : List Event) (v : ℕ) (l : LedgerState) → length l.unflushed ≡ length (links d) → (settled l).unflushed ≡ unflushed_hits d (Flush v ∷ h) v
flush_empties d h v l count =
    is_unflushed d (Flush v ∷ h) v (replicate (length l.unflushed) 0) (length-replicate (length l.unflushed) 0 ∙ count)
    (λ j inside. get_or-replicate (length l.unflushed) j 0 0 (omega (arith, inside, count)) ∙ sym (ap (λ (t : Bool). cond t 0 (unflushed d h v j)) (eq-eqb v v refl)))

pub flush_of_others : (d : DefinitionData) (h : List Event) (v w j : ℕ) → w ≢ v → unflushed d (Flush v ∷ h) w j ≡ unflushed d h w j
flush_of_others d h v w j e = ap (λ (t : Bool). cond t 0 (unflushed d h w j)) (ne_eqb v w (λ f. e (sym f)))

-- ---- a call
module _ (d : DefinitionData) (h : List Event) (v s : ℕ) (a : List Value) where
  abbrev called : List Event
  called = Call v s a ∷ h

  pub call_of_others : (w j : ℕ) → w ≢ v → unflushed d called w j ≡ unflushed d h w j
  call_of_others w j e = ap (λ (t : Bool). cond (t && hits d s a j) (unflushed d h w j + 1) (unflushed d h w j)) (ne_eqb v w (λ f. e (sym f)))

  -- which of its links a call counts
  pub own_call : (j : ℕ) → unflushed d called v j ≡ cond (hits d s a j) (unflushed d h v j + 1) (unflushed d h v j)
  own_call j = ap (λ (t : Bool). cond (t && hits d s a j) (unflushed d h v j + 1) (unflushed d h v j)) (eq-eqb v v refl)

  pub no_hit : ((j : ℕ) → hits d s a j ≡ false) → (w j : ℕ) → unflushed d called w j ≡ unflushed d h w j
  no_hit none w j = by_test (v == w)
    where
      by_test : (t : Bool) → cond (t && hits d s a j) (unflushed d h w j + 1) (unflushed d h w j) ≡ unflushed d h w j
      by_test true = ap (λ (u : Bool). cond u (unflushed d h w j + 1) (unflushed d h w j)) (none j)
      by_test false = refl

  pub hit_counts : (l : LedgerState) (k : ℕ) → k < length (links d) → l.unflushed ≡ unflushed_hits d h v → hits d s a k ≡ true → ((i : ℕ) → hits d s a i ≡ true → i ≡ k)
      → (with_hit l k).unflushed ≡ unflushed_hits d called v
  hit_counts l k known same hit alone =
      let count : length l.unflushed ≡ length (links d) = ap length same ∙ unflushed_length d h v in
      is_unflushed d called v (slice_set l.unflushed k (at l.unflushed k + 1)) (length-set l.unflushed k _ ∙ count)
      (λ j inside.
      let before : at l.unflushed j ≡ unflushed d h v j = ap (λ (ns : List ℕ). at ns j) same ∙ unflushed_at d h v j inside in
      elim (cases_eq j k) [
        | inl e ↦
            let one : hits d s a j ≡ true = ap (hits d s a) e ∙ hit in
            let last : at l.unflushed k ≡ unflushed d h v j = ap (at l.unflushed) (sym e) ∙ before in
            ap (at (slice_set l.unflushed k (at l.unflushed k + 1))) e
            ∙ (get_or-set_same l.unflushed k (at l.unflushed k + 1) 0 (omega (arith, known, count))
            ∙ (ap (λ n. n + 1) last ∙ sym (own_call j ∙ ap (λ (t : Bool). cond t (unflushed d h v j + 1) (unflushed d h v j)) one)))
        | inr e ↦
            let none : hits d s a j ≡ false = other j e in
            get_or-set_other l.unflushed k j (at l.unflushed k + 1) 0 e ∙ (before ∙ sym (own_call j ∙ ap (λ (t : Bool). cond t (unflushed d h v j + 1) (unflushed d h v j)) none))
      ])
    where
      other : (j : ℕ) → j ≢ k → hits d s a j ≡ false
      other j e = by_test (hits d s a j) refl
        where
          by_test : (t : Bool) → hits d s a j ≡ t → t ≡ false
          by_test true f = absurd (e (alone j f))
          by_test false f = refl

-- the ledgers after a call
pub call_counted : (d : DefinitionData) (h : List Event) (ledgers new : List LedgerState) (v s : ℕ) (a : List Value) (link : Option ℕ) → AreCounted d h ledgers → v < length ledgers
    → IsHitLink d s a link → CountsHit d v s a ledgers new → AreCounted d (Call v s a ∷ h) new
call_counted d h ledgers new v s a (Some k) are known hit counts =
    subst (AreCounted d (Call v s a ∷ h)) (sym (counts.hit k hit.1.0))
    (set_counted d h (Call v s a ∷ h) ledgers v (with_hit (ledger_at ledgers v) k) are known
    (hit_counts d h v s a (ledger_at ledgers v) k hit.0 (are v known) hit.1.0 hit.1.1)
    (λ w j e. call_of_others d h v s a w j e))
call_counted d h ledgers new v s a None are known hit counts =
    subst (AreCounted d (Call v s a ∷ h)) (sym (counts.none hit)) (same_counted d h (Call v s a ∷ h) ledgers are (λ w j. no_hit d h v s a hit w j))

-- the ledgers after a flush
pub flush_counted : (d : DefinitionData) (h : List Event) (ledgers : List LedgerState) (v : ℕ) → AreCounted d h ledgers → v < length ledgers
    → AreCounted d (Flush v ∷ h) (slice_set ledgers v (settled (ledger_at ledgers v)))
flush_counted d h ledgers v are known =
    set_counted d h (Flush v ∷ h) ledgers v (settled (ledger_at ledgers v)) are known
    (flush_empties d h v (ledger_at ledgers v) (ap length (are v known) ∙ unflushed_length d h v))
    (λ w j e. flush_of_others d h v w j e)

-- ---- before any event
pub opened_counted : (d : DefinitionData) (limit workers : ℕ) → AreCounted d [] (map (opened_ledger (length (links d)) limit) (range_with_len 0 workers))
opened_counted d limit workers w inside =
    let n = length (links d) in
    let opened = opened_ledger n limit in
    let known : w < workers = omega (arith, inside, length-map-range_with_len opened 0 workers) in
    ap (λ (l : LedgerState). l.unflushed) (get_or-map-range_with_len opened 0 workers w w no_ledger known (omega arith))
    ∙ is_unflushed d [] w (replicate n 0) (length-replicate n 0) (λ j within. get_or-replicate n j 0 0 within)
