-- Sums over passes, of which each worker has one.
use Rattle.std.proofs.Common.{◌≡◌, ℕ, zero, suc, ◌+◌, ◌*◌, ◌<◌, ◌≤◌, ◌^◌, ◌==◌, nat_lt, Bool, true, false, cond, List, [], ◌∷◌, length, get_or, take, map, refl, ap, sym, ◌∙◌, arith, subst, add-one}
use Rattle.std.specs.Prelude.{reverse}
use Rattle.std.specs.List.{All, count_by, range_with_len, sum_by}
use Rattle.std.proofs.lemmas.List.{take_all}
use Rattle.std.proofs.lemmas.List.Elements.{All-head, All-tail, All-weaker}
use Rattle.std.proofs.lemmas.List.Sums.{sum_by-cons, sum_by_more}
use Rattle.std.proofs.lemmas.Bool.Decides.{nat_tests}
use Rattle.std.proofs.lemmas.List.FromFn.{get_or-map-range_with_len, length-map-range_with_len}
use Rattle.mh_ledger.specs.Ledgers.{TotalsState, Holds, IsTotals, at, made, share_of}
use Rattle.mh_site.specs.Defined.{DefinitionData}
use Rattle.mh_site.specs.Links.{links}
use Rattle.mh_site.specs.declared.control.Control.{Control}
use Rattle.mh_core.specs.Books.{BookState}
use Rattle.mh_core.specs.Limits.{LimitsData}
use Rattle.mh_core.specs.Replayed.{controls}
use Rattle.mh_live.specs.Offices.{OfficeState}
use Rattle.mh_live.specs.Passes.{PassState}
use Rattle.mh_live.specs.Receipts.{IsOffice}
use Rattle.mh_live.specs.Settled.{AreBack, IsSettled, IsUnsettled, IsUnsettledBy, IsWithin, SettledState, Settles, made_by, unflushed_by}
use Rattle.mh_live.specs.declared.settle_fault.SettleFault.{SettleFault}
use Rattle.mh_live.proofs.Receiving.{totals_of}

module _ {X : Type 0} (key : X → ℕ) (g : ℕ → ℕ) where
  abbrev below : ℕ → X → ℕ
  below n x = cond (nat_lt (key x) n) (g (key x)) 0

  one_more : (n w : ℕ) → cond (nat_lt w (n + 1)) (g w) 0 ≡ cond (nat_lt w n) (g w) 0 + cond (w == n) 1 0 * g n
  one_more n w = by_tests (nat_lt w (n + 1)) (nat_lt w n) (w == n) refl refl refl
    where
      by_tests : (a b c : Bool) → nat_lt w (n + 1) ≡ a → nat_lt w n ≡ b → (w == n) ≡ c → cond a (g w) 0 ≡ cond b (g w) 0 + cond c 1 0 * g n
      by_tests true true true e f h = absurd (grind (arith, nat_tests))
      by_tests true true false e f h = omega arith
      by_tests true false true e f h = let same : w ≡ n = grind (arith, nat_tests) in omega (arith, ap g same)
      by_tests true false false e f h = absurd (grind (arith, nat_tests))
      by_tests false true c e f h = absurd (grind (arith, nat_tests))
      by_tests false false true e f h = absurd (grind (arith, nat_tests))
      by_tests false false false e f h = omega arith

  sum_more : (n : ℕ) (xs : List X) → sum_by (below (n + 1)) xs ≡ sum_by (below n) xs + count_by (λ x. key x == n) xs * g n
  sum_more n [] = omega arith
  sum_more n (x ∷ xs) =
      omega (arith, one_more n (key x), sum_more n xs, ap (λ k. k * g n) (sum_by-cons (λ y. cond (key y == n) 1 0) x xs), sum_by-cons (below (n + 1)) x xs, sum_by-cons (below n) x xs)

  sum_none : (xs : List X) → sum_by (below 0) xs ≡ 0
  sum_none [] = refl
  sum_none (x ∷ xs) = let none : nat_lt (key x) 0 ≡ false = grind (arith, nat_tests) in omega (arith, sum_by-cons (below 0) x xs, ap (λ b. cond b (g (key x)) 0) none, sum_none xs)

  sum_all : (n : ℕ) (xs : List X) → All (λ x. key x < n) xs → sum_by (below n) xs ≡ sum_by (λ x. g (key x)) xs
  sum_all n [] all = refl
  sum_all n (x ∷ xs) all =
      let lt : key x < n = All-head (λ y. key y < n) x xs all in
      let here : nat_lt (key x) n ≡ true = grind (arith, nat_tests) in
      omega (arith, sum_by-cons (below n) x xs, sum_by-cons (λ y. g (key y)) x xs, ap (λ b. cond b (g (key x)) 0) here, sum_all n xs (All-tail (λ y. key y < n) x xs all))

-- a sum over elements whose keys are the places of a list, each once, is that over the list
module _ {X Y : Type 0} (key : X → ℕ) (h : Y → ℕ) (ys : List Y) (d : Y) where
  abbrev told : ℕ → ℕ
  told w = h (get_or ys w d)

  sum_once : (n : ℕ) (xs : List X) → n ≤ length ys → ((w : ℕ) → w < n → count_by (λ x. key x == w) xs ≡ 1) → sum_by (below key told n) xs ≡ sum_by h (take n ys)
  sum_once zero xs le once = sum_none key told xs
  sum_once (suc n) xs le once =
      let rest = sum_once n xs (omega arith) (λ w lt. once w (omega arith)) in
      let one : count_by (λ x. key x == n) xs ≡ 1 = once n (omega arith) in
      let more = sum_more key told n xs in
      let longer = sum_by_more h ys n d (omega arith) in
      rw (← add-one) (more ∙ (omega (arith, rest, ap (λ k. k * told n) one) ∙ sym longer))

  pub sum_of_places : (xs : List X) → All (λ x. key x < length ys) xs → ((w : ℕ) → w < length ys → count_by (λ x. key x == w) xs ≡ 1) → sum_by (λ x. told (key x)) xs ≡ sum_by h ys
  sum_of_places xs all once =
      sym (sum_all key told (length ys) xs all) ∙ (sum_once (length ys) xs (omega arith) once ∙ ap (sum_by h) (take_all (length ys) ys (omega arith)))

-- ---- passes that are all back
pub held_total : (t : TotalsState) (passes : List PassState) (j : ℕ) → IsTotals t → AreBack t passes → at t.total j ≡ sum_by (λ p. at p.ledger.flushed j) passes
held_total t passes j is back =
    is.sums j
    ∙ (sym (sum_of_places (λ (p : PassState). p.ledger.worker) (λ (share : List ℕ). at share j) t.shares [] passes (All-weaker (λ (p : PassState). Holds t p.ledger) _ (λ p held. held.0) passes back.held) back.once)
    ∙ same_sums passes back.held)
  where
    same_sums : (ps : List PassState) → All (λ p. Holds t p.ledger) ps → sum_by (λ p. at (share_of t p.ledger.worker) j) ps ≡ sum_by (λ p. at p.ledger.flushed j) ps
    same_sums [] held = refl
    same_sums (p ∷ ps) held =
        let here : Holds t p.ledger = All-head (λ (q : PassState). Holds t q.ledger) p ps held in
        let rest = same_sums ps (All-tail (λ (q : PassState). Holds t q.ledger) p ps held) in
        omega (arith, sum_by-cons (λ (q : PassState). at (share_of t q.ledger.worker) j) p ps, sum_by-cons (λ (q : PassState). at q.ledger.flushed j) p ps, ap (λ share. at share j) here.1, rest)

made_is_sum : (j : ℕ) (passes : List PassState) → made_by passes j ≡ sum_by (λ p. at p.ledger.flushed j) passes + unflushed_by passes j
made_is_sum j [] = omega arith
made_is_sum j (p ∷ ps) =
    omega (arith, made_is_sum j ps, sum_by-cons (λ (q : PassState). made q.ledger j) p ps, sum_by-cons (λ (q : PassState). at q.ledger.flushed j) p ps, sum_by-cons (λ (q : PassState). at q.ledger.unflushed j) p ps)

-- what passes made is the total and what they did not flush
pub held_made : (t : TotalsState) (passes : List PassState) (j : ℕ) → IsTotals t → AreBack t passes → at t.total j + unflushed_by passes j ≡ made_by passes j
held_made t passes j is back = omega (arith, held_total t passes j is back, made_is_sum j passes)

-- ---- what is settled
module _ (d : DefinitionData) (l : LimitsData) (workers : ℕ) (o : OfficeState) (passes : List PassState) (hits : List ℕ) (office : IsOffice d l workers o) (is : IsTotals o.book.totals) (back : AreBack o.book.totals passes)
    (value : hits ≡ map (unflushed_by passes) (range_with_len 0 (length o.book.totals.total))) (b : BookState) (f : List Control) (book : b ≡ o.book) (front : f ≡ o.published) where
  abbrev state : BookState → List Control → SettledState
  state x l = record { book = x; unflushed = hits; front = l }

  links_count : length o.book.totals.total ≡ length (links d)
  links_count = office.lawful.totals.count ∙ ap (λ (x : DefinitionData). length (links x)) office.definition

  pub settled_of : All (λ n. n ≤ 2 ^ 126) hits → IsSettled d l workers (state b f)
  settled_of within =
      subst (λ (x : BookState). IsSettled d l workers (state x f)) (sym book)
      (subst (λ (cs : List Control). IsSettled d l workers (state o.book cs)) (sym front)
      record {
        lawful = office.lawful;
        definition = office.definition;
        limits = office.limits;
        shares = office.shares;
        links_are = ap length value ∙ (length-map-range_with_len (unflushed_by passes) 0 (length o.book.totals.total) ∙ links_count);
        within = within;
        shows = office.shows;
      })

  unflushed_is : (j : ℕ) → j < length (links d) → at hits j ≡ unflushed_by passes j
  unflushed_is j h = ap (λ (l : List ℕ). at l j) value ∙ get_or-map-range_with_len (unflushed_by passes) 0 (length o.book.totals.total) j j 0 (omega (arith, h, links_count)) (omega arith)

  pub settles_of : All (IsWithin f) passes → Settles d passes (state b f)
  settles_of fronts =
      subst (λ (x : BookState). Settles d passes (state x f)) (sym book)
      record {
        back = back;
        unflushed_is = unflushed_is;
        made_is = λ j h. omega (arith, unflushed_is j h, held_made o.book.totals passes j is back);
        fronts = fronts;
      }

-- what is not settled
pub unsettled_of : (d : DefinitionData) (l : LimitsData) (workers : ℕ) (o : OfficeState) (passes : List PassState) (fault : SettleFault) → IsOffice d l workers o → IsTotals o.book.totals
    → All (IsWithin o.published) passes → IsUnsettledBy o.book.totals passes fault → IsUnsettled d l workers passes fault
unsettled_of d l workers o passes fault office is fronts told =
    let list : o.published ≡ reverse (controls d o.book.records) = office.shows ∙ ap (λ (x : DefinitionData). reverse (controls x o.book.records)) office.definition in
    record {
      totals = o.book.totals;
      are = totals_of d l workers o office is;
      fronts = subst (λ (cs : List Control). All (IsWithin cs) passes) list fronts;
      told = told;
    }
