-- What a book keeps when it begins a new history.
use Rattle.std.proofs.Common.{Bool, true, false, cond, nat_lt, ◌≡◌, ℕ, zero, suc, ◌+◌, ◌<◌, ◌≤◌, List, [], ◌∷◌, ◌++◌, length, map, take, not, filter, slice_index_or, refl, ap, sym, subst, ◌∙◌, arith, add-one}
use Rattle.std.specs.Prelude.{reverse}
use Rattle.std.specs.List.{All, sum_by}
use Rattle.std.proofs.Math.Seq.{take-length}
use Rattle.std.proofs.lemmas.Bool.{ltb-false}
use Rattle.std.proofs.lemmas.Bool.Decides.{nat_tests}
use Rattle.std.proofs.lemmas.List.{append-nil, get_or-map, length-map, take_more}
use Rattle.std.proofs.lemmas.List.Elements.{All-filter, filter-append}
use Rattle.std.proofs.lemmas.List.FromFn.{get_or-map-range_with_len, get_or-range_with_len, length-map-range_with_len, length-range_with_len}
use Rattle.std.proofs.lemmas.List.Sums.{sum_by-append, sum_by-le-sum_by, sum_by_more_le}
use Rattle.mh_tree.specs.Typing.{IsTyped}
use Rattle.mh_ledger.specs.declared.old_hits.OldHits.{OldHits}
use Rattle.mh_ledger.specs.Ledgers.{at, ledger_at, no_ledger, AreHeld, IsTotals, LedgerState, TotalsState}
use Rattle.mh_ledger.specs.Renewals.{left_of, renewed_ledger, renewed_shares, renewed_totals}
use Rattle.mh_ledger.specs.Laws.{left_most, left_total}
use Rattle.mh_site.specs.Defined.{DefinitionData}
use Rattle.mh_site.specs.Links.{links}
use Rattle.mh_site.specs.Worlds.{WorldState, opened, replay}
use Rattle.mh_site.specs.declared.control.Control.{Control}
use Rattle.mh_site.specs.declared.control.Control.TheVariants as control
use Rattle.mh_core.specs.declared.record.Record.{Record}
use Rattle.mh_core.specs.declared.record.Record.TheVariants.{Flushed, Invalidated}
use Rattle.mh_core.specs.Books.{AreTotals, BookState, IsBook, Legal}
use Rattle.mh_core.specs.Installations.{PublishedPlan}
use Rattle.mh_core.specs.Limits.{LimitsData}
use Rattle.mh_core.specs.Records.{base, hits_in, numbers, total}
use Rattle.mh_core.specs.Renewals.{carried, fallen, is_valid_anew, renewed, renewed_records}
use Rattle.mh_core.specs.Replayed.{world}
use Rattle.mh_core.specs.Snapshots.{SnapshotState}
use Rattle.mh_core.specs.Runtimes.{IsRuntime}
use Rattle.mh_core.proofs.HitCounts.{hits_counted}
use Rattle.mh_core.specs.Laws.Renewing.{length_carried, new_controls, new_plans, new_snapshots, renewed_lawful, renewed_links}

-- ---- hits
pub total_carried : (r : List Record) (shares : List (List ℕ)) (n j : ℕ) → n ≤ length shares → total (carried r shares n) j ≡ total r j + sum_by (λ share. at share j) (take n shares)
total_carried r shares zero j h = omega arith
total_carried r shares (suc n) j h =
    let f : List ℕ → ℕ = λ share. at share j in
    let before = total_carried r shares n j (omega arith) in
    let own = hits_counted (slice_index_or shares n []) j in
    let more : sum_by f (take (suc n) shares) ≡ sum_by f (take n shares) + (0 + f (slice_index_or shares n [])) =
    ap (λ k. sum_by f (take k shares)) (sym (add-one n)) ∙ (ap (sum_by f) (take_more shares n [] (omega arith)) ∙ sum_by-append f (take n shares) (slice_index_or shares n [] ∷ [])) in
    omega (arith, before, own, more)

-- only the shares that are carried matter
pub carried_same : (r : List Record) (xs ys : List (List ℕ)) (n : ℕ) → ((w : ℕ) → w < n → slice_index_or xs w [] ≡ slice_index_or ys w []) → carried r xs n ≡ carried r ys n
carried_same r xs ys zero same = refl
carried_same r xs ys (suc n) same =
    ap (λ (share : List ℕ). Flushed n (hits_in share) ∷ carried r xs n) (same n (omega arith))
    ∙ ap (λ (older : List Record). Flushed n (hits_in (slice_index_or ys n [])) ∷ older) (carried_same r xs ys n (λ w h. same w (omega arith)))

abbrev pub the_book : LimitsData → DefinitionData → List Record → WorldState → TotalsState → List SnapshotState → List PublishedPlan → Bool → BookState
the_book l d r w t s p k = record { definition = d; limits = l; records = r; world = w; totals = t; snapshots = s; plans = p; room = k }

pub all_fallen : (f : ℕ → Bool) (n : ℕ) → All (λ p. p < n) (filter f (numbers n))
all_fallen f n = All-filter f (λ p. p < n) (numbers n) (λ k e within. below n k e within)
  where
    below : (n k e : ℕ) → k < length (numbers n) → slice_index_or (numbers n) k e < n
    below n k e within =
        let inside : k < n = omega (arith, within, length-range_with_len 0 n) in
        let read = get_or-range_with_len 0 n k e inside in
        omega (arith, read, inside)

module _ (b : BookState) (again : List ℕ) (h : OldHits) (is : IsBook b) (counted : IsTotals b.totals) (room : length b.totals.shares < b.limits.history) where
  abbrev d : DefinitionData
  d = renewed b.definition b.records again

  abbrev shares : List (List ℕ)
  shares = renewed_shares h b.totals

  abbrev first : List Record
  first = Invalidated (fallen b.definition b.records again) ∷ []

  abbrev r : List Record
  r = renewed_records b.definition b.records again shares

  count : length shares ≡ length b.totals.shares
  count = length-map b.totals.shares (map (left_of h))

  links_same : length (links d) ≡ length (links b.definition)
  links_same = ap length (renewed_links b.definition b.records again)

  known : (j : ℕ) → j < length (links d) → j < length b.totals.total
  known j inside = omega (arith, inside, links_same, is.totals.count)

  sum_now : (j : ℕ) → j < length (links d) → at (renewed_totals h b.totals).total j ≡ sum_by (λ share. at share j) shares
  sum_now j inside = get_or-map-range_with_len (λ i. sum_by (λ share. at share i) shares) 0 (length b.totals.total) j j 0 (known j inside) (omega arith)

  within : (j : ℕ) → j < length (links d) → sum_by (λ share. at share j) shares ≤ b.limits.total
  within j inside =
      let now = sum_now j inside in
      let left = left_total h b.totals counted j in
      let most = sum_by-le-sum_by (λ share. left_of h (at share j)) (λ share. at share j) b.totals.shares (λ share. left_most h (at share j)) in
      let was = counted.sums j in
      let bound : at b.totals.total j ≤ b.totals.limit = counted.within j 0 (known j inside) in
      let limit = is.totals.limit in
      omega (arith, now, left, most, was, bound, limit)

  legal_carried : (n : ℕ) → n ≤ length shares → Legal d b.limits (carried first shares n)
  legal_carried zero few = ((0, (omega arith, (all_fallen (λ p. not (is_valid_anew b.records again p)) (length b.definition.points), (omega (arith, room), tt)))), tt)
  legal_carried (suc n) few =
      let len = length_carried first shares n in (
        (
          1 + n,
          (
            omega (arith, len),
            (
              omega (arith, few, count, room),
              (
                (λ j inside.
                    let f : List ℕ → ℕ = λ share. at share j in
                    let so_far = total_carried first shares n j (omega arith) in
                    let own = hits_counted (slice_index_or shares n []) j in
                    let part = sum_by_more_le f shares n [] (omega arith) in
                    let whole = within j inside in
                    omega (arith, so_far, own, part, whole)),
                tt,
              ),
            ),
          ),
        ),
        legal_carried n (omega arith),
      )

  pub renewed_totals_are : AreTotals d b.limits r (renewed_totals h b.totals)
  renewed_totals_are = record {
    count = length-map-range_with_len (λ i. sum_by (λ share. at share i) shares) 0 (length b.totals.total) ∙ (is.totals.count ∙ sym links_same);
    sums = λ j inside.
        let now = sum_now j inside in
        let all = total_carried first shares (length shares) j (omega arith) in
        let taken : sum_by (λ share. at share j) (take (length shares) shares) ≡ sum_by (λ share. at share j) shares = ap (sum_by (λ share. at share j)) (take-length shares) in
        omega (arith, now, all, taken);
    limit = is.totals.limit;
  }

  pub renewed_book : (w : WorldState) (k : Bool) → w ≡ world d r
      → IsBook record { definition = d; limits = b.limits; records = r; world = w; totals = renewed_totals h b.totals; snapshots = []; plans = []; room = k }
  renewed_book w k same = record {
    definition = renewed_lawful b.definition b.records again b.limits is.definition is.legal;
    limits = is.limits;
    legal = legal_carried (length shares) (omega arith);
    few = let len = length_carried first shares (length shares) in omega (arith, len, count, room);
    world = same;
    totals = renewed_totals_are;
    snapshots = sym (new_snapshots b.definition b.records again shares);
    plans = sym (new_plans b.definition b.records again shares);
  }

  -- the same, of what is put in place of what the book has
  pub begun : (d' : DefinitionData) (r' : List Record) (w : WorldState) (t : TotalsState) (s : List SnapshotState) (p : List PublishedPlan) (k : Bool)
      → d' ≡ d → r' ≡ r → w ≡ world d r → t ≡ renewed_totals h b.totals → s ≡ [] → p ≡ [] → IsBook (the_book b.limits d' r' w t s p k)
  begun d' r' w t s p k definition records same totals snapshots plans =
      subst (λ (x : DefinitionData). IsBook (the_book b.limits x r' w t s p k)) (sym definition)
      (subst (λ (x : List Record). IsBook (the_book b.limits d x w t s p k)) (sym records)
      (subst (λ (x : TotalsState). IsBook (the_book b.limits d r w x s p k)) (sym totals)
      (subst (λ (x : List SnapshotState). IsBook (the_book b.limits d r w (renewed_totals h b.totals) x p k)) (sym snapshots)
      (subst (λ (x : List PublishedPlan). IsBook (the_book b.limits d r w (renewed_totals h b.totals) [] x k)) (sym plans) (renewed_book w k same)))))

-- the world of the new history
pub renewed_world : (d : DefinitionData) (r : List Record) (again : List ℕ) (shares : List (List ℕ)) (w : WorldState)
    → w ≡ replay (opened (renewed d r again)) (control.Invalidate (fallen d r again) ∷ []) → w ≡ world (renewed d r again) (renewed_records d r again shares)
renewed_world d r again shares w same = same ∙ sym (ap (λ (cs : List Control). replay (opened (renewed d r again)) (reverse cs)) (new_controls d r again shares))

-- the shares that ledgers carry are those of the totals that hold them
pub ledger_shares : (h : OldHits) (t : TotalsState) (ledgers : List LedgerState) → AreHeld t ledgers → (first : List Record)
    → carried first (map (λ l. (renewed_ledger h l).flushed) ledgers) (length ledgers) ≡ carried first (renewed_shares h t) (length (renewed_shares h t))
ledger_shares h t ledgers are first =
    let left : List ℕ → List ℕ = map (left_of h) in
    let of_ledger : LedgerState → List ℕ = λ l. left l.flushed in
    let count : length (renewed_shares h t) ≡ length ledgers = length-map t.shares left ∙ sym are.count in
    carried_same first (map of_ledger ledgers) (renewed_shares h t) (length ledgers)
    (λ w inside.
    let held = are.held w inside in
    get_or-map of_ledger ledgers w no_ledger [] inside
    ∙ (ap left (sym held.1 ∙ ap (λ v. slice_index_or t.shares v []) (are.workers w inside)) ∙ sym (get_or-map left t.shares w [] [] (omega (arith, inside, are.count)))))
    ∙ ap (carried first (renewed_shares h t)) (sym count)

-- ---- trees
filter_step : (f : ℕ → Bool) (xs : List ℕ) (i x : ℕ) → i < length xs → x ≡ slice_index_or xs i x → filter f (take (i + 1) xs) ≡ filter f (take i xs) ++ cond (f x) (x ∷ []) []
filter_step f xs i x inside found =
    ap (filter f) (take_more xs i x inside ∙ ap (λ (y : ℕ). take i xs ++ y ∷ []) (sym found)) ∙ filter-append f (take i xs) (x ∷ [])

-- of the sites below a number, and one more
pub one_typed : (d : DefinitionData) (r : List Record) (n : ℕ) → ((s : ℕ) → s < n → IsTyped (base d r s).tree (base d r s).signature) → IsTyped (base d r n).tree (base d r n).signature
    → (s : ℕ) → s < n + 1 → IsTyped (base d r s).tree (base d r s).signature
one_typed d r n before here s inside = by_place (nat_lt s n) refl
  where
    by_place : (b : Bool) → nat_lt s n ≡ b → IsTyped (base d r s).tree (base d r s).signature
    by_place true e = before s (grind (arith, nat_tests))
    by_place false e =
        let same : n ≡ s = omega (arith, inside, ltb-false s n e) in
        subst (λ (m : ℕ). IsTyped (base d r m).tree (base d r m).signature) same here

-- a step that looks at one more point, which is invalid, and one that is valid
pub filter_pass : (f : ℕ → Bool) (xs : List ℕ) (i x : ℕ) (made new : List ℕ) → i < length xs → x ≡ slice_index_or xs i x → made ≡ filter f (take i xs) → f x ≡ true → new ≡ made ++ x ∷ [] → new ≡ filter f (take (i + 1) xs)
filter_pass f xs i x made new inside found before passes push =
    push ∙ (ap (λ ys. ys ++ x ∷ []) before ∙ (ap (λ (b : Bool). filter f (take i xs) ++ cond b (x ∷ []) []) (sym passes) ∙ sym (filter_step f xs i x inside found)))

pub filter_skip : (f : ℕ → Bool) (xs : List ℕ) (i x : ℕ) (made : List ℕ) → i < length xs → x ≡ slice_index_or xs i x → made ≡ filter f (take i xs) → f x ≡ false → made ≡ filter f (take (i + 1) xs)
filter_skip f xs i x made inside found before fails =
    before ∙ (sym (append-nil (filter f (take i xs))) ∙ (ap (λ (b : Bool). filter f (take i xs) ++ cond b (x ∷ []) []) (sym fails) ∙ sym (filter_step f xs i x inside found)))

-- ---- a runtime
pub runtime_renews : (again : List ℕ) (h : OldHits) (b new : BookState) (ledgers after : List LedgerState) → IsRuntime b ledgers → new.definition ≡ renewed b.definition b.records again → new.limits ≡ b.limits
    → after ≡ map (renewed_ledger h) ledgers → AreHeld new.totals after → IsRuntime new after
runtime_renews again h b new ledgers after is definition limits same held =
    let count : length after ≡ length ledgers = ap length same ∙ length-map ledgers (renewed_ledger h) in
    let each : (w : ℕ) → w < length after → ledger_at after w ≡ renewed_ledger h (ledger_at ledgers w) =
    λ w inside. ap (λ (ls : List LedgerState). ledger_at ls w) same ∙ get_or-map (renewed_ledger h) ledgers w no_ledger no_ledger (omega (arith, inside, count)) in
    record {
      held = held;
      links = λ w inside. ap (λ (l : LedgerState). length l.unflushed) (each w inside) ∙ (is.links w (omega (arith, inside, count))
          ∙ (ap length (sym (renewed_links b.definition b.records again)) ∙ ap (λ (d : DefinitionData). length (links d)) (sym definition)));
      limit = λ w inside. ap (λ (l : LedgerState). l.limit) (each w inside) ∙ (is.limit w (omega (arith, inside, count)) ∙ ap (λ (l : LimitsData). l.ledger) (sym limits));
    }
