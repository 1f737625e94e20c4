-- What a book and a runtime keep when a new history begins over a longer definition.
use Rattle.std.proofs.Common.{Bool, true, false, ◌≡◌, ℕ, zero, suc, ◌+◌, ◌-◌, ◌<◌, ◌≤◌, not, List, [], ◌∷◌, ◌++◌, length, map, take, filter, slice_index_or, refl, ap, sym, subst, ◌∙◌, arith, inl, inr}
use Rattle.std.specs.Prelude.{reverse}
use Rattle.std.specs.List.{range_with_len, All, sum_by}
use Rattle.std.proofs.Math.Seq.{take-length}
use Rattle.std.proofs.lemmas.Bool.{cases_lt}
use Rattle.std.proofs.lemmas.List.{get_or-map, get_or_past, length-append, length-map, length-take}
use Rattle.std.proofs.lemmas.List.Sums.{sum_by_more_le}
use Rattle.mh_ledger.specs.declared.old_hits.OldHits.TheVariants.{Keep}
use Rattle.mh_ledger.specs.Extensions.{extended_ledger, extended_totals, longer}
use Rattle.mh_ledger.specs.Ledgers.{at, ledger_at, no_ledger, AreHeld, IsTotals, LedgerState, TotalsState}
use Rattle.mh_ledger.specs.Renewals.{renewed_ledger, renewed_shares}
use Rattle.mh_ledger.specs.Laws.{at-longer, kept_totals, length-longer}
use Rattle.mh_site.specs.Defined.{DefinitionData}
use Rattle.mh_site.specs.Lawful.{IsDefinition}
use Rattle.mh_site.specs.Links.{links}
use Rattle.mh_site.specs.Worlds.{WorldState, opened, replay}
use Rattle.mh_site.specs.declared.control.Control.{Control}
use Rattle.mh_site.specs.declared.control.Control.TheVariants as control
use Rattle.mh_core.specs.declared.record.Record.{Record}
use Rattle.mh_core.specs.declared.record.Record.TheVariants.{Invalidated}
use Rattle.mh_core.specs.Books.{AreTotals, BookState, IsBook, Legal}
use Rattle.mh_core.specs.Extensions.{IsLonger, extended_records, invalid_points, more_links}
use Rattle.mh_core.specs.Installations.{PublishedPlan}
use Rattle.mh_core.specs.Limits.{LimitsData}
use Rattle.mh_core.specs.Records.{is_valid, total}
use Rattle.mh_core.specs.Renewals.{carried}
use Rattle.mh_core.specs.Replayed.{controls, world}
use Rattle.mh_core.specs.Runtimes.{IsRuntime}
use Rattle.mh_core.specs.Snapshots.{SnapshotState}
use Rattle.mh_core.specs.Laws.Renewing.{controls_carried, length_carried, plans_carried, snapshots_carried}
use Rattle.mh_core.proofs.HitCounts.{hits_counted}
use Rattle.mh_core.proofs.Renewed.{all_fallen, ledger_shares, the_book, total_carried}

module _ (b : BookState) (d : DefinitionData) (is : IsBook b) (counted : IsTotals b.totals) (room : length b.totals.shares < b.limits.history) (lawful : IsDefinition d) (longer : IsLonger b.definition d) where
  abbrev shares : List (List ℕ)
  shares = b.totals.shares

  abbrev first : List Record
  first = Invalidated (invalid_points b.definition b.records) ∷ []

  abbrev r : List Record
  r = extended_records b.definition b.records shares

  abbrev more : ℕ
  more = more_links b.definition d

  within : (j : ℕ) → sum_by (λ share. at share j) shares ≤ b.limits.total
  within j =
      let whole = counted.sums j in
      let limit = is.totals.limit in
      elim (cases_lt j (length b.totals.total)) [
        | inl known ↦ let bound : at b.totals.total j ≤ b.totals.limit = counted.within j 0 known in omega (arith, whole, limit, bound)
        | inr past ↦ let none : at b.totals.total j ≡ 0 = get_or_past b.totals.total j 0 past in omega (arith, whole, none)
      ]

  known : All (λ p. p < length d.points) (invalid_points b.definition b.records)
  known k e inside =
      let below : slice_index_or (invalid_points b.definition b.records) k e < length b.definition.points = all_fallen (λ p. not (is_valid b.records p)) (length b.definition.points) k e inside in
      omega (arith, below, longer.points)

  legal_carried : (n : ℕ) → n ≤ length shares → Legal d b.limits (carried first shares n)
  legal_carried zero few = ((0, (omega arith, (known, (omega (arith, room), tt)))), tt)
  legal_carried (suc n) few =
      let len = length_carried first shares n in (
        (
          1 + n,
          (
            omega (arith, len),
            (
              omega (arith, few, room),
              (
                (λ j inside.
                    let so_far = total_carried first shares n j (omega arith) in
                    let own = hits_counted (slice_index_or shares n []) j in
                    let part = sum_by_more_le (λ share. at share j) shares n [] (omega arith) in
                    let whole = within j in
                    omega (arith, so_far, own, part, whole)),
                tt,
              ),
            ),
          ),
        ),
        legal_carried n (omega arith),
      )

  totals : AreTotals d b.limits r (extended_totals more b.totals)
  totals = record {
    count = let all = length-longer more b.totals.total in let was = is.totals.count in omega (arith, all, was, longer.links);
    sums = λ j inside.
        let same = at-longer more b.totals.total j in
        let whole = counted.sums j in
        let all = total_carried first shares (length shares) j (omega arith) in
        let taken : sum_by (λ share. at share j) (take (length shares) shares) ≡ sum_by (λ share. at share j) shares = ap (sum_by (λ share. at share j)) (take-length shares) in
        omega (arith, same, whole, all, taken);
    limit = is.totals.limit;
  }

  extended_book : (k : Bool) → IsBook (the_book b.limits d r (world d r) (extended_totals more b.totals) [] [] k)
  extended_book k = record {
    definition = lawful;
    limits = is.limits;
    legal = legal_carried (length shares) (omega arith);
    few = let len = length_carried first shares (length shares) in omega (arith, len, room);
    world = refl;
    totals = totals;
    snapshots = sym (snapshots_carried d first shares (length shares));
    plans = sym (plans_carried first shares (length shares));
  }

  -- the same, of what is put in place of what the book has
  pub gone_over : (d' : DefinitionData) (r' : List Record) (w : WorldState) (t : TotalsState) (s : List SnapshotState) (p : List PublishedPlan) (k : Bool)
      → d' ≡ d → r' ≡ r → w ≡ world d r → t ≡ extended_totals more b.totals → s ≡ [] → p ≡ [] → IsBook (the_book b.limits d' r' w t s p k)
  gone_over d' r' w t s p k definition records same sums snapshots plans =
      subst (λ (x : DefinitionData). IsBook (the_book b.limits x r' w t s p k)) (sym definition)
      (subst (λ (x : List Record). IsBook (the_book b.limits d x w t s p k)) (sym records)
      (subst (λ (x : WorldState). IsBook (the_book b.limits d r x t s p k)) (sym same)
      (subst (λ (x : TotalsState). IsBook (the_book b.limits d r (world d r) x s p k)) (sym sums)
      (subst (λ (x : List SnapshotState). IsBook (the_book b.limits d r (world d r) (extended_totals more b.totals) x p k)) (sym snapshots)
      (subst (λ (x : List PublishedPlan). IsBook (the_book b.limits d r (world d r) (extended_totals more b.totals) [] x k)) (sym plans) (extended_book k))))))

-- the world of the new history
pub extended_world : (d longer : DefinitionData) (r : List Record) (shares : List (List ℕ)) (w : WorldState) → w ≡ replay (opened longer) (control.Invalidate (invalid_points d r) ∷ [])
    → w ≡ world longer (extended_records d r shares)
extended_world d longer r shares w same =
    same ∙ sym (ap (λ (cs : List Control). replay (opened longer) (reverse cs)) (controls_carried longer (Invalidated (invalid_points d r) ∷ []) shares (length shares)))

-- the records that keep all hits
pub kept_shares : (t : TotalsState) (ledgers : List LedgerState) → IsTotals t → AreHeld t ledgers → (first : List Record)
    → carried first (map (λ l. (renewed_ledger Keep l).flushed) ledgers) (length ledgers) ≡ carried first t.shares (length t.shares)
kept_shares t ledgers is are first =
    ledger_shares Keep t ledgers are first ∙ ap (λ (x : TotalsState). carried first x.shares (length x.shares)) (kept_totals t is)

-- ---- a runtime
pub runtime_extends : (b new : BookState) (ledgers after : List LedgerState) → IsRuntime b ledgers → new.limits ≡ b.limits → IsLonger b.definition new.definition
    → after ≡ map (extended_ledger (more_links b.definition new.definition)) ledgers → AreHeld new.totals after → IsRuntime new after
runtime_extends b new ledgers after is limits more same held =
    let k : ℕ = more_links b.definition new.definition in
    let count : length after ≡ length ledgers = ap length same ∙ length-map ledgers (extended_ledger k) in
    let each : (w : ℕ) → w < length after → ledger_at after w ≡ extended_ledger k (ledger_at ledgers w) =
    λ w inside. ap (λ (ls : List LedgerState). ledger_at ls w) same ∙ get_or-map (extended_ledger k) ledgers w no_ledger no_ledger (omega (arith, inside, count)) in
    record {
      held = held;
      links = λ w inside.
          let was = is.links w (omega (arith, inside, count)) in
          let all = length-longer k (ledger_at ledgers w).unflushed in
          ap (λ (l : LedgerState). length l.unflushed) (each w inside) ∙ omega (arith, was, all, more.links);
      limit = λ w inside. ap (λ (l : LedgerState). l.limit) (each w inside) ∙ (is.limit w (omega (arith, inside, count)) ∙ ap (λ (l : LimitsData). l.ledger) (sym limits));
    }
