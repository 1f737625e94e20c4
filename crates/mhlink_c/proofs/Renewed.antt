-- What a new history has used up.
use Rattle.std.proofs.Common.{◌≡◌, ◌∙◌, ◌+◌, ℕ, zero, suc, List, [], ◌∷◌, ap, arith, length, map, refl, sym}
use Rattle.std.proofs.lemmas.List.{length-map}
use Rattle.mh_ledger.specs.Ledgers.{AreHeld, LedgerState}
use Rattle.mh_ledger.specs.Renewals.{left_of, renewed_shares}
use Rattle.mh_ledger.specs.declared.old_hits.OldHits.{OldHits}
use Rattle.mh_site.specs.Defined.{DefinitionData}
use Rattle.mh_site.specs.declared.point.Point.{Point}
use Rattle.mh_site.specs.declared.site.Site.{Site}
use Rattle.mh_core.specs.declared.record.Record.{Record}
use Rattle.mh_core.specs.declared.record.Record.TheVariants.{Invalidated}
use Rattle.mh_core.specs.Books.{BookState, IsBook}
use Rattle.mh_core.specs.Extensions.{Extends, invalid_points}
use Rattle.mh_core.specs.PlanTables.{plans_of}
use Rattle.mh_core.specs.Renewals.{Renews, carried, fallen}
use Rattle.mh_core.specs.Snapshots.{snapshots_of}
use Rattle.mhlink_c.specs.Renewals.{IsFresh}

-- a flush takes no snapshot and publishes no plan
length_carried : (r : List Record) (shares : List (List ℕ)) (n : ℕ) → length (carried r shares n) ≡ length r + n
length_carried r shares zero = omega arith
length_carried r shares (suc n) = omega (arith, length_carried r shares n)

snapshots_carried : (d : DefinitionData) (r : List Record) (shares : List (List ℕ)) (n : ℕ) → snapshots_of d (carried r shares n) ≡ snapshots_of d r
snapshots_carried d r shares zero = refl
snapshots_carried d r shares (suc n) = snapshots_carried d r shares n

plans_carried : (r : List Record) (shares : List (List ℕ)) (n : ℕ) → plans_of (carried r shares n) ≡ plans_of r
plans_carried r shares zero = refl
plans_carried r shares (suc n) = plans_carried r shares n

-- a book whose records are an invalidation and a flush of each worker
carried_fresh : (new : BookState) (points : List ℕ) (shares : List (List ℕ)) (workers : ℕ) → IsBook new → new.records ≡ carried (Invalidated points ∷ []) shares (length shares) → length shares ≡ workers → IsFresh new workers
carried_fresh new points shares workers is records count =
    let first : List Record = Invalidated points ∷ [] in
    record {
      records = omega (arith, ap (λ (r : List Record). length r) records, length_carried first shares (length shares), count);
      snapshots = is.snapshots ∙ ap (λ (r : List Record). snapshots_of new.definition r) records ∙ snapshots_carried new.definition first shares (length shares);
      plans = is.plans ∙ ap (λ (r : List Record). plans_of r) records ∙ plans_carried first shares (length shares);
    }

pub fresh_is : (again : List ℕ) (h : OldHits) (b new : BookState) (ledgers : List LedgerState) → IsBook new → AreHeld b.totals ledgers → Renews again h b new → IsFresh new (length ledgers)
fresh_is again h b new ledgers is held renews =
    carried_fresh new (fallen b.definition b.records again) (renewed_shares h b.totals) (length ledgers) is renews.records (length-map b.totals.shares (map (left_of h)) ∙ sym held.count)

pub fresh_over : (points : List Point) (sites : List Site) (b new : BookState) (ledgers : List LedgerState) → IsBook new → AreHeld b.totals ledgers → Extends points sites b new → IsFresh new (length ledgers)
fresh_over points sites b new ledgers is held extends =
    carried_fresh new (invalid_points b.definition b.records) b.totals.shares (length ledgers) is extends.records (sym held.count)
