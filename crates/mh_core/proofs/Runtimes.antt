-- What a runtime keeps when it is opened and at a flush.
use Rattle.std.proofs.Common.{◌≡◌, ◌≢◌, inl, inr, ℕ, ◌<◌, List, length, map, slice_index_or, slice_set, ap, sym, subst, ◌∙◌, arith}
use Rattle.std.specs.List.{range_with_len}
use Rattle.std.proofs.lemmas.Bool.{cases_eq}
use Rattle.std.proofs.lemmas.List.{get_or_default, get_or-set_other, get_or-set_same, length-replicate, length-set}
use Rattle.mh_ledger.specs.Ledgers.{AreHeld, LedgerState, ledger_at, no_ledger, opened_ledger, settled}
use Rattle.mh_site.specs.Defined.{DefinitionData}
use Rattle.mh_site.specs.Links.{links}
use Rattle.mh_core.specs.declared.record.Record.{Record}
use Rattle.mh_core.specs.declared.record.Record.TheVariants.{Flushed}
use Rattle.mh_core.specs.declared.refusal.Refusal.{Refusal}
use Rattle.mh_core.specs.Books.{BookState, MayRefuse, opened_book}
use Rattle.mh_core.specs.Limits.{LimitsData}
use Rattle.mh_core.specs.Records.{hits_in}
use Rattle.mh_core.specs.Runtimes.{IsRuntime, RefusesFlush, RuntimeState}
use Rattle.std.proofs.lemmas.List.FromFn.{get_or-map-range_with_len, length-map-range_with_len}

-- before any call
pub runtime_opened : (d : DefinitionData) (l : LimitsData) (b : BookState) (workers : ℕ) (ledgers : List LedgerState) → b ≡ opened_book d workers l
    → ledgers ≡ map (opened_ledger (length (links d)) l.ledger) (range_with_len 0 workers) → AreHeld b.totals ledgers → IsRuntime b ledgers × (length ledgers ≡ workers)
runtime_opened d l b workers ledgers is opened held =
    let n = length (links d) in
    let make = opened_ledger n l.ledger in
    let count : length ledgers ≡ workers = ap length opened ∙ length-map-range_with_len make 0 workers in
    let each : (w : ℕ) → w < length ledgers → ledger_at ledgers w ≡ make w =
    λ w inside. ap (λ ls. ledger_at ls w) opened ∙ get_or-map-range_with_len make 0 workers w w no_ledger (omega (arith, inside, count)) (omega arith) in (
      record {
        held = held;
        links = λ w inside. ap (λ (x : LedgerState). length x.unflushed) (each w inside) ∙ (length-replicate n 0 ∙ ap (λ (x : BookState). length (links x.definition)) (sym is));
        limit = λ w inside. ap (λ (x : LedgerState). x.limit) (each w inside) ∙ ap (λ (x : BookState). x.limits.ledger) (sym is);
      },
      count,
    )

module _ (b : BookState) (ledgers : List LedgerState) (is : IsRuntime b ledgers) (v : ℕ) (l : LedgerState) (known : v < length ledgers) (read : l ≡ slice_index_or ledgers v l) where
  own : l ≡ ledger_at ledgers v
  own = read ∙ get_or_default ledgers v l no_ledger known

  worker : l.worker ≡ v
  worker = ap (λ (x : LedgerState). x.worker) own ∙ is.held.workers v known

  -- after the flush of a worker's ledger
  pub runtime_flushes : (new : BookState) (flushed : LedgerState) → flushed ≡ settled l → new.definition ≡ b.definition → new.limits ≡ b.limits
      → AreHeld new.totals (slice_set ledgers l.worker flushed) → IsRuntime new (slice_set ledgers v flushed)
  runtime_flushes new flushed settles definition limits held =
      record {
        held = subst (λ (w : ℕ). AreHeld new.totals (slice_set ledgers w flushed)) worker held;
        links = λ w inside. many w (omega (arith, inside, length-set ledgers v flushed)) ∙ ap (λ (d : DefinitionData). length (links d)) (sym definition);
        limit = λ w inside. limit_of w (omega (arith, inside, length-set ledgers v flushed)) ∙ ap (λ (x : LimitsData). x.ledger) (sym limits);
      }
    where
      here : (w : ℕ) → w ≡ v → ledger_at (slice_set ledgers v flushed) w ≡ settled l
      here w e = ap (ledger_at (slice_set ledgers v flushed)) e ∙ (get_or-set_same ledgers v flushed no_ledger known ∙ settles)

      there : (w : ℕ) → w ≢ v → ledger_at (slice_set ledgers v flushed) w ≡ ledger_at ledgers w
      there w e = get_or-set_other ledgers v w flushed no_ledger e

      many : (w : ℕ) → w < length ledgers → length (ledger_at (slice_set ledgers v flushed) w).unflushed ≡ length (links b.definition)
      many w inside = elim (cases_eq w v) [
        | inl e ↦
            ap (λ (x : LedgerState). length x.unflushed) (here w e)
            ∙ (length-replicate (length l.unflushed) 0 ∙ (ap (λ (x : LedgerState). length x.unflushed) own ∙ is.links v known))
        | inr e ↦ ap (λ (x : LedgerState). length x.unflushed) (there w e) ∙ is.links w inside
      ]

      limit_of : (w : ℕ) → w < length ledgers → (ledger_at (slice_set ledgers v flushed) w).limit ≡ b.limits.ledger
      limit_of w inside = elim (cases_eq w v) [
        | inl e ↦ ap (λ (x : LedgerState). x.limit) (here w e) ∙ (ap (λ (x : LedgerState). x.limit) own ∙ is.limit v known)
        | inr e ↦ ap (λ (x : LedgerState). x.limit) (there w e) ∙ is.limit w inside
      ]

  -- the tests of a flush are those of what the ledger has
  pub refuses_flush : (r : RuntimeState) (n : ℕ) (told : Refusal) → record { book = b; ledgers = ledgers } ≡ r → MayRefuse b n (Flushed l.worker (hits_in l.unflushed)) told → RefusesFlush r n v told
  refuses_flush r n told view p =
      let entry : Flushed l.worker (hits_in l.unflushed) ≡ Flushed v (hits_in (ledger_at ledgers v).unflushed) =
      ap (λ (w : ℕ). Flushed w (hits_in l.unflushed)) worker ∙ ap (λ (x : LedgerState). Flushed v (hits_in x.unflushed)) own in
      subst (λ (x : RuntimeState). RefusesFlush x n v told) view (inr (known, subst (λ (e : Record). MayRefuse b n e told) entry p))
