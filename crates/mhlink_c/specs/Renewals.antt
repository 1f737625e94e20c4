-- The usage of a machine's history, and renewals of machines.
use Rattle.std.specs.Prelude.{◌≡◌, ◌⊎◌, ◌<◌, ◌+◌, ℕ, List, [], length, map}
use Rattle.mh_ledger.specs.Renewals.{renewed_ledger}
use Rattle.mh_ledger.specs.declared.old_hits.OldHits.{OldHits}
use Rattle.mh_ledger.specs.declared.old_hits.OldHits.TheVariants.{Keep, Halve, Drop}
use Rattle.mh_core.specs.Books.{BookState}
use Rattle.mh_core.specs.Links.{links as links_of}
use Rattle.mh_core.specs.Records.{snapshots as snapshots_in, plans as plans_in}
use Rattle.mh_core.specs.Renewals.{MeansTheSame, Renews, renewal_tests}
use Rattle.mhlink_c.specs.Statuses.{IsRefusedBy}
use Rattle.mhlink_c.specs.Hosts.{HostState, KeepsNamesAndText}
use Rattle.mhlink_c.specs.declared.failure.Failure.{Failure}
use Rattle.mhlink_c.specs.declared.failure.Failure.TheVariants.{Unknown}
use Rattle.mhlink_c.specs.declared.renewing.MhlinkUsed.{MhlinkUsed}

-- the records, snapshots and plans of a history
pub record IsUsed (b : BookState) (used : MhlinkUsed) : Type 0 where
  pub records : used.records ≡ length b.records
  pub snapshots : used.snapshots ≡ snapshots_in b.records
  pub plans : used.plans ≡ plans_in b.records

-- the number from C
abbrev pub hits_number : OldHits → ℕ
hits_number Keep = 0
hits_number Halve = 1
hits_number Drop = 2

-- the history has only its first records, one more than there are workers
pub record IsFresh (b : BookState) (workers : ℕ) : Type 0 where
  pub records : length b.records ≡ workers + 1
  pub snapshots : b.snapshots ≡ []
  pub plans : b.plans ≡ []

-- a new history begins, in which these points are valid again, with the part of the flushed hits that is kept
pub record BeginsAnew (h : HostState) (again : List ℕ) (hits : OldHits) (new : HostState) : Type 0 where
  pub passes : length h.runtime.ledgers < h.runtime.book.limits.history
  pub renewed : Renews again hits h.runtime.book new.runtime.book
  pub means : MeansTheSame again h.runtime.book new.runtime.book
  pub links : links_of new.runtime.book.definition ≡ links_of h.runtime.book.definition
  pub ledgers : new.runtime.ledgers ≡ map (renewed_ledger hits) h.runtime.ledgers
  pub fresh : IsFresh new.runtime.book (length h.runtime.ledgers)
  pub kept : KeepsNamesAndText h new

-- the first failing test of a renewal
abbrev pub RefusesAnew : HostState → List ℕ → Failure → Type 0
RefusesAnew h again e =
    IsRefusedBy (renewal_tests h.runtime.book.definition h.runtime.book.limits (length h.runtime.ledgers) again) e

-- by the number from C
abbrev pub IsRenewed : HostState → List ℕ → ℕ → HostState → Type 0
IsRenewed h again number new = (hits : OldHits) × ((number ≡ hits_number hits) × BeginsAnew h again hits new)

-- the number is none of these, or the first failing test of a renewal
abbrev pub RefusesRenewal : HostState → List ℕ → ℕ → Failure → Type 0
RefusesRenewal h again number e =
    (((hits : OldHits) → number ≡ hits_number hits → ⊥) × (e ≡ Unknown))
    ⊎ ((hits : OldHits) × ((number ≡ hits_number hits) × RefusesAnew h again e))
