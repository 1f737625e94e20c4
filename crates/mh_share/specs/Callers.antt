-- The view of a caller that contracts use, and the counts and refusals of its calls.
use Rattle.std.specs.Prelude.{◌≡◌, ℕ, ◌<◌, true, List, length, refl}
use Rattle.std.specs.Coded.{Coded, code_by, coded×}
use Rattle.mh_base.specs.Tests.{Tests, test, only}
use Rattle.mh_type.specs.Fits.{Fits}
use Rattle.mh_type.specs.declared.value.Value.{Value}
use Rattle.mh_ledger.specs.Codes.{coded_ledger}
use Rattle.mh_ledger.specs.Ledgers.{LedgerState, at}
use Rattle.mh_site.specs.Defined.{site_at}
use Rattle.mh_core.specs.Books.{BookState, coded_book}
use Rattle.mh_core.specs.Hits.{hits}
use Rattle.mh_core.specs.Refusals.{memory_last}
use Rattle.mh_core.specs.declared.refusal.Refusal.{Refusal}
use Rattle.mh_core.specs.declared.refusal.Refusal.TheVariants.{NoSite, WrongType, LedgerFull}

-- the book whose world answers its calls, as it was when that was shown, and the ledger of its worker
pub record CallerState : Type 0 where
  pub shown : BookState
  pub ledger : LedgerState

abbrev pub coded_caller : Coded CallerState
coded_caller = code_by (BookState × LedgerState) (coded× coded_book coded_ledger) (λ c. (c.shown, c.ledger)) (λ p. record { shown = p.0; ledger = p.1 }) (λ _. refl)

-- a caller by this book
abbrev pub caller_by : BookState → LedgerState → CallerState
caller_by b l = record { shown = b; ledger = l }

-- the caller may count the hit of a call, if that hits a link
abbrev pub HasRoom : CallerState → ℕ → List Value → Type 0
HasRoom c s a = (j : ℕ) → hits c.shown.definition s a j ≡ true → at c.ledger.unflushed j < c.ledger.limit

-- the tests of a call, in order
abbrev pub call_tests : CallerState → ℕ → List Value → Tests Refusal
call_tests c s a =
    test (s < length c.shown.definition.sites) (only NoSite)
    (test (Fits (site_at c.shown.definition s).method_type a) (only WrongType)
    (test (HasRoom c s a) (only LedgerFull) memory_last))
