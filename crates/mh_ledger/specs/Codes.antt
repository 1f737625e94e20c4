-- Codes of the views that contracts use, by which a proof tells values apart.
use Rattle.std.specs.Prelude.{ℕ, List, refl}
use Rattle.std.specs.Coded.{Coded, code_by, coded×, coded_ℕ, coded_list}
use Rattle.mh_ledger.specs.Ledgers.{LedgerState, TotalsState}

abbrev pub coded_ledger : Coded LedgerState
coded_ledger =
    code_by ((ℕ × ℕ) × (List ℕ × List ℕ)) (coded× (coded× coded_ℕ coded_ℕ) (coded× (coded_list coded_ℕ) (coded_list coded_ℕ)))
    (λ l. ((l.worker, l.limit), (l.unflushed, l.flushed)))
    (λ p. record { worker = p.0.0; limit = p.0.1; unflushed = p.1.0; flushed = p.1.1 }) (λ _. refl)

abbrev pub coded_totals : Coded TotalsState
coded_totals =
    code_by (ℕ × (List ℕ × List (List ℕ))) (coded× coded_ℕ (coded× (coded_list coded_ℕ) (coded_list (coded_list coded_ℕ))))
    (λ t. (t.limit, (t.total, t.shares)))
    (λ p. record { limit = p.0; total = p.1.0; shares = p.1.1 }) (λ _. refl)
