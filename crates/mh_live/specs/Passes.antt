-- The view of a pass that contracts use.
use Rattle.std.specs.Prelude.{ℕ, List, [], length, map, refl}
use Rattle.std.specs.Coded.{Coded, code_by, coded×, coded_list}
use Rattle.std.specs.List.{range_with_len}
use Rattle.mh_ledger.specs.Codes.{coded_ledger}
use Rattle.mh_ledger.specs.Ledgers.{LedgerState, opened_ledger}
use Rattle.mh_site.specs.Defined.{DefinitionData}
use Rattle.mh_site.specs.Links.{links}
use Rattle.mh_site.specs.declared.control.Control.{Control}
use Rattle.mh_live.specs.Pasts.{coded_controls}

-- the controls that it has seen or learnt, oldest first, its worker's ledger, and the lists of the worlds that it entered, newest first
pub record PassState : Type 0 where
  pub seen : List Control
  pub ledger : LedgerState
  pub entered : List (List Control)

abbrev pub coded_pass : Coded PassState
coded_pass =
    code_by (List Control × (LedgerState × List (List Control))) (coded× coded_controls (coded× coded_ledger (coded_list coded_controls))) (λ p. (p.seen, (p.ledger, p.entered)))
    (λ p. record { seen = p.0; ledger = p.1.0; entered = p.1.1 }) (λ _. refl)

-- a pass with this ledger that has seen nothing
abbrev pub new_pass : LedgerState → PassState
new_pass l = record { seen = []; ledger = l; entered = [] }

-- one pass for each worker, in order, whose ledger is empty and may hold this many hits of a link
abbrev pub new_passes : DefinitionData → ℕ → ℕ → List PassState
new_passes d limit workers = map (λ w. new_pass (opened_ledger (length (links d)) limit w)) (range_with_len 0 workers)
