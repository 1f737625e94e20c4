-- The limits of a book or a machine.
use Rattle.std.specs.Prelude.{ℕ, ◌≤◌, ◌^◌, refl}
use Rattle.std.specs.Coded.{Coded, code_by, coded×, coded_ℕ}

-- the greatest number of events of a history
abbrev pub most_events : ℕ
most_events = 2 ^ 20

-- the greatest number of hits of a link that a worker may hold, and that the totals may hold
abbrev pub most_held : ℕ
most_held = 2 ^ 20

abbrev pub most_hits : ℕ
most_hits = 2 ^ 40

-- accepted events, hits of a link that a worker holds, hits of a link in the totals
pub record LimitsData : Type 0 where
  pub history : ℕ
  pub ledger : ℕ
  pub total : ℕ

abbrev pub coded_limits : Coded LimitsData
coded_limits = code_by (ℕ × (ℕ × ℕ)) (coded× coded_ℕ (coded× coded_ℕ coded_ℕ)) (λ l. (l.history, (l.ledger, l.total))) (λ p. record { history = p.0; ledger = p.1.0; total = p.1.1 }) (λ _. refl)

pub record IsLimits (l : LimitsData) : Type 0 where
  pub history : l.history ≤ most_events
  pub least : 1 ≤ l.ledger
  pub ledger : l.ledger ≤ most_held
  pub total : l.total ≤ most_hits

-- the greatest number of snapshots, and of plans, of a history
abbrev pub most_snapshots : ℕ
most_snapshots = 1024

abbrev pub most_plans : ℕ
most_plans = 1024
