-- A flush preserves the invariants of totals and ledgers.
use Rattle.std.proofs.Common.{◌≡◌, ℕ, ◌+◌, ◌<◌, ◌≤◌, [], length, ◌^◌, ap, sym, ◌∙◌, arith}
use Rattle.std.proofs.lemmas.List.Elements.{All-set}
use Rattle.std.proofs.lemmas.List.Sums.{sum_by-set, get_or-le-sum_by}
use Rattle.std.specs.List.{sum_by}
use Rattle.mh_ledger.specs.Ledgers.{at, added, made, share_of, settled, flushed_into, FlushFits, Holds, IsLedger, IsTotals, LedgerState, TotalsState}
use Rattle.mh_ledger.specs.Laws.Added.{length-added, at-added, all_added, at-zeros}

-- as many links as the totals have
pub held_length : (t : TotalsState) (l : LedgerState) → IsTotals t → Holds t l → length l.flushed ≡ length t.total
held_length t l is held = ap length (sym held.1) ∙ is.lengths l.worker [] held.0

pub held_links : (t : TotalsState) (l : LedgerState) → IsTotals t → IsLedger l → Holds t l → length t.total ≡ length l.unflushed
held_links t l is ledger held = sym (held_length t l is held) ∙ ledger.lengths

-- the flushed hits of a held ledger are within the total
pub held_at : (t : TotalsState) (l : LedgerState) (j : ℕ) → IsTotals t → Holds t l → at l.flushed j ≤ at t.total j
held_at t l j is held =
    let within : at (share_of t l.worker) j ≤ sum_by (λ share. at share j) t.shares = get_or-le-sum_by (λ share. at share j) t.shares l.worker [] held.0 in
    let same : at (share_of t l.worker) j ≡ at l.flushed j = ap (λ share. at share j) held.1 in
    let sum = is.sums j in
    omega (arith, within, same, sum)

-- all hits of a ledger fit if the totals have room for it
pub made_fits : (t : TotalsState) (l : LedgerState) → IsTotals t → IsLedger l → Holds t l → FlushFits t l → (j : ℕ) → j < length l.unflushed → made l j ≤ 2 ^ 62
made_fits t l is ledger held room j in' =
    let fits : at t.total j + at l.unflushed j ≤ t.limit = room j (omega (arith, in', held_links t l is ledger held)) in
    let part = held_at t l j is held in
    let limit = is.limit in
    omega (arith, fits, part, limit)

new_sum : (t : TotalsState) (l : LedgerState) → IsTotals t → IsLedger l → Holds t l → (j : ℕ) → at (flushed_into t l).total j ≡ sum_by (λ share. at share j) (flushed_into t l).shares
new_sum t l is ledger held j =
    let lengths = held_links t l is ledger held in
    let share_lengths : length (share_of t l.worker) ≡ length l.unflushed = ap length held.1 ∙ ledger.lengths in
    let total : at (added t.total l.unflushed) j ≡ at t.total j + at l.unflushed j = at-added t.total l.unflushed j lengths in
    let share : at (added (share_of t l.worker) l.unflushed) j ≡ at (share_of t l.worker) j + at l.unflushed j = at-added (share_of t l.worker) l.unflushed j share_lengths in
    let moved = sum_by-set (λ share. at share j) t.shares l.worker (added (share_of t l.worker) l.unflushed) [] held.0 in
    let sum = is.sums j in
    omega (arith, total, share, moved, sum)

-- totals preserve their invariant
pub flushed_sound : (t : TotalsState) (l : LedgerState) → IsTotals t → IsLedger l → Holds t l → FlushFits t l → IsTotals (flushed_into t l)
flushed_sound t l is ledger held room = record {
  lengths =
      let total = length-added t.total l.unflushed in
      let share : length (added (share_of t l.worker) l.unflushed) ≡ length (added t.total l.unflushed) = length-added (share_of t l.worker) l.unflushed ∙ (is.lengths l.worker [] held.0 ∙ sym total) in
      All-set (λ share. length share ≡ length (added t.total l.unflushed)) t.shares l.worker _ share (λ k d in'. is.lengths k d in' ∙ sym total);
  sums = new_sum t l is ledger held;
  within = all_added t.total l.unflushed t.limit (held_links t l is ledger held) room;
  limit = is.limit;
}

pub rises : (t : TotalsState) (l : LedgerState) → IsTotals t → IsLedger l → Holds t l → (j : ℕ) → at (flushed_into t l).total j ≡ at t.total j + at l.unflushed j
rises t l is ledger held j = at-added t.total l.unflushed j (held_links t l is ledger held)

pub made_stays : (l : LedgerState) → IsLedger l → (j : ℕ) → made (settled l) j ≡ made l j
made_stays l ledger j =
    let sum = at-added l.flushed l.unflushed j ledger.lengths in
    let none = at-zeros (length l.unflushed) j in
    omega (arith, sum, none)
