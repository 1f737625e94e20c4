-- Totals of which all ledgers are still held keep as many shares.
use Rattle.std.proofs.Common.{◌≡◌, ◌<◌, ℕ, List, [], ◌∙◌, ap, arith, length, map, refl, slice_set, subst, sym}
use Rattle.std.specs.List.{range_with_len}
use Rattle.std.proofs.lemmas.List.{length-set}
use Rattle.std.proofs.lemmas.List.FromFn.{get_or-map-range_with_len, length-map-range_with_len}
use Rattle.mh_ledger.specs.Ledgers.{AreHeld, Holds, LedgerState, TotalsState, ledger_at, no_ledger, share_of}

-- the ledger of a worker that flushed just its share
abbrev of_share : TotalsState → ℕ → LedgerState
of_share t w = record { worker = w; limit = 0; unflushed = []; flushed = share_of t w }

abbrev holding : TotalsState → List LedgerState
holding t = map (of_share t) (range_with_len 0 (length t.shares))

as_many : (t : TotalsState) → length (holding t) ≡ length t.shares
as_many t = length-map-range_with_len (of_share t) 0 (length t.shares)

are_held : (t : TotalsState) → AreHeld t (holding t)
are_held t = record {
  count = as_many t;
  workers = λ w lt. ap (λ (l : LedgerState). l.worker) (read w lt);
  held = λ w lt. subst (Holds t) (sym (read w lt)) (omega (arith, lt, as_many t), refl);
}
  where
    read : (w : ℕ) → w < length (holding t) → ledger_at (holding t) w ≡ of_share t w
    read w lt = get_or-map-range_with_len (of_share t) 0 (length t.shares) w w no_ledger (omega (arith, lt, as_many t)) (omega arith)

pub shares_stay : (t new : TotalsState) (w : ℕ) (l : LedgerState) → ((ls : List LedgerState) → AreHeld t ls → AreHeld new (slice_set ls w l)) → length new.shares ≡ length t.shares
shares_stay t new w l all = sym (all (holding t) (are_held t)).count ∙ (length-set (holding t) w l ∙ as_many t)
