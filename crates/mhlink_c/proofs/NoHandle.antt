-- Handles of callers by their numbers, and the ledgers to which they lead.
use Rattle.std.proofs.Common.{◌≡◌, ◌≢◌, ◌<◌, ◌∙◌, ℕ, List, [], ap, arith, length, slice_index_or, slice_set, sym}
use Rattle.std.proofs.lemmas.List.{get_or-map, get_or-set_other, get_or-set_same, length-map, map-set, set-get_or}
use Rattle.std.specs.Prelude.{None}
use Rattle.mh_core.specs.Books.{opened_book}
use Rattle.mh_ledger.specs.Ledgers.{LedgerState, ledger_at, no_ledger}
use Rattle.mh_share.specs.Laws.{ledger_there}
use Rattle.mhlink_c.specs.Callers.{HeldCallerState, with_ledger}
use Rattle.mhlink_c.specs.DeskRenewals.{callers_of, ledgers_of}
use Rattle.mhlink_c.specs.declared.caller_handle.MhlinkCaller.{MhlinkCaller}

abbrev pub no_held : HeldCallerState
no_held = record {
  caller = record { shown = opened_book (record { points = []; sites = [] }) 0 (record { history = 0; ledger = 0; total = 0 }); ledger = no_ledger };
  given = None;
}

abbrev pub held_at : List HeldCallerState → ℕ → HeldCallerState
held_at hs w = slice_index_or hs w no_held

abbrev pub held_of : MhlinkCaller → HeldCallerState
held_of x = x.value

abbrev pub ledger_of : HeldCallerState → LedgerState
ledger_of h = h.caller.ledger

pub ledger_of_handle : (hs : List MhlinkCaller) (w : ℕ) (x : MhlinkCaller) → w < length hs → x ≡ slice_index_or hs w x → ledger_at (ledgers_of (callers_of hs)) w ≡ x.value.caller.ledger
ledger_of_handle hs w x lt is =
    ledger_there ledger_of with_ledger (callers_of hs) w x.value (omega (arith, lt, length-map hs held_of))
    ∙ ap ledger_of (get_or-map held_of hs w x x.value lt ∙ ap held_of (sym is))

pub held_of_handle : (hs : List MhlinkCaller) (w : ℕ) (x : MhlinkCaller) → w < length hs → x ≡ slice_index_or hs w x → held_at (callers_of hs) w ≡ x.value
held_of_handle hs w x lt is = get_or-map held_of hs w x no_held lt ∙ ap held_of (sym is)

-- a handle is written anew, of the same caller
pub same_written : (hs : List MhlinkCaller) (w : ℕ) (x y : MhlinkCaller) → w < length hs → x ≡ slice_index_or hs w x → y.value ≡ x.value → callers_of (slice_set hs w y) ≡ callers_of hs
same_written hs w x y lt is same =
    map-set held_of hs w y ∙ (ap (slice_set (callers_of hs) w) (same ∙ sym (held_of_handle hs w x lt is)) ∙ set-get_or (callers_of hs) w no_held)

-- what is there once a handle is written, at its place and at another
pub held_written : (hs : List MhlinkCaller) (w : ℕ) (y : MhlinkCaller) → w < length hs → held_at (callers_of (slice_set hs w y)) w ≡ y.value
held_written hs w y lt =
    ap (λ (cs : List HeldCallerState). held_at cs w) (map-set held_of hs w y) ∙ get_or-set_same (callers_of hs) w y.value no_held (omega (arith, lt, length-map hs held_of))

pub held_beside : (hs : List MhlinkCaller) (w v : ℕ) (y : MhlinkCaller) → v ≢ w → held_at (callers_of (slice_set hs w y)) v ≡ held_at (callers_of hs) v
held_beside hs w v y other = ap (λ (cs : List HeldCallerState). held_at cs v) (map-set held_of hs w y) ∙ get_or-set_other (callers_of hs) w v y.value no_held other
