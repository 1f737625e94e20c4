-- The entries of an index: for each int of a row, the first row that has it, and the steps up to that row.
use Rattle.std.specs.Prelude.{◌≡◌, ℕ, ◌+◌, ◌<◌, ◌≤◌, ℤ, List, length, get_or, Result}
use Rattle.std.specs.Int.Signed.{◌<ℤ◌}
use Rattle.std.specs.Result.{MatchResult}
use Rattle.mh_type.specs.declared.value.Value.TheVariants.{Int}
use Rattle.mh_code.specs.Rows.{row_of, steps_to, all_steps}
use Rattle.mh_code.specs.declared.index.Entry.{Entry}
use Rattle.mh_code.specs.declared.index.Row.{Row}

-- the ints are ascending
abbrev pub AreRising : List Entry → Type 0
AreRising es = (i j : ℕ) (d : Entry) → i < j → j < length es → (get_or es i d).key <ℤ (get_or es j d).key

-- the index of an int, or otherwise the index between lower and higher ones
abbrev pub IsFound : List Entry → ℤ → Result ℕ ℕ → Type 0
IsFound es k r = MatchResult r
    (λ i. (i < length es) × ((d : Entry) → (get_or es i d).key ≡ k))
    (λ i. (i ≤ length es) × ((j : ℕ) (d : Entry) → j < i → (get_or es j d).key <ℤ k) × ((j : ℕ) (d : Entry) → i ≤ j → j < length es → k <ℤ (get_or es j d).key))

-- the meaning of an entry for some rows
pub record IsEntry (rs : List Row) (e : Entry) : Type 0 where
  pub row : e.row ≡ row_of (Int e.key) rs
  pub there : e.row < length rs
  pub steps : e.steps ≡ steps_to (Int e.key) rs

-- the entries of some rows
pub record AreEntries (rs : List Row) (es : List Entry) : Type 0 where
  pub rising : AreRising es
  pub each : (i : ℕ) (d : Entry) → i < length es → IsEntry rs (get_or es i d)
  pub all : (k : ℤ) → ((i : ℕ) (d : Entry) → i < length es → (get_or es i d).key ≡ k → ⊥) → row_of (Int k) rs ≡ length rs

-- the number of guesses of an index
abbrev pub guess_count : ℕ
guess_count = 128
