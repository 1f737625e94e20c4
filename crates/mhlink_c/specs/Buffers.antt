-- Copies to the caller's buffers.
use Rattle.std.specs.Prelude.{◌≡◌, ◌<◌, ℕ, List, length, take}

-- this many items, at the beginning of the buffer
pub record IsCopied {X : Type 0} (xs : List X) (n : ℕ) (buffer : List X) : Type 0 where
  pub count : n ≡ length xs
  pub items : take n buffer ≡ xs

-- the buffer is shorter than the items, whose count is written
pub record IsTooShort {X : Type 0} (xs : List X) (n : ℕ) (buffer : List X) : Type 0 where
  pub count : n ≡ length xs
  pub short : length buffer < length xs
