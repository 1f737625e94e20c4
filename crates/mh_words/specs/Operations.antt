-- The results of operations on words. An operation on ints reads the low 32 bits of its words.
use Rattle.std.specs.Prelude.{ℤ, ◌+ℤ◌, ◌-ℤ◌, ◌*ℤ◌, int_lt, Option, Some, None, if◌then◌else◌}
use Rattle.std.specs.Int.{int_wrap, int_wrapping_div, w32, w64}
use Rattle.std.specs.Int.RustNames.{int_rem}
use Rattle.mh_type.specs.Operations.{int_eq, is_zero}
use Rattle.mh_words.specs.Values.{truth_word}
use Rattle.mh_words.specs.declared.operation.WordOperation.{WordOperation}
use Rattle.mh_words.specs.declared.operation.WordOperation.TheVariants.{IntAdd, IntSubtract, IntMultiply, IntDivide, IntRemainder, LongAdd, LongSubtract, LongMultiply, LongDivide, LongRemainder, LongToInt, Equal, Less}

-- the int of the low 32 bits of a word
abbrev pub low : ℤ → ℤ
low w = int_wrap w32 w

-- the result of a division, and none if the divisor is zero
abbrev pub divided : (ℤ → ℤ → ℤ) → ℤ → ℤ → Option ℤ
divided by x y = if is_zero y then None else Some (by x y)

-- the word that an operation returns for two words, and none if it throws an ArithmeticException
abbrev pub result : WordOperation → ℤ → ℤ → Option ℤ
result IntAdd x y = Some (int_wrap w32 (low x +ℤ low y))
result IntSubtract x y = Some (int_wrap w32 (low x -ℤ low y))
result IntMultiply x y = Some (int_wrap w32 (low x *ℤ low y))
result IntDivide x y = divided (int_wrapping_div w32) (low x) (low y)
result IntRemainder x y = divided int_rem (low x) (low y)
result LongAdd x y = Some (int_wrap w64 (x +ℤ y))
result LongSubtract x y = Some (int_wrap w64 (x -ℤ y))
result LongMultiply x y = Some (int_wrap w64 (x *ℤ y))
result LongDivide x y = divided (int_wrapping_div w64) x y
result LongRemainder x y = divided int_rem x y
result LongToInt x y = Some (low x)
result Equal x y = Some (truth_word (int_eq x y))
result Less x y = Some (truth_word (int_lt x y))
