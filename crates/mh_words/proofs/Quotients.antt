-- The quotients and remainders of ints are ints.
use Rattle.std.proofs.Common.{◌≡◌, ℕ, zero, suc, ◌/◌, ◌^◌, ◌≤◌, refl, arith}
use Rattle.std.specs.Prelude.{ℤ, pos, negsuc, neg_ℤ, unsigned_abs}
use Rattle.std.specs.Int.{int_wrapping_div, cast_signed, cast_unsigned, w32}
use Rattle.std.specs.Int.RustNames.{FitsSigned, int_div, int_rem}
use Rattle.std.specs.Int.Signed.{mag_rem}
use Rattle.std.proofs.Math.Facts.{sfits_to_z}
use Rattle.std.proofs.Math.Nat.{div-le_self}

abs_neg : (n : ℕ) → unsigned_abs (neg_ℤ (pos n)) ≡ n
abs_neg zero = refl
abs_neg (suc n) = refl

abs_quotient : (a d : ℤ) → unsigned_abs (int_div a d) ≤ unsigned_abs a
abs_quotient (pos a) (pos b) = div-le_self a b
abs_quotient (pos a) (negsuc b) = omega (arith, abs_neg (a / suc b), div-le_self a (suc b))
abs_quotient (negsuc a) (pos b) = omega (arith, abs_neg (suc a / b), div-le_self (suc a) b)
abs_quotient (negsuc a) (negsuc b) = div-le_self (suc a) (suc b)

small : (z : ℤ) → FitsSigned w32 z → unsigned_abs z ≤ 2 ^ 31
small (pos n) h = omega (arith, h.sfits)
small (negsuc n) h = omega (arith, h.sfits)

wrapped : (z : ℤ) → unsigned_abs z ≤ 2 ^ 31 → FitsSigned w32 (cast_signed w32 (cast_unsigned w32 z))
wrapped (pos n) h = sfits_to_z (record { fits = omega arith })
wrapped (negsuc n) h = sfits_to_z (record { fits = omega arith })

pub quotient_fits : (a d : ℤ) → FitsSigned w32 a → FitsSigned w32 (int_wrapping_div w32 a d)
quotient_fits a d h = wrapped (int_div a d) (omega (arith, abs_quotient a d, small a h))

pub remainder_fits : (a d : ℤ) → FitsSigned w32 a → FitsSigned w32 (int_rem a d)
remainder_fits a d h = record { sfits = omega (arith, mag_rem a d, h.sfits) }
