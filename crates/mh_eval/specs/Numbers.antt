-- Ints and longs, and the operations that compare two of a kind (JLS SE 17, 15.20.1 and 15.21.1).
use Rattle.std.specs.Prelude.{Bool, true, false}
use Rattle.mh_type.specs.declared.kind.Kind.{Kind}
use Rattle.mh_type.specs.declared.kind.Kind.TheVariants as kind
use Rattle.mh_type.specs.declared.operation.Op.{Op}
use Rattle.mh_type.specs.declared.operation.Op.TheVariants as op

abbrev pub is_number : Kind → Bool
is_number kind.Int = true
is_number kind.Long = true
is_number _ = false

abbrev pub compares_ints : Op → Bool
compares_ints op.Ieq = true
compares_ints op.Ilt = true
compares_ints _ = false

abbrev pub compares_longs : Op → Bool
compares_longs op.Leq = true
compares_longs op.Llt = true
compares_longs _ = false

-- the operation compares two numbers of these kinds
abbrev pub compares_numbers : Op → Kind → Kind → Bool
compares_numbers o kind.Int kind.Int = compares_ints o
compares_numbers o kind.Long kind.Long = compares_longs o
compares_numbers _ _ _ = false
