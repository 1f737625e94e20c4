-- The texts of operations, values and outcomes.
use Rattle.std.specs.Prelude.{ℕ, true, false, List, [], ◌∷◌, ◌++◌, codes, if◌then◌else◌, ◌==◌, ◌||◌}
use Rattle.std.specs.Fmt.{signed_decimal}
use Rattle.std.specs.List.{flat_map}
use Rattle.mh_type.specs.declared.value.Value as value
use Rattle.mh_type.specs.declared.value.Value.TheVariants.{Int, Long, Boolean, Text}
use Rattle.mh_type.specs.declared.outcome.Outcome.{Outcome}
use Rattle.mh_type.specs.declared.outcome.Outcome.TheVariants.{Value, Thrown}
use Rattle.mh_type.specs.declared.outcome.Throw.{Throw}
use Rattle.mh_type.specs.declared.outcome.Throw.TheVariants.{ArithmeticException, TextTooLong}
use Rattle.mh_type.specs.declared.operation.Op.{Op}
use Rattle.mh_type.specs.declared.operation.Op.TheVariants.{Iadd, Isub, Imul, Idiv, Irem, Ineg, Ieq, Ilt, Ladd, Lsub, Lmul, Ldiv, Lrem, Lneg, Leq, Llt, I2l, L2i, Not, Beq, Concat, Seq, Len}

-- the name of an operation
abbrev pub op_name : Op → List ℕ
op_name Iadd = codes "iadd"
op_name Isub = codes "isub"
op_name Imul = codes "imul"
op_name Idiv = codes "idiv"
op_name Irem = codes "irem"
op_name Ineg = codes "ineg"
op_name Ieq = codes "ieq"
op_name Ilt = codes "ilt"
op_name Ladd = codes "ladd"
op_name Lsub = codes "lsub"
op_name Lmul = codes "lmul"
op_name Ldiv = codes "ldiv"
op_name Lrem = codes "lrem"
op_name Lneg = codes "lneg"
op_name Leq = codes "leq"
op_name Llt = codes "llt"
op_name I2l = codes "i2l"
op_name L2i = codes "l2i"
op_name Not = codes "not"
op_name Beq = codes "beq"
op_name Concat = codes "concat"
op_name Seq = codes "seq"
op_name Len = codes "len"

-- a byte between quotes: 34 is a quote, 92 a backslash, and each is preceded by a backslash
abbrev pub escaped : ℕ → List ℕ
escaped b = if b == 34 || b == 92 then 92 ∷ b ∷ [] else b ∷ []

-- a text between quotes
abbrev pub quoted : List ℕ → List ℕ
quoted text = 34 ∷ flat_map escaped text ++ 34 ∷ []

-- a value: its kind, and its content
abbrev pub value_text : value.Value → List ℕ
value_text (Int z) = codes "int " ++ signed_decimal z
value_text (Long z) = codes "long " ++ signed_decimal z
value_text (Boolean true) = codes "boolean true"
value_text (Boolean false) = codes "boolean false"
value_text (Text bytes) = codes "String " ++ quoted bytes

-- the name of an exception
abbrev pub throw_name : Throw → List ℕ
throw_name ArithmeticException = codes "ArithmeticException"
throw_name TextTooLong = codes "TextTooLong"

-- the outcome of a call
abbrev pub outcome_text : Outcome → List ℕ
outcome_text (Value value) = value_text value
outcome_text (Thrown thrown) = codes "thrown " ++ throw_name thrown
