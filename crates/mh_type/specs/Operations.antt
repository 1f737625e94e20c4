-- The leaf operations: their names, their types and their results (Java Language Specification, Java SE 17).
use Rattle.std.specs.Prelude.{ℕ, ◌+◌, ℤ, pos, ◌+ℤ◌, ◌-ℤ◌, ◌*ℤ◌, neg_ℤ, int_lt, Bool, true, false, not, ◌&&◌, List, [], ◌∷◌, ◌++◌, length, nat_le, Option, Some, None, codes, if◌then◌else◌}
use Rattle.std.specs.Int.{int_wrap, int_wrapping_div, w32, w64}
use Rattle.std.specs.Int.RustNames.{int_rem}
use Rattle.std.specs.Str.{bytes_eq}
use Rattle.mh_base.specs.Words.{at_word}
use Rattle.mh_type.specs.declared.kind.Kind.{Kind}
use Rattle.mh_type.specs.declared.kind.Kind.TheVariants as kind
use Rattle.mh_type.specs.declared.value.Value.{Value}
use Rattle.mh_type.specs.declared.value.Value.TheVariants.{Int, Long, Boolean, Text}
use Rattle.mh_type.specs.declared.outcome.Outcome.{Outcome}
use Rattle.mh_type.specs.declared.outcome.Outcome.TheVariants as outcome
use Rattle.mh_type.specs.declared.outcome.Throw.TheVariants.{ArithmeticException, TextTooLong}
use Rattle.mh_type.specs.declared.operation.Op.{Op}
use Rattle.mh_type.specs.declared.operation.Op.TheVariants.{Iadd, Isub, Imul, Idiv, Irem, Ineg, Ieq, Ilt, Ladd, Lsub, Lmul, Ldiv, Lrem, Lneg, Leq, Llt, I2l, L2i, Not, Beq, Concat, Seq, Len}
use Rattle.mh_type.specs.Signature.{Signature}
use Rattle.mh_type.specs.Limits.{longest_text}

-- the operations by their names
abbrev pub operations : List (List ℕ × Option Op)
operations =
    (codes "iadd", Some Iadd)
    ∷ (codes "isub", Some Isub)
    ∷ (codes "imul", Some Imul)
    ∷ (codes "idiv", Some Idiv)
    ∷ (codes "irem", Some Irem)
    ∷ (codes "ineg", Some Ineg)
    ∷ (codes "ieq", Some Ieq)
    ∷ (codes "ilt", Some Ilt)
    ∷ (codes "ladd", Some Ladd)
    ∷ (codes "lsub", Some Lsub)
    ∷ (codes "lmul", Some Lmul)
    ∷ (codes "ldiv", Some Ldiv)
    ∷ (codes "lrem", Some Lrem)
    ∷ (codes "lneg", Some Lneg)
    ∷ (codes "leq", Some Leq)
    ∷ (codes "llt", Some Llt)
    ∷ (codes "i2l", Some I2l)
    ∷ (codes "l2i", Some L2i)
    ∷ (codes "not", Some Not)
    ∷ (codes "beq", Some Beq)
    ∷ (codes "concat", Some Concat)
    ∷ (codes "seq", Some Seq)
    ∷ (codes "len", Some Len)
    ∷ []

-- the operation with a name
abbrev pub op_named : List ℕ → Option Op
op_named name = at_word operations name None

-- the types with two parameters of a kind, and with one
abbrev pub two : Kind → Kind → Signature
two k ret = record { ret = ret; parameters = k ∷ k ∷ [] }

abbrev pub one : Kind → Kind → Signature
one k ret = record { ret = ret; parameters = k ∷ [] }

-- the type of an operation
abbrev pub op_signature : Op → Signature
op_signature Iadd = two kind.Int kind.Int
op_signature Isub = two kind.Int kind.Int
op_signature Imul = two kind.Int kind.Int
op_signature Idiv = two kind.Int kind.Int
op_signature Irem = two kind.Int kind.Int
op_signature Ineg = one kind.Int kind.Int
op_signature Ieq = two kind.Int kind.Boolean
op_signature Ilt = two kind.Int kind.Boolean
op_signature Ladd = two kind.Long kind.Long
op_signature Lsub = two kind.Long kind.Long
op_signature Lmul = two kind.Long kind.Long
op_signature Ldiv = two kind.Long kind.Long
op_signature Lrem = two kind.Long kind.Long
op_signature Lneg = one kind.Long kind.Long
op_signature Leq = two kind.Long kind.Boolean
op_signature Llt = two kind.Long kind.Boolean
op_signature I2l = one kind.Int kind.Long
op_signature L2i = one kind.Long kind.Int
op_signature Not = one kind.Boolean kind.Boolean
op_signature Beq = two kind.Boolean kind.Boolean
op_signature Concat = two kind.Text kind.Text
op_signature Seq = two kind.Text kind.Boolean
op_signature Len = one kind.Text kind.Int

-- a number wrapped to 32 and to 64 bits (4.2.2: "the integer operators do not indicate overflow")
abbrev pub int_result : ℤ → Outcome
int_result z = outcome.Value (Int (int_wrap w32 z))

abbrev pub long_result : ℤ → Outcome
long_result z = outcome.Value (Long (int_wrap w64 z))

abbrev pub truth : Bool → Outcome
truth b = outcome.Value (Boolean b)

-- the outcome for arguments of other kinds, which typed trees never pass
abbrev pub misfit : Outcome
misfit = outcome.Value (Boolean false)

abbrev pub with_int : Value → (ℤ → Outcome) → Outcome
with_int (Int x) go = go x
with_int _ go = misfit

abbrev pub with_long : Value → (ℤ → Outcome) → Outcome
with_long (Long x) go = go x
with_long _ go = misfit

abbrev pub with_boolean : Value → (Bool → Outcome) → Outcome
with_boolean (Boolean b) go = go b
with_boolean _ go = misfit

abbrev pub with_text : Value → (List ℕ → Outcome) → Outcome
with_text (Text t) go = go t
with_text _ go = misfit

-- the first argument, and the second
abbrev pub first : List Value → (Value → Outcome) → Outcome
first [] go = misfit
first (x ∷ rest) go = go x

abbrev pub second : List Value → (Value → Outcome) → Outcome
second [] go = misfit
second (x ∷ rest) go = first rest go

abbrev pub two_ints : List Value → (ℤ → ℤ → Outcome) → Outcome
two_ints a go = first a (λ x. second a (λ y. with_int x (λ m. with_int y (λ n. go m n))))

abbrev pub two_longs : List Value → (ℤ → ℤ → Outcome) → Outcome
two_longs a go = first a (λ x. second a (λ y. with_long x (λ m. with_long y (λ n. go m n))))

abbrev pub two_booleans : List Value → (Bool → Bool → Outcome) → Outcome
two_booleans a go = first a (λ x. second a (λ y. with_boolean x (λ b. with_boolean y (λ c. go b c))))

abbrev pub two_texts : List Value → (List ℕ → List ℕ → Outcome) → Outcome
two_texts a go = first a (λ x. second a (λ y. with_text x (λ s. with_text y (λ t. go s t))))

abbrev pub one_int : List Value → (ℤ → Outcome) → Outcome
one_int a go = first a (λ x. with_int x go)

abbrev pub one_long : List Value → (ℤ → Outcome) → Outcome
one_long a go = first a (λ x. with_long x go)

-- equal numbers (15.21.1), and booleans (15.21.2)
abbrev pub is_zero : ℤ → Bool
is_zero z = not (int_lt z (pos 0)) && not (int_lt (pos 0) z)

abbrev pub int_eq : ℤ → ℤ → Bool
int_eq x y = not (int_lt x y) && not (int_lt y x)

abbrev pub truth_eq : Bool → Bool → Bool
truth_eq true c = c
truth_eq false c = not c

-- the result of a division, or a throw if the divisor is zero (15.17.2, 15.17.3)
abbrev pub divided : (ℤ → Value) → (ℤ → ℤ → ℤ) → ℤ → ℤ → Outcome
divided make by x y = if is_zero y then outcome.Thrown ArithmeticException else outcome.Value (make (by x y))

-- the concatenation of two texts (15.18.1), or a throw if it is longer than 65,536 bytes
abbrev pub joined : List ℕ → List ℕ → Outcome
joined s t = if nat_le (length s + length t) longest_text then outcome.Value (Text (s ++ t)) else outcome.Thrown TextTooLong

-- The outcome of an operation on arguments, of which it reads the leading ones. `int_wrapping_div` is the
-- quotient truncated towards zero and wrapped, so the least value by -1 is the least value (15.17.2);
-- `int_rem` is the remainder of that division, with the dividend's sign (15.17.3).
abbrev pub operate : Op → List Value → Outcome
operate Iadd a = two_ints a (λ x y. int_result (x +ℤ y))
operate Isub a = two_ints a (λ x y. int_result (x -ℤ y))
operate Imul a = two_ints a (λ x y. int_result (x *ℤ y))
operate Idiv a = two_ints a (divided Int (int_wrapping_div w32))
operate Irem a = two_ints a (divided Int int_rem)
operate Ineg a = one_int a (λ x. int_result (neg_ℤ x))
operate Ieq a = two_ints a (λ x y. truth (int_eq x y))
operate Ilt a = two_ints a (λ x y. truth (int_lt x y))
operate Ladd a = two_longs a (λ x y. long_result (x +ℤ y))
operate Lsub a = two_longs a (λ x y. long_result (x -ℤ y))
operate Lmul a = two_longs a (λ x y. long_result (x *ℤ y))
operate Ldiv a = two_longs a (divided Long (int_wrapping_div w64))
operate Lrem a = two_longs a (divided Long int_rem)
operate Lneg a = one_long a (λ x. long_result (neg_ℤ x))
operate Leq a = two_longs a (λ x y. truth (int_eq x y))
operate Llt a = two_longs a (λ x y. truth (int_lt x y))
operate I2l a = one_int a (λ x. outcome.Value (Long x))
operate L2i a = one_long a int_result
operate Not a = first a (λ x. with_boolean x (λ b. truth (not b)))
operate Beq a = two_booleans a (λ b c. truth (truth_eq b c))
operate Concat a = two_texts a joined
operate Seq a = two_texts a (λ s t. truth (bytes_eq s t))
operate Len a = first a (λ x. with_text x (λ s. outcome.Value (Int (pos (length s)))))
