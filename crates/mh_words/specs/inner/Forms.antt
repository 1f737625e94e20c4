-- The operation on words that computes an operation on two numbers.
use Rattle.std.specs.Prelude.{Option, Some, None}
use Rattle.mh_type.specs.declared.kind.Kind.{Kind}
use Rattle.mh_type.specs.declared.kind.Kind.TheVariants as kind
use Rattle.mh_type.specs.declared.operation.Op.{Op}
use Rattle.mh_type.specs.declared.operation.Op.TheVariants.{Iadd, Isub, Imul, Idiv, Irem, Ieq, Ilt, Ladd, Lsub, Lmul, Ldiv, Lrem, Leq, Llt, Beq}
use Rattle.mh_words.specs.declared.form.Form.{Form}
use Rattle.mh_words.specs.declared.operation.WordOperation.{WordOperation}
use Rattle.mh_words.specs.declared.operation.WordOperation.TheVariants.{IntAdd, IntSubtract, IntMultiply, IntDivide, IntRemainder, LongAdd, LongSubtract, LongMultiply, LongDivide, LongRemainder, Equal, Less}

abbrev form : WordOperation → Kind → Kind → Option Form
form op takes returns = Some (record { operation = op; takes = takes; returns = returns })

abbrev pub form_of : Op → Option Form
form_of Iadd = form IntAdd kind.Int kind.Int
form_of Isub = form IntSubtract kind.Int kind.Int
form_of Imul = form IntMultiply kind.Int kind.Int
form_of Idiv = form IntDivide kind.Int kind.Int
form_of Irem = form IntRemainder kind.Int kind.Int
form_of Ieq = form Equal kind.Int kind.Boolean
form_of Ilt = form Less kind.Int kind.Boolean
form_of Ladd = form LongAdd kind.Long kind.Long
form_of Lsub = form LongSubtract kind.Long kind.Long
form_of Lmul = form LongMultiply kind.Long kind.Long
form_of Ldiv = form LongDivide kind.Long kind.Long
form_of Lrem = form LongRemainder kind.Long kind.Long
form_of Leq = form Equal kind.Long kind.Boolean
form_of Llt = form Less kind.Long kind.Boolean
form_of Beq = form Equal kind.Boolean kind.Boolean
form_of _ = None
