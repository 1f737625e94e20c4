-- Values and outcomes at the boundary to C.
use Rattle.std.specs.List.{All}
use Rattle.std.specs.Prelude.{◌≡◌, ◌≢◌, ℕ, ◌^◌, ◌-◌, ℤ, pos, FitsSigned, Bool, true, false, List, [], ◌∷◌, drop, length, min, take, Option, Some, None}
use Rattle.core.specs.Int.{w32}
use Rattle.mh_core.specs.declared.reply.Reply.{Reply}
use Rattle.mh_core.specs.declared.reply.Reply.TheVariants.{Called}
use Rattle.mh_core.specs.Outcome.{Outcome}
use Rattle.mh_core.specs.Outcome.TheVariants as outcome
use Rattle.mh_core.specs.Value.{Value}
use Rattle.mh_core.specs.Value.TheVariants.{Int, Long, Boolean, Text}
use Rattle.mh_type.specs.Printable.{is_text}
use Rattle.mh_type.specs.declared.outcome.Throw.TheVariants.{ArithmeticException, TextTooLong}
use Rattle.mhlink_c.specs.declared.value.MhlinkReply.{MhlinkReply}
use Rattle.mhlink_c.specs.declared.value.MhlinkValue.{MhlinkValue}

abbrev pub truth_number : Bool → ℤ
truth_number true = pos 1
truth_number false = pos 0

abbrev pub value_kind : Value → ℕ
value_kind (Int n) = 1
value_kind (Long n) = 2
value_kind (Boolean b) = 3
value_kind (Text t) = 4

-- the number, or the count of a text's bytes
abbrev pub value_number : Value → ℤ
value_number (Int n) = n
value_number (Long n) = n
value_number (Boolean b) = truth_number b
value_number (Text t) = pos (length t)

-- the bytes that a value has among the texts of a call
abbrev pub bytes_of : Value → List ℕ
bytes_of (Text t) = t
bytes_of _ = []

-- an int has 32 bits, and a text is lawful; a long has 64 bits and a boolean is true or false in any case
abbrev pub IsOfItsKind : Value → Type 0
IsOfItsKind (Int n) = FitsSigned w32 n
IsOfItsKind (Text t) = is_text t ≡ true
IsOfItsKind _ = Unit {0}

-- the argument from C is this value, whose bytes begin the texts
pub record IsValue (v : MhlinkValue) (texts : List ℕ) (x : Value) : Type 0 where
  pub lawful : IsOfItsKind x
  pub kind : v.kind ≡ value_kind x
  pub number : v.number ≡ value_number x
  pub bytes : take (length (bytes_of x)) texts ≡ bytes_of x

-- no text of so many bytes begins the texts
abbrev pub IsNoText : ℤ → List ℕ → Type 0
IsNoText count texts = (t : List ℕ) → count ≡ pos (length t) → take (length t) texts ≡ t → is_text t ≡ true → ⊥

-- the values in order, with their bytes in order
abbrev pub AreValues : List MhlinkValue → List ℕ → List Value → Type 0
AreValues [] texts [] = Unit {0}
AreValues (v ∷ vs) texts (x ∷ xs) = IsValue v texts x × AreValues vs (drop (length (bytes_of x)) texts) xs
AreValues _ texts _ = ⊥

-- they are not the values of any list
abbrev pub AreNoValues : List MhlinkValue → List ℕ → Type 0
AreNoValues given texts = (xs : List Value) → AreValues given texts xs → ⊥

-- none of them is a text
abbrev pub HaveNoText : List MhlinkValue → Type 0
HaveNoText given = All (λ v. v.kind ≢ 4) given

-- the reply's kind and number for an outcome
abbrev pub reply_kind : Outcome → ℕ
reply_kind (outcome.Value x) = value_kind x
reply_kind (outcome.Thrown t) = 5

abbrev pub reply_number : Outcome → ℤ
reply_number (outcome.Value x) = value_number x
reply_number (outcome.Thrown ArithmeticException) = pos 1
reply_number (outcome.Thrown TextTooLong) = pos 2

-- the steps, or the greatest number if there are more
abbrev pub reply_steps : ℕ → ℕ
reply_steps steps = min steps (2 ^ 64 - 1)

-- the reply of a call
abbrev pub IsReply : MhlinkReply → Reply → Type 0
IsReply r (Called o steps) = (r.kind ≡ reply_kind o) × ((r.number ≡ reply_number o) × (r.steps ≡ reply_steps steps))
IsReply r _ = ⊥

-- the text that a call returned, if it returned one
abbrev pub text_of_outcome : Outcome → Option (List ℕ)
text_of_outcome (outcome.Value (Text t)) = Some t
text_of_outcome _ = None

abbrev pub text_of_reply : Reply → Option (List ℕ)
text_of_reply (Called o steps) = text_of_outcome o
text_of_reply _ = None
