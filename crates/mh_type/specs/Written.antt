-- The text of a method type, and the type of a text.
use Rattle.std.specs.Prelude.{ℕ, List, [], ◌∷◌, ◌++◌, length, nat_le, Option, Some, None, Result, Ok, Err, if◌then◌else◌, ◌==◌}
use Rattle.std.specs.List.{flat_map, slice_split, before_first, after_first}
use Rattle.mh_type.specs.declared.kind.Kind.{Kind}
use Rattle.mh_type.specs.declared.fault.TypeFault.{TypeFault}
use Rattle.mh_type.specs.declared.fault.TypeFault.TheVariants.{TooManyParameters, BadText}
use Rattle.mh_type.specs.Kinds.{kind_name, kind_named}
use Rattle.mh_type.specs.Signature.{Signature}
use Rattle.mh_type.specs.Limits.{most_parameters}

-- the names of kinds with commas between them
abbrev pub listed : List Kind → List ℕ
listed [] = []
listed (k ∷ ks) = kind_name k ++ flat_map (λ j. 44 ∷ kind_name j) ks

-- `(`, the parameter kinds with commas between them, `)`, and the return kind
abbrev pub written : Signature → List ℕ
written m = 40 ∷ listed m.parameters ++ (41 ∷ kind_name m.ret)

infixl 10 ◌>>=◌
-- continues with a value, if there is one
abbrev pub ◌>>=◌ : {A B : Type 0} → Option A → (A → Option B) → Option B
None >>= go = None
(Some x) >>= go = go x

-- the kinds with these names, if each names one
abbrev pub kinds_named : List (List ℕ) → Option (List Kind)
kinds_named [] = Some []
kinds_named (name ∷ names) = do
  k ← kind_named name
  ks ← kinds_named names
  Some (k ∷ ks)

-- the kinds of a list with commas between them, which may be empty
abbrev pub kinds_listed : List ℕ → Option (List Kind)
kinds_listed [] = Some []
kinds_listed (b ∷ bs) = kinds_named (slice_split (λ c. c == 44) (b ∷ bs))

-- the limit on parameters
abbrev pub within_parameters : Option Signature → Result Signature TypeFault
within_parameters None = Err BadText
within_parameters (Some m) = if nat_le (length m.parameters) most_parameters then Ok m else Err TooManyParameters

-- the type with this return kind and the parameters of a list
abbrev pub with_list : Kind → List ℕ → Option Signature
with_list ret list = do
  parameters ← kinds_listed list
  Some (record { ret = ret; parameters = parameters })

abbrev pub parameters_read : Kind → List ℕ → Result Signature TypeFault
parameters_read ret list = within_parameters (with_list ret list)

-- the rest of the text after `(`: the list up to the first `)`, and then the return kind
abbrev pub signature_behind : List ℕ → Option Signature
signature_behind bs = do
  ret ← kind_named (after_first (λ c. c == 41) bs)
  with_list ret (before_first (λ c. c == 41) bs)

-- the type of a text, with any number of parameters
abbrev pub signature_in : List ℕ → Option Signature
signature_in [] = None
signature_in (b ∷ bs) = if b == 40 then signature_behind bs else None

-- the result of reading a text: it is a law of `MethodType::parse` that this is the inverse of `written`
abbrev pub parsed : List ℕ → Result Signature TypeFault
parsed text = within_parameters (signature_in text)
