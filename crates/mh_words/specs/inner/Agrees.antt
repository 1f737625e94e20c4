-- Facts known about the arguments and locals of a routine, and frames that agree with them.
use Rattle.std.specs.Prelude.{◌≡◌, ℕ, ◌<◌, ◌≤◌, ℤ, List, [], ◌∷◌, length, IfSome}
use Rattle.mh_type.specs.declared.kind.Kind.{Kind}
use Rattle.mh_type.specs.declared.outcome.Outcome.{Outcome}
use Rattle.mh_type.specs.declared.value.Value.{Value}
use Rattle.mh_type.specs.Fits.{Fits}
use Rattle.mh_type.specs.Kinds.{kind_of}
use Rattle.mh_type.specs.Signature.{Signature}
use Rattle.mh_words.specs.Holds.{Holds}
use Rattle.mh_words.specs.Limits.{argument_slots}
use Rattle.mh_words.specs.Running.{word_at, source_word, outcome_of}
use Rattle.mh_words.specs.Values.{IsWord, value_of_word}
use Rattle.mh_words.specs.declared.input.Input.{Input}
use Rattle.mh_words.specs.declared.input.Input.TheVariants.{Read, Constant}
use Rattle.mh_words.specs.declared.known.Known.{Known}
use Rattle.mh_words.specs.declared.made.Made.{Made}

abbrev pub input_word : List ℤ → Input → ℤ
input_word f (Read s) = word_at f s.place
input_word f (Constant n) = n

-- a word that represents a value of a kind
abbrev pub HasWord : Kind → Value → ℤ → Type 0
HasWord k x w = (kind_of x ≡ k) × IsWord x w

abbrev pub IsKnown : List ℤ → Known → Value → Type 0
IsKnown f k x = HasWord k.kind x (input_word f k.input)

abbrev pub AreKnown : List ℤ → List Known → List Value → Type 0
AreKnown f [] [] = Unit {0}
AreKnown f (k ∷ ks) (x ∷ xs) = IsKnown f k x × AreKnown f ks xs
AreKnown f [] (x ∷ xs) = ⊥
AreKnown f (k ∷ ks) [] = ⊥

-- arguments that fit a type, locals of which this is known, and a frame that has their words
pub record Agrees (m : Signature) (ks : List Known) (a l : List Value) (f : List ℤ) : Type 0 where
  pub fits : Fits m a
  pub few : length m.parameters ≤ argument_slots
  pub held : Holds a f
  pub locals : AreKnown f ks l

-- an input that no slot from n on changes
abbrev pub IsBelow : ℕ → Input → Type 0
IsBelow n (Read s) = s.place < n
IsBelow n (Constant w) = Unit {0}

abbrev pub AllBelow : ℕ → List Known → Type 0
AllBelow n [] = Unit {0}
AllBelow n (k ∷ ks) = IsBelow n k.input × AllBelow n ks

-- a source of a kind that has an outcome, and whose word represents its value
pub record Gives (y : Made) (f : List ℤ) (o : Outcome) : Type 0 where
  pub outcome : o ≡ outcome_of y.kind (source_word f y.source)
  pub proper : IfSome (source_word f y.source) (λ w. IsWord (value_of_word y.kind w) w)
