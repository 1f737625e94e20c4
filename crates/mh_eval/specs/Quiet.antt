-- Code that runs without further memory: the parts that run return no text, and join none.
use Rattle.std.specs.Prelude.{◌≡◌, ℕ, ◌+◌, max, List, [], ◌∷◌, ◌++◌, map}
use Rattle.mh_type.specs.declared.kind.Kind.TheVariants as kind
use Rattle.mh_type.specs.declared.operation.Op.TheVariants.{Concat}
use Rattle.mh_type.specs.declared.value.Value.{Value}
use Rattle.mh_type.specs.Kinds.{kind_of}
use Rattle.mh_tree.specs.Meaning.{is_valid}
use Rattle.mh_tree.specs.Code.{Code, leaf, apply, bind, branch, point, invoke}
use Rattle.mh_tree.specs.Running.{run_code, value_of}
use Rattle.mh_eval.specs.Entered.{WithValue, Chosen, OneOf, IsPlainKind, plain_below}
use Rattle.mh_eval.specs.declared.answer.Answer.{Answer}
use Rattle.mh_eval.specs.declared.answer.Answer.TheVariants.{NoMemory}
use Rattle.mh_tree.specs.Sites.{Setting, env}

-- values other than texts
abbrev pub NoTexts : List Value → Type 0
NoTexts [] = Unit {0}
NoTexts (x ∷ xs) = IsPlainKind (kind_of x) × NoTexts xs

-- its leaves return no text, and its operations join none, as far as they run
abbrev pub IsQuiet : Setting → Code → List Value → List Value → Type 0
IsQuiet v (leaf s o) a l = kind_of (value_of a l o) ≡ kind.Text → ⊥
IsQuiet v (apply s op x y) a l = op ≡ Concat → ⊥
IsQuiet v (bind s f g) a l = IsQuiet v f a l × WithValue (run_code (env v) f a l) (λ x. IsQuiet v g a (l ++ x ∷ []))
IsQuiet v (branch s c x y) a l = IsQuiet v c a l × WithValue (run_code (env v) c a l) (λ b. Chosen b (IsQuiet v x a l) (IsQuiet v y a l))
IsQuiet v (point s p x y) a l = OneOf (is_valid (env v) p) (IsQuiet v x a l) (IsQuiet v y a l)
IsQuiet v (invoke s k os) a l = NoTexts (map (value_of a l) os) × plain_below v.level v.valid v.targets k (map (value_of a l) os)

-- the greatest number of locals at once
abbrev pub deep : Code → ℕ
deep (leaf s o) = 0
deep (apply s op x y) = 0
deep (bind s f g) = max (deep f) (1 + deep g)
deep (branch s c x y) = max (deep c) (max (deep x) (deep y))
deep (point s p x y) = max (deep x) (deep y)
deep (invoke s k os) = 0

-- memory was not refused
abbrev pub IsAnswered : Answer → Type 0
IsAnswered NoMemory = ⊥
IsAnswered _ = Unit {0}
