-- The four kinds of value, their names and their equality.
use Rattle.std.specs.Prelude.{ℕ, Bool, true, false, ◌&&◌, List, [], ◌∷◌, Option, Some, None, codes}
use Rattle.mh_base.specs.Words.{at_word}
use Rattle.mh_type.specs.declared.kind.Kind.{Kind}
use Rattle.mh_type.specs.declared.kind.Kind.TheVariants as kind
use Rattle.mh_type.specs.declared.value.Value.{Value}
use Rattle.mh_type.specs.declared.value.Value.TheVariants.{Int, Long, Boolean, Text}

-- the kind of a value
abbrev pub kind_of : Value → Kind
kind_of (Int number) = kind.Int
kind_of (Long number) = kind.Long
kind_of (Boolean truth) = kind.Boolean
kind_of (Text text) = kind.Text

-- the name of a kind
abbrev pub kind_name : Kind → List ℕ
kind_name kind.Int = codes "int"
kind_name kind.Long = codes "long"
kind_name kind.Boolean = codes "boolean"
kind_name kind.Text = codes "String"

-- the kinds by their names
abbrev pub kinds : List (List ℕ × Option Kind)
kinds =
    (codes "int", Some kind.Int)
    ∷ (codes "long", Some kind.Long)
    ∷ (codes "boolean", Some kind.Boolean)
    ∷ (codes "String", Some kind.Text)
    ∷ []

-- the kind with a name
abbrev pub kind_named : List ℕ → Option Kind
kind_named name = at_word kinds name None

-- whether two kinds are equal, as a test that computes
abbrev pub kind_eq : Kind → Kind → Bool
kind_eq kind.Int kind.Int = true
kind_eq kind.Long kind.Long = true
kind_eq kind.Boolean kind.Boolean = true
kind_eq kind.Text kind.Text = true
kind_eq _ _ = false

-- whether two lists of kinds are equal
abbrev pub kinds_eq : List Kind → List Kind → Bool
kinds_eq [] [] = true
kinds_eq [] (j ∷ js) = false
kinds_eq (k ∷ ks) [] = false
kinds_eq (k ∷ ks) (j ∷ js) = kind_eq k j && kinds_eq ks js
