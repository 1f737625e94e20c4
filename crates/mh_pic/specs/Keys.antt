-- Key tests: the trees that test whether the argument at the key position is a key. The kinds are those of the parameters before the key
-- position, so their number is the position.
use Rattle.std.specs.Prelude.{Bool, ◌&&◌, Option, Some, None, List, [], ◌∷◌, nat_eq, if◌then◌else◌}
use Rattle.mh_type.specs.declared.kind.Kind.{Kind}
use Rattle.mh_type.specs.declared.kind.Kind.TheVariants as kind
use Rattle.mh_type.specs.declared.operation.Op.{Op}
use Rattle.mh_type.specs.declared.operation.Op.TheVariants.{Ieq, Leq, Beq, Seq}
use Rattle.mh_type.specs.declared.value.Value.{Value}
use Rattle.mh_type.specs.Kinds.{kind_of, kind_eq, kinds_eq}
use Rattle.mh_type.specs.Values.{same_value}
use Rattle.mh_tree.specs.Tree.{Tree, operation, insert, discard}

-- the equality of a kind
abbrev pub equality : Kind → Op
equality kind.Int = Ieq
equality kind.Long = Leq
equality kind.Boolean = Beq
equality kind.Text = Seq

-- the test of whether the first argument is the key
abbrev pub first_test : Value → Tree
first_test key = insert (operation (equality (kind_of key))) 1 (key ∷ [])

-- the test of whether the argument after these kinds is the key: the arguments before it are dropped
abbrev pub key_test : List Kind → Value → Tree
key_test [] key = first_test key
key_test (k ∷ kinds) key = discard (first_test key) 0 (k ∷ kinds)

-- the kind whose equality an operation is
abbrev pub equality_kind : Op → Option Kind
equality_kind Ieq = Some kind.Int
equality_kind Leq = Some kind.Long
equality_kind Beq = Some kind.Boolean
equality_kind Seq = Some kind.Text
equality_kind _ = None

-- the only value of a list, if it has the kind
abbrev pub one_of_kind : Option Kind → List Value → Option Value
one_of_kind (Some k) (x ∷ []) = if kind_eq (kind_of x) k then Some x else None
one_of_kind _ _ = None

-- the key of a test of the first argument
abbrev pub first_key : Tree → Option Value
first_key (insert (operation o) p xs) = if nat_eq p 1 then one_of_kind (equality_kind o) xs else None
first_key _ = None

-- the key of a key test after these kinds; none for any other tree
abbrev pub key_in : List Kind → Tree → Option Value
key_in [] t = first_key t
key_in (k ∷ kinds) (discard t p ks) = if nat_eq p 0 && kinds_eq (k ∷ kinds) ks then first_key t else None
key_in _ _ = None

-- the answer of a key test of the key's kind if the argument is the key
abbrev pub decided : Value → Option Value → Option Bool
decided key (Some x) = if kind_eq (kind_of x) (kind_of key) then Some (same_value key x) else None
decided key None = None
