-- The number of parameters of a tree.
use Rattle.std.specs.Prelude.{ℕ, ◌+◌, ◌-◌, length}
use Rattle.mh_type.specs.Operations.{op_signature}
use Rattle.mh_tree.specs.Tree.{Tree, constant, identity, operation, insert, discard, permute, filter, filter_return, fold, guard, point, invoke}

-- the number of leading arguments that a test or a combiner takes
abbrev pub arity : Tree → ℕ
arity (constant x) = 0
arity (identity k) = 1
arity (operation o) = length (op_signature o).parameters
arity (insert t p xs) = arity t - length xs
arity (discard t p ks) = arity t + length ks
arity (permute t m r) = length m.parameters
arity (filter t p fs) = arity t
arity (filter_return t f) = arity t
arity (fold t c) = arity t - 1
arity (guard c x y) = arity x
arity (point p x y) = arity x
arity (invoke s n) = length n.parameters
