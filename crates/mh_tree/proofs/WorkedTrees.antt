-- Worked trees: what they give, in how many steps, computed.
use Rattle.std.proofs.Common.{◌≡◌, ℕ, refl, [], ◌∷◌, true, false, lit≤}
use Rattle.std.specs.Prelude.{pos, negsuc}
use Rattle.std.specs.Int.{int_wrap}
use Rattle.mh_type.specs.declared.kind.Kind.TheVariants as kind
use Rattle.mh_type.specs.declared.value.Value.{Value}
use Rattle.mh_type.specs.declared.value.Value.TheVariants.{Int}
use Rattle.mh_type.specs.declared.outcome.Outcome.TheVariants as outcome
use Rattle.mh_type.specs.declared.outcome.Throw.TheVariants.{ArithmeticException}
use Rattle.mh_type.specs.declared.operation.Op.TheVariants.{Iadd, Imul, Idiv, Ineg, Ieq}
use Rattle.mh_type.specs.Signature.{Signature}
use Rattle.mh_tree.specs.Tree.{Tree, constant, operation, insert, discard, guard, point, permute, filter, fold, no_more, present}
use Rattle.mh_tree.specs.Meaning.{mean, steps}
use Rattle.mh_tree.specs.Typing.{IsTyped}
use Rattle.mh_tree.specs.Limits.{depth, size, point_bound}
use Rattle.mh_tree.specs.Environment.{with_points}

abbrev int : ℕ → Value
int n = Int (pos n)

abbrev unary : Signature
unary = record { ret = kind.Int; parameters = kind.Int ∷ [] }

-- the target of the example site
abbrev base : Tree
base = point 0 (guard (insert (operation Ieq) 1 (int 1 ∷ [])) (discard (constant (int 100)) 0 (kind.Int ∷ [])) (insert (operation Iadd) 1 (int 1 ∷ []))) (operation Ineg)

f_one : mean (with_points (true ∷ true ∷ [])) base (int 1 ∷ []) ≡ outcome.Value (int 100)
f_one = refl

f_one_steps : steps (with_points (true ∷ true ∷ [])) base (int 1 ∷ []) ≡ 6
f_one_steps = refl

f_two : mean (with_points (true ∷ true ∷ [])) base (int 2 ∷ []) ≡ outcome.Value (int 3)
unfolding int_wrap
f_two = refl

f_invalid : mean (with_points (false ∷ true ∷ [])) base (int 1 ∷ []) ≡ outcome.Value (Int (negsuc 0))
unfolding int_wrap
f_invalid = refl

-- a filter throws before its target runs
quotients : Tree
quotients = filter (operation Iadd) 0 (present (insert (operation Idiv) 0 (int 10 ∷ [])) (present (insert (operation Idiv) 0 (int 7 ∷ [])) no_more))

throws : mean (with_points []) quotients (int 0 ∷ int 0 ∷ []) ≡ outcome.Thrown ArithmeticException
unfolding quotients
throws = refl

throws_steps : steps (with_points []) quotients (int 0 ∷ int 0 ∷ []) ≡ 3
unfolding quotients
throws_steps = refl

sum_steps : steps (with_points []) quotients (int 5 ∷ int 2 ∷ []) ≡ 6
unfolding quotients
sum_steps = refl

sum : mean (with_points []) quotients (int 5 ∷ int 2 ∷ []) ≡ outcome.Value (int 5)
unfolding quotients int_wrap
sum = refl

-- a guard runs the chosen branch alone: on 0 the other would throw
chosen : Tree
chosen = guard (insert (operation Ieq) 1 (int 0 ∷ [])) (discard (constant (int 7)) 0 (kind.Int ∷ [])) (insert (operation Idiv) 0 (int 10 ∷ []))

chosen_target : mean (with_points []) chosen (int 0 ∷ []) ≡ outcome.Value (int 7)
unfolding chosen
chosen_target = refl

chosen_fallback : mean (with_points []) chosen (int 3 ∷ []) ≡ outcome.Value (int 3)
unfolding chosen int_wrap
chosen_fallback = refl

-- an argument that is passed twice: the square of 65536 wraps
square : Tree
square = permute (operation Imul) unary (0 ∷ 0 ∷ [])

square_wraps : mean (with_points []) square (int 65536 ∷ []) ≡ outcome.Value (int 0)
unfolding square int_wrap
square_wraps = refl

square_steps : steps (with_points []) square (int 65536 ∷ []) ≡ 2
unfolding square
square_steps = refl

-- a combiner's result goes before all arguments
cancelled : Tree
cancelled = fold (operation Iadd) (operation Ineg)

cancelled_zero : mean (with_points []) cancelled (int 5 ∷ []) ≡ outcome.Value (int 0)
unfolding cancelled int_wrap
cancelled_zero = refl

cancelled_least : mean (with_points []) cancelled (Int (negsuc 2147483647) ∷ []) ≡ outcome.Value (int 0)
unfolding cancelled int_wrap
cancelled_least = refl

limits : (depth base ≡ 4) × (size base ≡ 9) × (point_bound base ≡ 1)
limits = (refl, refl, refl)

typed : IsTyped base unary
typed = (
  (
    kind.Int ∷ [],
    (_, refl, record { inside = lit≤ tt; kinds = refl; made = refl }),
    refl,
    (_, refl, record { inside = lit≤ tt; few = lit≤ tt; made = refl }),
    (_, refl, record { inside = lit≤ tt; kinds = refl; made = refl }),
  ),
  refl,
)
