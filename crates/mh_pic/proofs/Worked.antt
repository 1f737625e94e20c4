-- The chain of the README's first tree, computed: one link with key 1 that needs point 0.
use Rattle.std.proofs.Common.{◌≡◌, ℕ, refl, [], ◌∷◌, true, false}
use Rattle.std.specs.Prelude.{pos, negsuc}
use Rattle.std.specs.Int.{int_wrap}
use Rattle.mh_type.specs.declared.kind.Kind.TheVariants as kind
use Rattle.mh_type.specs.declared.value.Value.{Value}
use Rattle.mh_type.specs.declared.value.Value.TheVariants.{Int}
use Rattle.mh_type.specs.declared.outcome.Outcome.TheVariants as outcome
use Rattle.mh_type.specs.declared.operation.Op.TheVariants.{Iadd, Ineg, Ieq}
use Rattle.mh_tree.specs.Tree.{Tree, constant, operation, insert, discard, guard, point}
use Rattle.mh_tree.specs.Meaning.{mean, steps}
use Rattle.mh_tree.specs.Limits.{depth, size}
use Rattle.mh_pic.specs.Keys.{key_test, key_in}
use Rattle.mh_pic.specs.Specialised.{specialised}
use Rattle.mh_pic.specs.Chains.{chain, PlainEntry}
use Rattle.mh_tree.specs.Environment.{with_points}

abbrev int : ℕ → Value
int n = Int (pos n)

abbrev base : Tree
base = point 0 (guard (insert (operation Ieq) 1 (int 1 ∷ [])) (discard (constant (int 100)) 0 (kind.Int ∷ [])) (insert (operation Iadd) 1 (int 1 ∷ []))) (operation Ineg)

abbrev link : PlainEntry
link = record { key = int 1; needs = 0 ∷ [] }

abbrev cache : Tree
cache = chain [] base (link ∷ [])

-- the chain is the tree that the first example describes
shape : cache ≡ guard (insert (operation Ieq) 1 (int 1 ∷ [])) (point 0 (discard (constant (int 100)) 0 (kind.Int ∷ [])) base) base
shape = refl

hit : mean (with_points (true ∷ true ∷ [])) cache (int 1 ∷ []) ≡ outcome.Value (int 100)
hit = refl

hit_steps : steps (with_points (true ∷ true ∷ [])) cache (int 1 ∷ []) ≡ 6
hit_steps = refl

miss : mean (with_points (true ∷ true ∷ [])) cache (int 2 ∷ []) ≡ outcome.Value (int 3)
unfolding int_wrap
miss = refl

miss_steps : steps (with_points (true ∷ true ∷ [])) cache (int 2 ∷ []) ≡ 9
miss_steps = refl

invalid : mean (with_points (false ∷ true ∷ [])) cache (int 1 ∷ []) ≡ outcome.Value (Int (negsuc 0))
unfolding int_wrap
invalid = refl

invalid_steps : steps (with_points (false ∷ true ∷ [])) cache (int 1 ∷ []) ≡ 6
invalid_steps = refl

limits : (size cache ≡ 24) × (depth cache ≡ 6)
limits = (refl, refl)

-- another key's test goes, with its branch
other : specialised [] [] (int 2) (guard (key_test [] (int 1)) (operation Ineg) (operation Iadd)) ≡ operation Iadd
other = refl

-- behind other parameters
behind : key_in (kind.Int ∷ kind.Long ∷ []) (key_test (kind.Int ∷ kind.Long ∷ []) (int 7)) ≡ key_in [] (key_test [] (int 7))
behind = refl
