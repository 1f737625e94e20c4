-- Constructors whose tests all pass: they are refused memory alone, and what they make is settled.
use Rattle.std.proofs.Common.{◌≡◌, ℕ, refl, sym, subst, ◌∙◌, ap, arith, ◌≤◌, [], ◌∷◌, length, Result, Ok, Err, inl, inr}
use Rattle.std.specs.Prelude.{IfOk, IfErr}
use Rattle.mh_base.specs.Tests.{Refuses}
use Rattle.mh_type.specs.declared.kind.Kind.TheVariants as kind
use Rattle.mh_type.specs.declared.value.Value.{Value}
use Rattle.mh_type.specs.declared.value.Value.TheVariants.{Int, Long, Boolean, Text}
use Rattle.mh_type.specs.Kinds.{kind_of}
use Rattle.mh_type.specs.Signature.{Signature}
use Rattle.mh_tree.specs.Constructors.{refusals, op_made, insert_made, guarded, guard_made, pointed, point_made}
use Rattle.mh_tree.specs.Handle.{TypedTree}
use Rattle.mh_tree.specs.Limits.{depth, size}
use Rattle.mh_tree.specs.Tree.{guard, point}
use Rattle.mh_tree.specs.Typing.{BeginsWith}
use Rattle.mh_tree.specs.Laws.{guard_passes, limits_pass, point_passes}
use Rattle.mh_tree.specs.declared.fault.TreeFault.{TreeFault}
use Rattle.mh_tree.specs.declared.fault.TreeFault.TheVariants.{NoMemory}
use Rattle.mh_pic.specs.Keys.{equality, first_test}

pub memory_alone : (made : Result TypedTree TreeFault) (g : TypedTree) (r : Result TypedTree TreeFault) → made ≡ Ok g
    → IfErr r (λ e. Refuses (refusals made) e) → IfErr r (λ e. e ≡ NoMemory)
memory_alone made g (Ok h) passes refused = tt
memory_alone made g (Err e) passes (inl failed) =
    let never : Ok g ≡ Err e = sym passes ∙ failed.1 in
    cc
memory_alone made g (Err e) passes (inr memory) = memory.1

-- what a result that is there is
pub there : (P : TypedTree → Type 0) (h : TypedTree) (r : Result TypedTree TreeFault) → r ≡ Ok h → IfOk r P → P h
there P h r is built = subst (λ s. IfOk s P) is built

pub settled : (made : Result TypedTree TreeFault) (g h : TypedTree) (r : Result TypedTree TreeFault) → made ≡ Ok g → r ≡ Ok h
    → IfOk r (λ k. made ≡ Ok k) → h ≡ g
settled made g h r passes is built =
    let same : Ok h ≡ Ok g = sym (there (λ k. made ≡ Ok k) h r is built) ∙ passes in
    cc

-- the test of the first argument
abbrev pub first_tested : Value → TypedTree
first_tested key = record { tree = first_test key; signature = record { ret = kind.Boolean; parameters = kind_of key ∷ [] } }

pub first_passes : (key : Value) → insert_made (op_made (equality (kind_of key))) 1 (key ∷ []) ≡ Ok (first_tested key)
first_passes (Int n) = refl
first_passes (Long n) = refl
first_passes (Boolean b) = refl
first_passes (Text t) = refl

pub point_passed : (p : ℕ) (x y : TypedTree) → x.signature ≡ y.signature → length y.signature.parameters ≤ 16
    → depth (point p x.tree y.tree) ≤ 96 → size (point p x.tree y.tree) ≤ 262144 → point_made p x y ≡ Ok (pointed p x y)
point_passed p x y same few shallow small =
    point_passes p x y same ∙ limits_pass (pointed p x y) (omega (arith, few, ap (λ (m : Signature). length m.parameters) same)) shallow small

pub guard_passed : (c x y : TypedTree) → c.signature.ret ≡ kind.Boolean → x.signature ≡ y.signature
    → BeginsWith x.signature.parameters c.signature.parameters → length y.signature.parameters ≤ 16
    → depth (guard c.tree x.tree y.tree) ≤ 96 → size (guard c.tree x.tree y.tree) ≤ 262144 → guard_made c x y ≡ Ok (guarded c x y)
guard_passed c x y boolean same begins few shallow small =
    guard_passes c x y boolean same begins ∙ limits_pass (guarded c x y) (omega (arith, few, ap (λ (m : Signature). length m.parameters) same)) shallow small
