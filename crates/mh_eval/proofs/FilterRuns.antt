-- Filters of a tree that can run can run.
use Rattle.std.proofs.Common.{◌≡◌, ℕ, ◌+◌, ◌≤◌, List, [], ◌∷◌, length, take, drop, arith, lit≤, length-drop, length-take, ap, ◌-◌, Ok, Err}
use Rattle.mh_type.specs.declared.kind.Kind.{Kind}
use Rattle.mh_type.specs.declared.value.Value.{Value}
use Rattle.mh_tree.specs.Limits.{all_steps, greatest_bound}
use Rattle.mh_tree.specs.Tree.{Tree, Filters, filter, no_more, absent, present}
use Rattle.mh_tree.specs.Typing.{AreTyped}
use Rattle.mh_type.specs.declared.outcome.Throw.{Throw}
use Rattle.mh_type.specs.declared.outcome.Outcome.TheVariants.{Thrown}
use Rattle.mh_tree.specs.Meaning.{mean, steps, filtered, filter_steps, with_arguments, after_filters}
use Rattle.mh_tree.specs.inner.Widths.{CanRun, CanFilter}
use Rattle.mh_tree.specs.Laws.{as_few, as_many}
use Rattle.mh_tree.specs.Sites.{Setting, env, EachInvokes, MayReach, most_at, greatest_steps}

can_filter : (fs : Filters) (old new : List Kind) (p w : ℕ) (v : Setting) → AreTyped fs old new → p + length old ≤ w → greatest_bound fs ≤ length v.valid → all_steps (most_at v.level) fs ≤ greatest_steps → EachInvokes (MayReach v.level v.targets (length v.valid)) fs → CanFilter fs p w v
can_filter no_more old new p w v h a b c e = tt
can_filter (absent fs) (k ∷ old) (j ∷ new) p w v h a b c e = (omega arith, can_filter fs old new (p + 1) w v h.1 (omega arith) b c e)
can_filter (absent fs) [] new p w v h a b c e = absurd h
can_filter (absent fs) (k ∷ old) [] p w v h a b c e = absurd h
can_filter (present f fs) (k ∷ old) (j ∷ new) p w v h a b c e = (
  omega arith,
  record { signature = record { ret = k; parameters = j ∷ [] }; typed = h.0; wide = lit≤ tt; known = omega arith; small = omega arith; invokes = e.0 },
  can_filter fs old new (p + 1) w v h.1 (omega arith) (omega arith) (omega arith) e.1,
)
can_filter (present f fs) [] new p w v h a b c e = absurd h
can_filter (present f fs) (k ∷ old) [] p w v h a b c e = absurd h

pub runs_filters : (t : Tree) (p : ℕ) (fs : Filters) (w : ℕ) (v : Setting) → CanRun (filter t p fs) w v → CanFilter fs p w v × (all_steps (most_at v.level) fs ≤ greatest_steps)
runs_filters t p fs w v r =
    let old = r.typed.0.parameters in
    let new = r.signature.parameters in
    let typed = r.typed.5 in
    let many = as_many fs (drop p old) (drop p new) typed in
    let few = as_few fs (drop p old) (drop p new) typed in
    let lengths : (length (drop p old) ≡ length old - p) × (length (drop p new) ≡ length new - p) = (length-drop p old, length-drop p new) in
    let firsts : length (take p new) ≡ length (take p old) = ap (λ (ks : List Kind). length ks) r.typed.4 in
    let room : p + length (drop p old) ≤ w = omega (arith, r.wide, r.typed.2, length-take p old, length-take p new) in
    let small : all_steps (most_at v.level) fs ≤ greatest_steps = omega (arith, r.small) in
    (can_filter fs (drop p old) (drop p new) p w v typed room (omega (arith, r.known)) small r.invokes.1, small)

pub target_runs : (t : Tree) (p : ℕ) (fs : Filters) (w : ℕ) (v : Setting) → CanRun (filter t p fs) w v → CanRun t w v
target_runs t p fs w v r =
    let old = r.typed.0.parameters in
    let new = r.signature.parameters in
    let many = as_many fs (drop p old) (drop p new) r.typed.5 in
    let firsts : length (take p new) ≡ length (take p old) = ap (λ (ks : List Kind). length ks) r.typed.4 in
    record {
      signature = r.typed.0;
      typed = r.typed.1;
      wide = omega (arith, r.wide, r.typed.2, length-take p old, length-take p new, length-drop p old, length-drop p new);
      known = omega (arith, r.known);
      small = omega (arith, r.small);
      invokes = r.invokes.0;
    }

module _ (v : Setting) (t : Tree) (p : ℕ) (fs : Filters) (a : List Value) where
  pub filter_throws : (x : Throw) → filtered (env v) fs p a ≡ Err x → mean (env v) (filter t p fs) a ≡ Thrown x
  filter_throws x h = ap (λ r. with_arguments r (mean (env v) t)) h

  pub filter_throws_steps : (x : Throw) → filtered (env v) fs p a ≡ Err x → steps (env v) (filter t p fs) a ≡ 1 + filter_steps (env v) fs p a
  filter_throws_steps x h = let e = ap (λ r. after_filters r (steps (env v) t)) h in omega (arith, e)

  pub filter_goes : (b : List Value) → filtered (env v) fs p a ≡ Ok b → mean (env v) (filter t p fs) a ≡ mean (env v) t b
  filter_goes b h = ap (λ r. with_arguments r (mean (env v) t)) h

  pub filter_goes_steps : (b : List Value) → filtered (env v) fs p a ≡ Ok b → steps (env v) (filter t p fs) a ≡ 1 + (filter_steps (env v) fs p a + steps (env v) t b)
  filter_goes_steps b h = let e = ap (λ r. after_filters r (steps (env v) t)) h in omega (arith, e)
