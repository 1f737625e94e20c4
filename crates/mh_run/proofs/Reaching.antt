-- From a tree to the tree of the site that gives its answer.
use Rattle.std.proofs.Common.{◌≡◌, Bool, ℕ, ◌+◌, ◌-◌, ◌*◌, ◌<◌, ◌≤◌, ◌∙◌, arith, List, [], length, take, length-take}
use Rattle.mh_code.specs.Routine.{Routine, give, invocation}
use Rattle.mh_code.specs.RoutineOf.{handle_routine}
use Rattle.mh_code.specs.inner.Runs.{weight}
use Rattle.mh_run.specs.inner.Runs.{Goes, GoesOn, most_own}
use Rattle.mh_run.proofs.Sites.{leading_are, leading_count, leading_many, site_deep, site_goes_on, site_own, site_there}
use Rattle.mh_tree.specs.Handle.{TypedTree, IsSound}
use Rattle.mh_tree.specs.Limits.{most_nodes}
use Rattle.mh_tree.specs.Prepared.{leading_arguments}
use Rattle.mh_tree.specs.Sites.{Setting, setting, MayCall, target_at}
use Rattle.mh_type.specs.declared.value.Value.{Value}

-- one way after another
goes_after : (v w x : Setting) (a b e : List Value) (r q p : Routine) (m n j : ℕ) → GoesOn v a r m w b q n → GoesOn w b q n x e p j → GoesOn v a r m x e p j
goes_after v w x a b e r q p m n j first h = record {
  outcome = h.outcome ∙ first.outcome;
  steps = h.steps ∙ first.steps;
  few = omega (arith, h.few, first.few);
  may = h.may;
  quiet = λ y. h.quiet (first.quiet y);
}

goes_here : (w : Setting) (b : List Value) (q p : Routine) (n j : ℕ) → n + weight 0 q ≤ most_own → Goes w b [] q n [] p j → GoesOn w b q n w b p j
goes_here w b q p n j small h = record {
  outcome = h.leaves.outcome;
  steps = h.leaves.steps;
  few = h.leaves.few;
  may = record { run = h.leaves.may; own = omega (arith, h.own, small) };
  quiet = h.leaves.quiet;
}

module _ (v : Setting) (a : List Value) (r : Routine) (m d : ℕ) (valid : List Bool) (ts : List TypedTree) (b : List Value) (q : Routine) (n : ℕ) (on : GoesOn v a r m (setting d valid ts) b q n) where
  -- the piece behind choices
  pub reach_here : (p : Routine) (j : ℕ) → Goes (setting d valid ts) b [] q n [] p j → GoesOn v a r m (setting d valid ts) b p j
  reach_here p j h = goes_after v (setting d valid ts) (setting d valid ts) a b b r q p m n j on (goes_here (setting d valid ts) b q p n j on.may.own h)

  module _ (s site count j k : ℕ) (h : Goes (setting d valid ts) b [] q n [] (give s (invocation site (leading_arguments count))) j) (total : k ≡ j + s) (room : n + weight 0 q + d * most_nodes ≤ most_own) where
    inside : count ≤ length b
    inside = leading_many (MayCall d ts (length valid)) site (length b) 0 count h.leaves.may.scoped

    pub reach_bounds : count ≡ length (take count b)
    reach_bounds = omega (arith, inside, length-take count b)

    pub reach_there : site < length ts
    reach_there = site_there d valid ts site _ h.leaves.may.scoped.0

    pub reach_deep : 1 ≤ d
    reach_deep = site_deep d valid ts site _ h.leaves.may.scoped.0

    module _ (sound : IsSound (target_at ts site).tree (target_at ts site).signature) where
      pub reach_site : GoesOn v a r m (setting (d - 1) valid ts) (take count b) (handle_routine (target_at ts site)) k
      reach_site =
          goes_after v (setting d valid ts) (setting (d - 1) valid ts) a b (take count b) r (give s (invocation site (leading_arguments count))) (handle_routine (target_at ts site)) m j k (reach_here _ j h)
          (site_goes_on valid ts site (length (leading_arguments count)) (take count b) (leading_count b count inside) sound d h.leaves.may.scoped.0
          b (leading_arguments count) (leading_are b [] count inside) s j k total
          (omega (arith, total, h.leaves.may.few)) (omega (arith, total, h.own, room, reach_deep)))

      pub reach_room : k + weight 0 (handle_routine (target_at ts site)) + (d - 1) * most_nodes ≤ most_own
      reach_room =
          omega (arith, total, h.own, room, reach_deep, site_own valid ts site (length (leading_arguments count)) (take count b) (leading_count b count inside) sound d h.leaves.may.scoped.0)
