-- Laws of trees that invoke sites: what a tree requires of an environment, that an invocation means the site's tree, and the greatest
-- number of steps.
use Rattle.std.proofs.Common.{◌≡◌, ℕ, zero, suc, ◌+◌, ◌*◌, ◌≤◌, ◌<◌, refl, sym, ◌∙◌, List, [], ◌∷◌, take, map, length, arith, Bool, false, if◌then◌else◌}
use Rattle.std.proofs.Math.Nat.{mul-le-mul_right, add-mul, one-mul}
use Rattle.std.specs.Prelude.{slice_set, slice_index_or}
use Rattle.mh_type.specs.declared.value.Value.{Value}
use Rattle.mh_type.specs.Signature.{Signature}
use Rattle.mh_tree.specs.Arity.{arity}
use Rattle.mh_tree.specs.Environment.{Environment}
use Rattle.mh_tree.specs.Handle.{TypedTree}
use Rattle.mh_tree.specs.Laws.Invocations.{IsBelow, sites_below}
use Rattle.mh_tree.specs.Limits.{size, total_size, point_bound, site_bound, most_steps, all_steps, most_nodes, greatest_level}
use Rattle.mh_tree.specs.Meaning.{◌>>=◌, mean, steps, filtered, filter_steps, with_arguments, with_value, after, after_filters, argument, put_in, taken_out, choose, choose_steps}
use Rattle.mh_tree.specs.Sites.{EachInvoke, EachInvokes, InvokesBelow, MayInvoke, IsLawful, MayReach, level_at, target_at, calls_below, steps_below, below, with_sites, most_at}
use Rattle.mh_tree.specs.Typing.{IsTyped}
use Rattle.mh_tree.specs.Tree.{Tree, Filters, constant, identity, operation, insert, discard, permute, filter, filter_return, fold, guard, point, invoke, no_more, absent, present}

-- if P implies Q, invocations that P allows are allowed by Q
mutual
  pub each_map : (P Q : ℕ → Signature → Type 0) → ((s : ℕ) (n : Signature) → P s n → Q s n) → (t : Tree) → EachInvoke P t → EachInvoke Q t
  each_map P Q f (constant x) e = tt
  each_map P Q f (identity k) e = tt
  each_map P Q f (operation o) e = tt
  each_map P Q f (insert t p xs) e = each_map P Q f t e
  each_map P Q f (discard t p ks) e = each_map P Q f t e
  each_map P Q f (permute t m r) e = each_map P Q f t e
  each_map P Q f (filter t p fs) e = (each_map P Q f t e.0, each_map_filters P Q f fs e.1)
  each_map P Q f (filter_return t g) e = (each_map P Q f t e.0, each_map P Q f g e.1)
  each_map P Q f (fold t c) e = (each_map P Q f t e.0, each_map P Q f c e.1)
  each_map P Q f (guard c x y) e = (each_map P Q f c e.0, each_map P Q f x e.1, each_map P Q f y e.2)
  each_map P Q f (point p x y) e = (each_map P Q f x e.0, each_map P Q f y e.1)
  each_map P Q f (invoke s n) e = f s n e

  each_map_filters : (P Q : ℕ → Signature → Type 0) → ((s : ℕ) (n : Signature) → P s n → Q s n) → (fs : Filters) → EachInvokes P fs → EachInvokes Q fs
  each_map_filters P Q f no_more e = tt
  each_map_filters P Q f (absent fs) e = each_map_filters P Q f fs e
  each_map_filters P Q f (present g fs) e = (each_map P Q f g e.0, each_map_filters P Q f fs e.1)

-- two environments that agree on the points, and on the sites that a tree invokes
mutual
  pub mean_by : (v w : Environment) (P : ℕ → Signature → Type 0) → v.valid ≡ w.valid → ((s : ℕ) (n : Signature) → P s n → (a : List Value) → v.calls s a ≡ w.calls s a) → (t : Tree) → EachInvoke P t → (a : List Value) → mean v t a ≡ mean w t a
  mean_by v w P same agree (constant x) e a = refl
  mean_by v w P same agree (identity k) e a = refl
  mean_by v w P same agree (operation o) e a = refl
  mean_by v w P same agree (insert t p xs) e a = mean_by v w P same agree t e (put_in a p xs)
  mean_by v w P same agree (discard t p ks) e a = mean_by v w P same agree t e (taken_out a p (length ks))
  mean_by v w P same agree (permute t m r) e a = mean_by v w P same agree t e (map (argument a) r)
  mean_by v w P same agree (filter t p fs) e a =
      λ i. with_arguments (filtered_by v w P same agree fs e.1 p a i) (λ b. mean_by v w P same agree t e.0 b i)
  mean_by v w P same agree (filter_return t f) e a =
      λ i. mean_by v w P same agree t e.0 a i >>= (λ x. mean_by v w P same agree f e.1 (x ∷ []) i)
  mean_by v w P same agree (fold t c) e a =
      λ i. mean_by v w P same agree c e.1 (take (arity c) a) i >>= (λ x. mean_by v w P same agree t e.0 (x ∷ a) i)
  mean_by v w P same agree (guard c x y) e a =
      λ i. mean_by v w P same agree c e.0 (take (arity c) a) i >>= (λ b. choose b (mean_by v w P same agree x e.1 a i) (mean_by v w P same agree y e.2 a i))
  mean_by v w P same agree (point p x y) e a =
      λ i. if slice_index_or (same i) p false then mean_by v w P same agree x e.0 a i else mean_by v w P same agree y e.1 a i
  mean_by v w P same agree (invoke s n) e a = agree s n e (take (length n.parameters) a)

  filtered_by : (v w : Environment) (P : ℕ → Signature → Type 0) → v.valid ≡ w.valid → ((s : ℕ) (n : Signature) → P s n → (a : List Value) → v.calls s a ≡ w.calls s a) → (fs : Filters) → EachInvokes P fs → (p : ℕ) (a : List Value) → filtered v fs p a ≡ filtered w fs p a
  filtered_by v w P same agree no_more e p a = refl
  filtered_by v w P same agree (absent fs) e p a = filtered_by v w P same agree fs e (p + 1) a
  filtered_by v w P same agree (present f fs) e p a =
      λ i. with_value (mean_by v w P same agree f e.0 (argument a p ∷ []) i) (λ x. filtered_by v w P same agree fs e.1 (p + 1) (slice_set a p x) i)

-- if they also agree on the steps of those sites, the tree takes the same number of steps
mutual
  pub steps_by : (v w : Environment) (P : ℕ → Signature → Type 0) → v.valid ≡ w.valid → ((s : ℕ) (n : Signature) → P s n → (a : List Value) → v.calls s a ≡ w.calls s a) → ((s : ℕ) (n : Signature) → P s n → (a : List Value) → v.call_steps s a ≡ w.call_steps s a) → (t : Tree) → EachInvoke P t → (a : List Value) → steps v t a ≡ steps w t a
  steps_by v w P same agree like (constant x) e a = refl
  steps_by v w P same agree like (identity k) e a = refl
  steps_by v w P same agree like (operation o) e a = refl
  steps_by v w P same agree like (insert t p xs) e a = λ i. 1 + steps_by v w P same agree like t e (put_in a p xs) i
  steps_by v w P same agree like (discard t p ks) e a = λ i. 1 + steps_by v w P same agree like t e (taken_out a p (length ks)) i
  steps_by v w P same agree like (permute t m r) e a = λ i. 1 + steps_by v w P same agree like t e (map (argument a) r) i
  steps_by v w P same agree like (filter t p fs) e a =
      λ i. 1 + (filter_steps_by v w P same agree like fs e.1 p a i + after_filters (filtered_by v w P same agree fs e.1 p a i) (λ b. steps_by v w P same agree like t e.0 b i))
  steps_by v w P same agree like (filter_return t f) e a =
      λ i. 1 + (steps_by v w P same agree like t e.0 a i + after (mean_by v w P same agree t e.0 a i) (λ x. steps_by v w P same agree like f e.1 (x ∷ []) i))
  steps_by v w P same agree like (fold t c) e a =
      λ i. 1 + (steps_by v w P same agree like c e.1 (take (arity c) a) i + after (mean_by v w P same agree c e.1 (take (arity c) a) i) (λ x. steps_by v w P same agree like t e.0 (x ∷ a) i))
  steps_by v w P same agree like (guard c x y) e a =
      λ i. 1 + (steps_by v w P same agree like c e.0 (take (arity c) a) i + after (mean_by v w P same agree c e.0 (take (arity c) a) i)
      (λ b. choose_steps b (steps_by v w P same agree like x e.1 a i) (steps_by v w P same agree like y e.2 a i)))
  steps_by v w P same agree like (point p x y) e a =
      λ i. 1 + (if slice_index_or (same i) p false then steps_by v w P same agree like x e.0 a i else steps_by v w P same agree like y e.1 a i)
  steps_by v w P same agree like (invoke s n) e a = λ i. 1 + like s n e (take (length n.parameters) a) i

  filter_steps_by : (v w : Environment) (P : ℕ → Signature → Type 0) → v.valid ≡ w.valid → ((s : ℕ) (n : Signature) → P s n → (a : List Value) → v.calls s a ≡ w.calls s a) → ((s : ℕ) (n : Signature) → P s n → (a : List Value) → v.call_steps s a ≡ w.call_steps s a) → (fs : Filters) → EachInvokes P fs → (p : ℕ) (a : List Value) → filter_steps v fs p a ≡ filter_steps w fs p a
  filter_steps_by v w P same agree like no_more e p a = refl
  filter_steps_by v w P same agree like (absent fs) e p a = filter_steps_by v w P same agree like fs e (p + 1) a
  filter_steps_by v w P same agree like (present f fs) e p a =
      λ i. steps_by v w P same agree like f e.0 (argument a p ∷ []) i
      + after (mean_by v w P same agree f e.0 (argument a p ∷ []) i) (λ x. filter_steps_by v w P same agree like fs e.1 (p + 1) (slice_set a p x) i)

module _ (levels : List ℕ) (valid : List Bool) (targets : List TypedTree) (lower : (s : ℕ) → s < length targets → InvokesBelow levels targets (level_at levels s) (target_at targets s).tree) where
  -- one more tree below changes nothing for a site that is not deeper
  calls_climb : (d l : ℕ) → l ≤ d → (s : ℕ) (m : Signature) → MayInvoke levels targets l s m → (a : List Value) → calls_below d valid targets s a ≡ calls_below (suc d) valid targets s a
  calls_climb zero l few s m may a = absurd (omega (arith, few, may.lower))
  calls_climb (suc d) l few s m may a =
      mean_by (below d valid targets) (below (suc d) valid targets) (MayInvoke levels targets (level_at levels s)) refl
      (calls_climb d (level_at levels s) (omega (arith, few, may.lower))) (target_at targets s).tree (lower s may.known) a

  steps_climb : (d l : ℕ) → l ≤ d → (s : ℕ) (m : Signature) → MayInvoke levels targets l s m → (a : List Value) → steps_below d valid targets s a ≡ steps_below (suc d) valid targets s a
  steps_climb zero l few s m may a = absurd (omega (arith, few, may.lower))
  steps_climb (suc d) l few s m may a =
      steps_by (below d valid targets) (below (suc d) valid targets) (MayInvoke levels targets (level_at levels s)) refl
      (calls_climb d (level_at levels s) (omega (arith, few, may.lower))) (steps_climb d (level_at levels s) (omega (arith, few, may.lower))) (target_at targets s).tree (lower s may.known) a

  -- an invocation means the site's tree, and takes its steps
  pub site_means : (s : ℕ) (m : Signature) → MayInvoke levels targets (suc greatest_level) s m → (a : List Value) → (with_sites valid targets).calls s a ≡ mean (with_sites valid targets) (target_at targets s).tree a
  site_means s m may a = calls_climb (suc greatest_level) (suc greatest_level) (omega arith) s m may a

  pub site_costs : (s : ℕ) (m : Signature) → MayInvoke levels targets (suc greatest_level) s m → (a : List Value) → (with_sites valid targets).call_steps s a ≡ steps (with_sites valid targets) (target_at targets s).tree a
  site_costs s m may a = steps_climb (suc greatest_level) (suc greatest_level) (omega arith) s m may a

-- trees that invoke only lower sites are no deeper than their levels
pub may_reach : (levels : List ℕ) (targets : List TypedTree) (points : ℕ) → ((s : ℕ) → s < length targets → IsTyped (target_at targets s).tree (target_at targets s).signature) → ((s : ℕ) → s < length targets → InvokesBelow levels targets (level_at levels s) (target_at targets s).tree) → ((s : ℕ) → s < length targets → point_bound (target_at targets s).tree ≤ points) → (k l : ℕ) → l ≤ k → (s : ℕ) (n : Signature) → MayInvoke levels targets l s n → MayReach k targets points s n
may_reach levels targets points typed lower bounds zero l few s n may = absurd (omega (arith, few, may.lower))
may_reach levels targets points typed lower bounds (suc k) l few s n may = (
  may.known,
  may.same,
  typed s may.known,
  bounds s may.known,
  each_map (MayInvoke levels targets (level_at levels s)) (MayReach k targets points) (may_reach levels targets points typed lower bounds k (level_at levels s) (omega (arith, few, may.lower))) (target_at targets s).tree (lower s may.known),
)

pub lawful_reaches : (levels : List ℕ) (targets : List TypedTree) (points : ℕ) (t : Tree) → IsLawful levels targets t → ((s : ℕ) → s < length targets → point_bound (target_at targets s).tree ≤ points) → EachInvoke (MayReach (suc greatest_level) targets points) t
lawful_reaches levels targets points t lawful bounds =
    each_map (MayInvoke levels targets (suc greatest_level)) (MayReach (suc greatest_level) targets points) (may_reach levels targets points lawful.typed lawful.lower bounds (suc greatest_level) (suc greatest_level) (omega arith)) t lawful.here

-- trees that replace others of the same types, and whose invocations are allowed, are lawful if the others are
pub lawful_in_place : (levels : List ℕ) (trees bases : List TypedTree) (t : Tree) → length trees ≡ length bases → ((s : ℕ) → (target_at trees s).signature ≡ (target_at bases s).signature) → ((s : ℕ) → s < length trees → IsTyped (target_at trees s).tree (target_at trees s).signature) → ((s : ℕ) → s < length trees → InvokesBelow levels bases (level_at levels s) (target_at trees s).tree) → IsLawful levels bases t → IsLawful levels trees t
lawful_in_place levels trees bases t many same typed lower lawful =
    let may : (l s : ℕ) (n : Signature) → MayInvoke levels bases l s n → MayInvoke levels trees l s n =
    λ l s n h. record { known = omega (arith, many, h.known); levelled = h.levelled; lower = h.lower; same = h.same ∙ sym (same s) } in
    record {
      few = lawful.few;
      typed = typed;
      lower = λ s below. each_map (MayInvoke levels bases (level_at levels s)) (MayInvoke levels trees (level_at levels s)) (may (level_at levels s)) (target_at trees s).tree (lower s below);
      here = each_map (MayInvoke levels bases (suc greatest_level)) (MayInvoke levels trees (suc greatest_level)) (may (suc greatest_level)) t lawful.here;
    }

-- a tree that invokes no site is lawful if there are none
pub alone_lawful : (t : Tree) → site_bound t ≡ 0 → IsLawful [] [] t
alone_lawful t alone = record {
  few = λ i l below. absurd (omega arith);
  typed = λ s below. absurd (omega arith);
  lower = λ s below. absurd (omega arith);
  here = each_map (IsBelow 0) (MayInvoke [] [] (suc greatest_level)) (λ s n below. absurd (omega arith)) t (sites_below 0 t (omega arith));
}

-- the greatest number of steps, by the size
times : (a b c x y : ℕ) → x ≤ a * c → y ≤ b * c → x + y ≤ (a + b) * c
times a b c x y h k = omega (arith, add-mul a b c, h, k)

one_more_times : (a c x : ℕ) → x ≤ a * suc c → 1 + x ≤ (1 + a) * suc c
one_more_times a c x h = omega (arith, add-mul 1 a (suc c), one-mul (suc c), h)

one_times : (c : ℕ) → 1 ≤ 1 * suc c
one_times c = omega (arith, one-mul (suc c))

mutual
  pub steps_by_size : (c : ℕ) (t : Tree) → most_steps c t ≤ size t * suc c
  steps_by_size c (constant x) = one_times c
  steps_by_size c (identity k) = one_times c
  steps_by_size c (operation o) = one_times c
  steps_by_size c (insert t p xs) = one_more_times (size t) c _ (steps_by_size c t)
  steps_by_size c (discard t p ks) = one_more_times (size t) c _ (steps_by_size c t)
  steps_by_size c (permute t m r) = one_more_times (size t) c _ (steps_by_size c t)
  steps_by_size c (filter t p fs) = one_more_times (size t + total_size fs) c _ (times (size t) (total_size fs) (suc c) _ _ (steps_by_size c t) (all_by_size c fs))
  steps_by_size c (filter_return t f) = one_more_times (size t + size f) c _ (times (size t) (size f) (suc c) _ _ (steps_by_size c t) (steps_by_size c f))
  steps_by_size c (fold t b) = one_more_times (size t + size b) c _ (times (size t) (size b) (suc c) _ _ (steps_by_size c t) (steps_by_size c b))
  steps_by_size c (guard b x y) =
      one_more_times (size b + (size x + size y)) c _
      (times (size b) (size x + size y) (suc c) _ _ (steps_by_size c b) (times (size x) (size y) (suc c) _ _ (steps_by_size c x) (steps_by_size c y)))
  steps_by_size c (point p x y) = one_more_times (size x + size y) c _ (times (size x) (size y) (suc c) _ _ (steps_by_size c x) (steps_by_size c y))
  steps_by_size c (invoke s n) = omega (arith, one-mul (suc c))

  all_by_size : (c : ℕ) (fs : Filters) → all_steps c fs ≤ total_size fs * suc c
  all_by_size c no_more = omega arith
  all_by_size c (absent fs) = all_by_size c fs
  all_by_size c (present f fs) = times (size f) (total_size fs) (suc c) _ _ (steps_by_size c f) (all_by_size c fs)

-- a tree of a handle takes at most the steps of its level
pub steps_at : (n : ℕ) (t : Tree) → size t ≤ most_nodes → most_steps (most_at n) t ≤ most_at (suc n)
steps_at n t small = omega (arith, steps_by_size (most_at n) t, mul-le-mul_right (suc (most_at n)) small)
