-- What a chain of tests of one argument leads to.
use Rattle.std.proofs.Common.{◌≡◌, Bool, true, false, ℕ, zero, suc, ℤ, ◌+◌, ◌≤◌, ◌<◌, refl, ap, sym, subst, ◌∙◌, List, [], ◌∷◌, length, drop, arith, if◌then◌else◌, Vec}
use Rattle.std.specs.Prelude.{get_or, map, max, cond, not, ◌&&◌}
use Rattle.std.specs.Ordering.{is_eq}
use Rattle.std.specs.Int.Signed.{lt_z}
use Rattle.std.proofs.Common.{Less, Greater, Equal}
use Rattle.std.specs.Arc.{arc_value}
use Rattle.std.specs.declared.alloc.Global.{Global}
use Rattle.std.specs.declared.sync.Arc.{Arc}
use Rattle.std.proofs.lemmas.List.{get_or-map}
use Rattle.mh_code.specs.Height.{height, highest}
use Rattle.mh_code.specs.PieceOf.{chain, key_source, routine_of, routines}
use Rattle.mh_code.specs.Routine.{Routine, pick}
use Rattle.mh_code.specs.Laws.Switches.{height_of_switch, routine_of_switch}
use Rattle.mh_code.specs.Rows.{is_key, row_of, steps_to, all_steps}
use Rattle.mh_code.specs.inner.Runs.{weight}
use Rattle.mh_code.specs.declared.code.Piece.{Piece}
use Rattle.mh_code.specs.declared.code.Piece.TheViews.{Switch}
use Rattle.mh_code.specs.declared.index.Row.{Row}
use Rattle.mh_run.specs.inner.Runs.{Goes, Leaves, MayGo, MayRun, most_own}
use Rattle.mh_run.proofs.Sources.{leaves_all, leaves_more, picks_at}
use Rattle.mh_tree.specs.Meaning.{argument}
use Rattle.mh_tree.specs.Sites.{Setting, most_at, greatest_steps}
use Rattle.mh_type.specs.Operations.{operate}
use Rattle.mh_type.specs.declared.operation.Op.TheVariants.{Ieq}
use Rattle.mh_type.specs.declared.outcome.Outcome.TheVariants as outcome
use Rattle.mh_type.specs.declared.value.Value.{Value}
use Rattle.mh_type.specs.declared.value.Value.TheVariants as value

-- neither is less
same_test : (b c : Bool) → (not b && not c) ≡ is_eq (cond b Less (cond c Greater Equal))
same_test true c = refl
same_test false true = refl
same_test false false = refl

-- what the test of a key gives on any value
tests_key : (x : Value) (k : ℤ) → operate Ieq (x ∷ value.Int k ∷ []) ≡ outcome.Value (value.Boolean (is_key x k))
tests_key (value.Int n) k = ap (λ b. outcome.Value (value.Boolean b)) (same_test (lt_z n k) (lt_z k n))
tests_key (value.Long n) k = refl
tests_key (value.Boolean b) k = refl
tests_key (value.Text s) k = refl

-- a value that is no int is no row's
row_of_other : (x : Value) (rs : List Row) → ((k : ℤ) → is_key x k ≡ false) → row_of x rs ≡ length rs
row_of_other x [] none = refl
row_of_other x (r ∷ rs) none = ap (λ b. if b then 0 else 1 + row_of x rs) (none r.key) ∙ ap (λ n. 1 + n) (row_of_other x rs none) ∙ omega arith

steps_to_other : (x : Value) (rs : List Row) → ((k : ℤ) → is_key x k ≡ false) → steps_to x rs ≡ all_steps rs
steps_to_other x [] none = refl
steps_to_other x (r ∷ rs) none = ap (λ b. if b then r.steps else r.steps + steps_to x rs) (none r.key) ∙ ap (λ n. r.steps + n) (steps_to_other x rs none)

one : (n : ℕ) → suc n ≡ 1 + n
one n = omega arith

behind : (ts : List Routine) (n : ℕ) (o : Routine) → get_or (drop 1 ts) n o ≡ get_or ts (1 + n) o
behind [] n o = refl
behind (t ∷ ts) n o = ap (λ k. get_or (t ∷ ts) k o) (one n)

weight_at : (b : Bool) (k s n t c : ℕ) (ts : List Routine) (o : Routine) → t + weight k (get_or ts (1 + n) o) ≤ c → (if b then s else s + t) + weight k (get_or ts (if b then 0 else 1 + n) o) ≤ s + (0 + max (weight k (get_or ts 0 o)) c)
weight_at true k s n t c ts o h = omega arith
weight_at false k s n t c ts o h = omega (arith, h)

weight_chain : (k : ℕ) (x : Value) (p : ℕ) (rs : List Row) (ts : List Routine) (o : Routine) → steps_to x rs + weight k (get_or ts (row_of x rs) o) ≤ weight k (chain p rs ts o)
weight_chain k x p [] ts o = omega arith
weight_chain k x p (r ∷ rs) ts o =
    let later = subst (λ q. steps_to x rs + weight k q ≤ weight k (chain p rs (drop 1 ts) o)) (behind ts (row_of x rs) o) (weight_chain k x p rs (drop 1 ts) o) in
    weight_at (is_key x r.key) k r.steps (row_of x rs) (steps_to x rs) (weight k (chain p rs (drop 1 ts) o)) ts o later

module _ (v : Setting) (a l : List Value) (p : ℕ) where
  test_at : (b : Bool) (s m : ℕ) (k : ℤ) (q w : Routine) → is_key (argument a p) k ≡ b → MayRun v a l (pick s (key_source (record { place = p; key = k })) q w) m → Leaves v a l (pick s (key_source (record { place = p; key = k })) q w) m l (if b then q else w) (m + s)
  test_at true s m k q w is may =
      picks_at v a l (key_source (record { place = p; key = k })) s m q w q 0 (m + s) (omega arith) refl (omega arith) may (value.Boolean true) (tests_key (argument a p) k ∙ ap (λ b. outcome.Value (value.Boolean b)) is) refl
  test_at false s m k q w is may =
      picks_at v a l (key_source (record { place = p; key = k })) s m q w w 0 (m + s) (omega arith) refl (omega arith) may (value.Boolean false) (tests_key (argument a p) k ∙ ap (λ b. outcome.Value (value.Boolean b)) is) refl

  chain_at : (b : Bool) (s m n t : ℕ) (c w : Routine) (ts : List Routine) (o : Routine) → Leaves v a l c m l (if b then get_or ts 0 o else w) (m + s) → (MayRun v a l w (m + s) → Leaves v a l w (m + s) l (get_or (drop 1 ts) n o) ((m + s) + t)) → Leaves v a l c m l (get_or ts (if b then 0 else 1 + n) o) (m + (if b then s else s + t))
  chain_at true s m n t c w ts o first rest = first
  chain_at false s m n t c w ts o first rest =
      subst (λ q. Leaves v a l c m l q (m + (s + t))) (behind ts n o)
      (subst (Leaves v a l c m l (get_or (drop 1 ts) n o)) (omega arith)
      (leaves_more v a l l c w m (m + s) first l (get_or (drop 1 ts) n o) ((m + s) + t) (rest first.may)))

  -- the target of the first test that holds, after the steps down to it
  leaves_chain : (rs : List Row) (ts : List Routine) (o : Routine) (m : ℕ) → MayRun v a l (chain p rs ts o) m → Leaves v a l (chain p rs ts o) m l (get_or ts (row_of (argument a p) rs) o) (m + steps_to (argument a p) rs)
  leaves_chain [] ts o m may = subst (Leaves v a l (get_or ts 0 o) m l (get_or ts 0 o)) (omega arith) (leaves_all v a l (get_or ts 0 o) m may)
  leaves_chain (r ∷ rs) ts o m may =
      chain_at (is_key (argument a p) r.key) r.steps m (row_of (argument a p) rs) (steps_to (argument a p) rs) (chain p (r ∷ rs) ts o) (chain p rs (drop 1 ts) o) ts o
      (test_at (is_key (argument a p) r.key) r.steps m r.key (get_or ts 0 o) (chain p rs (drop 1 ts) o) refl may)
      (leaves_chain rs (drop 1 ts) o (m + r.steps))

-- the target of a row
pub target_there : (ts : List (Arc Piece Global)) (i : ℕ) (d : Arc Piece Global) (o : Routine) → i < length ts → routine_of (arc_value (get_or ts i d)) ≡ get_or (routines ts) i o
target_there ts i d o below = sym (get_or-map (λ (t : Arc Piece Global). routine_of (arc_value t)) ts i d o below)

pub target_none : (ts : List (Arc Piece Global)) (i : ℕ) (o : Routine) → length ts ≤ i → o ≡ get_or (routines ts) i o
target_none [] i o h = refl
target_none (t ∷ ts) zero o h = absurd (omega (arith, h))
target_none (t ∷ ts) (suc i) o h = target_none ts i o (omega (arith, h))

pub highest_at : (ts : List (Arc Piece Global)) (i : ℕ) (d : Arc Piece Global) → i < length ts → height (arc_value (get_or ts i d)) ≤ highest (map (λ t. height (arc_value t)) ts)
highest_at [] i d h = absurd (omega (arith, h))
highest_at (t ∷ ts) zero d h = omega arith
highest_at (t ∷ ts) (suc i) d h = omega (arith, highest_at ts i d (omega (arith, h)))

pub no_row : (x : Value) (rs : List Row) → ((k : ℤ) → is_key x k ≡ false) → length rs ≡ row_of x rs
no_row x rs never = sym (row_of_other x rs never)

pub no_steps : (x : Value) (rs : List Row) → ((k : ℤ) → is_key x k ≡ false) → all_steps rs ≡ steps_to x rs
no_steps x rs never = sym (steps_to_other x rs never)

module _ (piece : Piece) (p : ℕ) (i : Arc (List Row) Global) (ts : Vec (Arc Piece Global) Global) (o : Arc Piece Global) (is : piece ≡ Switch p i ts o) where
  switch_is : routine_of piece ≡ chain p (arc_value i) (routines ts.items) (routine_of (arc_value o))
  switch_is = ap routine_of is ∙ routine_of_switch p i ts o

  pub lower_switch : (h : ℕ) → h ≤ max (highest (map (λ t. height (arc_value t)) ts.items)) (height (arc_value o)) → h < height piece
  lower_switch h below = omega (arith, below, ap height is ∙ height_of_switch p i ts o)

  module _ (v : Setting) (a l : List Value) (m : ℕ) where
    pub leaves_switch : MayRun v a l (routine_of piece) m → (q : Routine) (n : ℕ) → q ≡ get_or (routines ts.items) (row_of (argument a p) (arc_value i)) (routine_of (arc_value o)) → n ≡ m + steps_to (argument a p) (arc_value i) → Leaves v a l (routine_of piece) m l q n
    leaves_switch may q n target steps =
        let all = chain p (arc_value i) (routines ts.items) (routine_of (arc_value o)) in
        let left = get_or (routines ts.items) (row_of (argument a p) (arc_value i)) (routine_of (arc_value o)) in
        subst (λ r. Leaves v a l r m l q n) (sym switch_is)
        (subst (λ r. Leaves v a l all m l r n) (sym target)
        (subst (Leaves v a l all m l left) (sym steps)
        (leaves_chain v a l p (arc_value i) (routines ts.items) (routine_of (arc_value o)) m (subst (λ r. MayRun v a l r m) switch_is may))))

    own_steps : (k : ℕ) → steps_to (argument a p) (arc_value i) + weight k (get_or (routines ts.items) (row_of (argument a p) (arc_value i)) (routine_of (arc_value o))) ≤ weight k (routine_of piece)
    own_steps k =
        subst (λ w. steps_to (argument a p) (arc_value i) + weight k (get_or (routines ts.items) (row_of (argument a p) (arc_value i)) (routine_of (arc_value o))) ≤ w) (sym (ap (weight k) switch_is))
        (weight_chain k (argument a p) p (arc_value i) (routines ts.items) (routine_of (arc_value o)))

    pub goes_switch : MayGo v a l (routine_of piece) m → (q : Routine) (n : ℕ) → q ≡ get_or (routines ts.items) (row_of (argument a p) (arc_value i)) (routine_of (arc_value o)) → n ≡ m + steps_to (argument a p) (arc_value i) → Goes v a l (routine_of piece) m l q n
    goes_switch may q n target steps = record {
      leaves = leaves_switch may.run q n target steps;
      own = omega (arith, own_steps 0, steps, ap (weight 0) target);
    }

    -- the steps that were counted
    pub few_switch : MayRun v a l (routine_of piece) m → m + steps_to (argument a p) (arc_value i) ≤ greatest_steps
    few_switch may = omega (arith, may.few, own_steps (most_at v.level))

    pub own_switch : MayGo v a l (routine_of piece) m → m + steps_to (argument a p) (arc_value i) ≤ most_own
    own_switch may = omega (arith, may.own, own_steps 0)
