-- Which prepared trees only negate a local: the operation `not` on it, behind filters of no place.
use Rattle.std.proofs.Common.{◌≡◌, Bool, true, false, ◌&&◌, ◌==◌, ℕ, ◌+◌, ◌∙◌, arith, refl, ap, List, [], ◌∷◌, ◌++◌, take, drop, map, length}
use Rattle.std.proofs.lemmas.Bool.{eqb-true, false_from_ne_true}
use Rattle.mh_type.specs.Operations.{op_signature}
use Rattle.mh_type.specs.declared.operation.Op.{Op}
use Rattle.mh_tree.specs.Code.{Code}
use Rattle.mh_tree.specs.Prepared.{operand_at, prepared, prepared_filters}
use Rattle.mh_tree.specs.Tree.{Tree, Filters, constant, identity, operation, insert, discard, permute, filter, filter_return, fold, guard, point, invoke, no_more, absent, present}
use Rattle.mh_tree.specs.declared.operand.Operand.{Operand}
use Rattle.mh_tree.specs.declared.operand.Operand.TheVariants.{Constant}
use Rattle.mh_code.specs.Laws.Truths.{is_not_is}
use Rattle.mh_code.specs.inner.Negations.{are_absent, is_not_tree}
use Rattle.mh_code.specs.RoutineOf.{is_local, is_not, negates}

several : (s : ℕ) → (((s + 1) + 1) == 1) ≡ false
several s = false_from_ne_true _ (λ h. omega (arith, eqb-true ((s + 1) + 1) 1 h))

-- a second step is not the operation's own
mutual
  later : (t : Tree) (env : List Operand) (i d s : ℕ) → negates i (prepared t env d (s + 1)) ≡ false
  later (constant x) env i d s = refl
  later (identity k) env i d s = refl
  later (operation o) env i d s =
      ap (λ b. (b && is_not o) && is_local i (operand_at (take (length (op_signature o).parameters) env) 0)) (several s)
  later (insert t p xs) env i d s = later t (take p env ++ (map Constant xs ++ drop p env)) i d (s + 1)
  later (discard t p ks) env i d s = later t (take p env ++ drop (p + length ks) env) i d (s + 1)
  later (permute t m r) env i d s = later t (map (operand_at env) r) i d (s + 1)
  later (filter t p fs) env i d s = later_filters fs p env i d (s + 1) (prepared t) (λ e n m. later t e i n m)
  later (filter_return t f) env i d s = refl
  later (fold t c) env i d s = refl
  later (guard c x y) env i d s = refl
  later (point p x y) env i d s = refl
  later (invoke k n) env i d s = refl

  later_filters : (fs : Filters) (p : ℕ) (env : List Operand) (i d s : ℕ) (go : List Operand → ℕ → ℕ → Code) → ((e : List Operand) (k m : ℕ) → negates i (go e k (m + 1)) ≡ false) → negates i (prepared_filters fs p env d (s + 1) go) ≡ false
  later_filters no_more p env i d s go h = h env d s
  later_filters (absent fs) p env i d s go h = later_filters fs (p + 1) env i d s go h
  later_filters (present f fs) p env i d s go h = refl

first_read : (env : List Operand) → operand_at (take 1 env) 0 ≡ operand_at env 0
first_read [] = refl
first_read (o ∷ os) = refl

reads_first : (o : Op) (env : List Operand) (i : ℕ) (b : Bool) → is_not o ≡ b → (b && is_local i (operand_at (take (length (op_signature o).parameters) env) 0)) ≡ (b && is_local i (operand_at env 0))
reads_first o env i true is = ap (λ (n : Op). is_local i (operand_at (take (length (op_signature n).parameters) env) 0)) (is_not_is o is) ∙ ap (is_local i) (first_read env)
reads_first o env i false is = refl

negates_tree : (t : Tree) (env : List Operand) (i d : ℕ) → negates i (prepared t env d 0) ≡ (is_not_tree t && is_local i (operand_at env 0))
negates_tree (constant x) env i d = refl
negates_tree (identity k) env i d = refl
negates_tree (operation o) env i d = reads_first o env i (is_not o) refl
negates_tree (insert t p xs) env i d = later t (take p env ++ (map Constant xs ++ drop p env)) i d 0
negates_tree (discard t p ks) env i d = later t (take p env ++ drop (p + length ks) env) i d 0
negates_tree (permute t m r) env i d = later t (map (operand_at env) r) i d 0
negates_tree (filter t p fs) env i d = later_filters fs p env i d 0 (prepared t) (λ e n m. later t e i n m)
negates_tree (filter_return t f) env i d = refl
negates_tree (fold t c) env i d = refl
negates_tree (guard c x y) env i d = refl
negates_tree (point p x y) env i d = refl
negates_tree (invoke k n) env i d = refl

pub negates_filters : (fs : Filters) (p : ℕ) (t : Tree) (env : List Operand) (i d : ℕ) → negates i (prepared_filters fs p env d 0 (prepared t)) ≡ (are_absent fs && (is_not_tree t && is_local i (operand_at env 0)))
negates_filters no_more p t env i d = negates_tree t env i d
negates_filters (absent fs) p t env i d = negates_filters fs (p + 1) t env i d
negates_filters (present f fs) p t env i d = refl
