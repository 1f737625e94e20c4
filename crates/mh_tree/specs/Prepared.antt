-- The code of a tree, whose parameters are these operands, below d locals, with s steps before it. Nodes that only move arguments
-- disappear: the step of such a node is counted at the node inside it.
use Rattle.std.specs.Prelude.{ℕ, ◌+◌, false, List, [], ◌∷◌, ◌++◌, take, drop, map, length, slice_index_or, slice_set}
use Rattle.std.specs.List.{range_with_len}
use Rattle.mh_type.specs.declared.value.Value.TheVariants.{Boolean}
use Rattle.mh_type.specs.Operations.{op_signature}
use Rattle.mh_tree.specs.Tree.{Tree, Filters, constant, identity, operation, insert, discard, permute, filter, filter_return, fold, guard, point, invoke, no_more, absent, present}
use Rattle.mh_tree.specs.Handle.{TypedTree}
use Rattle.mh_tree.specs.Code.{Code, leaf, apply, bind, branch, point as code_point, invoke as code_invoke}
use Rattle.mh_tree.specs.declared.operand.Operand.{Operand}
use Rattle.mh_tree.specs.declared.operand.Operand.TheVariants.{Argument, Local, Constant}

-- the operand at an index
abbrev pub operand_at : List Operand → ℕ → Operand
operand_at env i = slice_index_or env i (Constant (Boolean false))

abbrev mutual
  pub prepared : Tree → List Operand → ℕ → ℕ → Code
  prepared (constant x) env d s = leaf (s + 1) (Constant x)
  prepared (identity k) env d s = leaf (s + 1) (operand_at env 0)
  prepared (operation o) env d s =
      let read = take (length (op_signature o).parameters) env in
      apply (s + 1) o (operand_at read 0) (operand_at read 1)
  prepared (insert t p xs) env d s = prepared t (take p env ++ (map Constant xs ++ drop p env)) d (s + 1)
  prepared (discard t p ks) env d s = prepared t (take p env ++ drop (p + length ks) env) d (s + 1)
  prepared (permute t m r) env d s = prepared t (map (operand_at env) r) d (s + 1)
  prepared (filter t p fs) env d s = prepared_filters fs p env d (s + 1) (prepared t)
  prepared (filter_return t f) env d s = bind (s + 1) (prepared t env d 0) (prepared f (Local d ∷ []) (d + 1) 0)
  prepared (fold t c) env d s = bind (s + 1) (prepared c env d 0) (prepared t (Local d ∷ env) (d + 1) 0)
  prepared (guard c x y) env d s = branch (s + 1) (prepared c env d 0) (prepared x env d 0) (prepared y env d 0)
  prepared (point p x y) env d s = code_point (s + 1) p (prepared x env d 0) (prepared y env d 0)
  prepared (invoke k n) env d s = code_invoke (s + 1) k (take (length n.parameters) env)

  -- the filters from position p on, followed by the target
  pub prepared_filters : Filters → ℕ → List Operand → ℕ → ℕ → (List Operand → ℕ → ℕ → Code) → Code
  prepared_filters no_more p env d s go = go env d s
  prepared_filters (absent fs) p env d s go = prepared_filters fs (p + 1) env d s go
  prepared_filters (present f fs) p env d s go =
      bind s (prepared f (operand_at env p ∷ []) d 0) (prepared_filters fs (p + 1) (slice_set env p (Local d)) (d + 1) 0 go)

-- the first n arguments
abbrev pub leading_arguments : ℕ → List Operand
leading_arguments n = map (λ i. Argument i) (range_with_len 0 n)

-- the code of a handle: its parameters are the arguments of a call, and there are no locals yet
abbrev pub handle_code : TypedTree → Code
handle_code h = prepared h.tree (map (λ i. Argument i) (range_with_len 0 (length h.signature.parameters))) 0 0
