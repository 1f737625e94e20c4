use Rattle.std.proofs.Common.{◌≡◌, ◌+◌, ap, sym, ◌∙◌, arith, List, Option, IfOk, length, subst, take, zero-add}
use Rattle.std.specs.Arc.{arc_value}
use Rattle.std.specs.declared.alloc.Global.{Global}
use Rattle.std.specs.declared.sync.Arc.{Arc}
use Rattle.mh_code.specs.Laws.Shifts.{shifts}
use Rattle.mh_code.specs.PieceOf.{routine_of}
use Rattle.mh_code.specs.inner.PurposeOf.{purpose_of}
use Rattle.mh_code.specs.Routine.{Routine, operand, operation, invocation, truth}
use Rattle.mh_code.specs.RoutineOf.{routine, used}
use Rattle.mh_type.specs.Operations.{op_signature}
use Rattle.mh_tree.specs.Code.{Code}
use Rattle.mh_tree.specs.Laws.{effort, total_effort, tree_of_filter}
use Rattle.mh_tree.specs.Limits.{size, total_size}
use Rattle.mh_tree.specs.Prepared.{operand_at, prepared}
use Rattle.mh_tree.specs.Tree.{Tree, constant, filter, filters_of, invoke, operation as operation_tree}
use Rattle.mh_tree.specs.TreeOf.{tree_of, tree_step, filter_trees}
use Rattle.mh_tree.specs.declared.node.Node.{Node}
use Rattle.mh_tree.specs.declared.node.Node.TheFolds.{fold-roll-Node}
use Rattle.mh_tree.specs.declared.node.Node.TheOpen as open_node
use Rattle.mh_tree.specs.declared.node.Node.TheVariants.{rolls-Constant, rolls-Invoke, rolls-Operation}
use Rattle.mh_tree.specs.declared.operand.Operand.TheVariants.{Constant}
use Rattle.mh_code.proofs.preparing.+prepare.Goals as goal

pub prepare-prepare_filters-requires : goal.prepare-prepare_filters-requires
prepare-prepare_filters-requires t c =
    let e : tree_of c.args.node.now ≡ filter (tree_of c.in-Filter.target.value) c.in-Filter.position (filters_of (filter_trees c.in-Filter.filters.items)) =
    ap tree_of c.in-Filter.is ∙ tree_of_filter c.in-Filter.target c.in-Filter.position c.in-Filter.filters in
    let f : filters_of (filter_trees c.deref-in-Filter.result.now) ≡ filters_of (filter_trees c.in-Filter.filters.items) =
    ap (λ (fs : List (Option (Arc Node Global))). filters_of (filter_trees fs)) c.deref-in-Filter.ensures.value in
    (omega (arith, ap effort e, ap total_effort f), (omega (arith, ap size e, ap total_size f, c.requires.few), omega (arith, ap size e, ap total_size f, c.requires.low)))

pub prepare-returns-in-Filter : goal.prepare-returns-in-Filter
prepare-returns-in-Filter t c =
    let e : tree_of c.args.node.now ≡ filter (tree_of c.in-Filter.target.value) c.in-Filter.position (filters_of (filter_trees c.in-Filter.filters.items)) =
    ap tree_of c.in-Filter.is ∙ tree_of_filter c.in-Filter.target c.in-Filter.position c.in-Filter.filters in
    let f : filters_of (filter_trees c.deref-in-Filter.result.now) ≡ filters_of (filter_trees c.in-Filter.filters.items) =
    ap (λ (fs : List (Option (Arc Node Global))). filters_of (filter_trees fs)) c.deref-in-Filter.ensures.value in
    record { value = rw e (rw f at c.prepare_filters.ensures.value) }

pub prepare-returns-in-Constant : goal.prepare-returns-in-Constant
prepare-returns-in-Constant t c =
    let d = c.args.place.now.depth in
    let u = purpose_of c.args.purpose.now in
    let tree : tree_of c.args.node.now ≡ constant c.in-Constant.value =
    ap tree_of (c.in-Constant.is ∙ sym (rolls-Constant c.in-Constant.value)) ∙ fold-roll-Node Tree tree_step (open_node.Constant c.in-Constant.value) in
    let P : Routine → Type 0 = λ r. IfOk c.constant.result (λ p. routine_of (arc_value p) ≡ r) in
    record {
      value = subst P
          (ap (λ i. used d i (operand (Constant c.in-Constant.value)) u) (sym (zero-add (c.args.before + 1)))
          ∙ sym (ap (λ n. routine (prepared n c.args.place.now.operands.now d c.args.before) d 0 u) tree))
          c.constant.ensures.value;
    }

pub prepare-returns-in-Operation : goal.prepare-returns-in-Operation
prepare-returns-in-Operation t c =
    let d = c.args.place.now.depth in
    let u = purpose_of c.args.purpose.now in
    let op = c.in-Operation.op in
    let read = take (length (op_signature op).parameters) c.args.place.now.operands.now in
    let tree : tree_of c.args.node.now ≡ operation_tree op =
    ap tree_of (c.in-Operation.is ∙ sym (rolls-Operation op)) ∙ fold-roll-Node Tree tree_step (open_node.Operation op) in
    let P : Routine → Type 0 = λ r. IfOk c.operation.result (λ p. routine_of (arc_value p) ≡ r) in
    record {
      value = subst P
          (ap (λ i. used d i (operation op (operand_at read 0) (operand_at read 1)) u) (sym (zero-add (c.args.before + 1)))
          ∙ sym (ap (λ n. routine (prepared n c.args.place.now.operands.now d c.args.before) d 0 u) tree))
          c.operation.ensures.value;
    }

pub prepare-returns-in-Invoke : goal.prepare-returns-in-Invoke
prepare-returns-in-Invoke t c =
    let d = c.args.place.now.depth in
    let u = purpose_of c.args.purpose.now in
    let env = c.args.place.now.operands.now in
    let site = c.in-Invoke.site in
    let m = c.in-Invoke.method_type in
    let read : c.parts.result.0.now ≡ take (length m.parameters) env = c.parts.ensures.before ∙ ap (λ n. take n env) c.count.ensures.value in
    let tree : tree_of c.args.node.now ≡ invoke site m =
    ap tree_of (c.in-Invoke.is ∙ sym (rolls-Invoke site m)) ∙ fold-roll-Node Tree tree_step (open_node.Invoke site m) in
    let P : Routine → Type 0 = λ r. IfOk c.use_invocation.result (λ p. routine_of (arc_value p) ≡ r) in
    record {
      value = subst P
          ((λ i. used d (sym (zero-add (c.args.before + 1)) i) (invocation site (read i)) u)
          ∙ sym (ap (λ n. routine (prepared n env d c.args.before) d 0 u) tree))
          c.use_invocation.ensures.value;
    }

pub prepare_guard-returns : goal.prepare_guard-returns
prepare_guard-returns t c =
    let env = c.args.place.now.operands.now in
    let d = c.args.place.now.depth in
    let u = purpose_of c.args.purpose.now in
    let code : Node → Code = λ n. prepared (tree_of n) env d 0 in
    let P : Routine → Type 0 = λ r. IfOk c.prepare-3.result (λ p. routine_of (arc_value p) ≡ r) in
    record {
      value = subst P
          ((λ i. routine (prepared (tree_of c.deref-3.result.now) env d c.args.steps) d 0 (truth (c.in_ok-target.ensures.value i) (c.in_ok-fallback.ensures.value i)))
          ∙ shifts (tree_of c.deref-3.result.now) env d c.args.steps 0 _
          ∙ (λ i. routine (code (c.deref-3.ensures i)) d (0 + c.args.steps) (truth (routine (code (c.deref.ensures i)) d 0 u) (routine (code (c.deref-2.ensures i)) d 0 u))))
          c.prepare-3.ensures.value;
    }

pub prepare_for-returns : goal.prepare_for-returns
prepare_for-returns t c =
    let tree = tree_of c.args.node.now in
    let env = c.args.place.now.operands.now in
    let d = c.args.place.now.depth in
    let u = purpose_of c.args.purpose.now in
    let P : Routine → Type 0 = λ r. IfOk c.prepare.result (λ p. routine_of (arc_value p) ≡ r) in
    record {
      value = subst P
          (shifts tree env d c.args.steps 0 u ∙ ap (λ i. routine (prepared tree env d 0) d i u) (zero-add c.args.steps))
          c.prepare.ensures.value;
    }
