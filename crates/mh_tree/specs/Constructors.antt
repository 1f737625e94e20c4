-- The result of each constructor, or the fault of the first of its tests that fails.
use Rattle.std.specs.Prelude.{◌≡◌, ℕ, ◌+◌, Bool, true, false, ◌&&◌, Option, Some, None, option_map, Result, Err, IsOk, List, [], ◌∷◌, ◌++◌, take, drop, map, length, nat_eq, nat_lt, nat_le}
use Rattle.std.specs.List.{list_all}
use Rattle.mh_base.specs.Listed.{Decided, first_failing, made_unless}
use Rattle.mh_base.specs.Tests.{Tests, test as tested, no_more, only}
use Rattle.mh_type.specs.declared.kind.Kind.{Kind}
use Rattle.mh_type.specs.declared.kind.Kind.TheVariants as kind
use Rattle.mh_type.specs.declared.operation.Op.{Op}
use Rattle.mh_type.specs.declared.value.Value.{Value}
use Rattle.mh_type.specs.Kinds.{kind_of, kind_eq, kinds_eq}
use Rattle.mh_type.specs.Operations.{op_signature}
use Rattle.mh_type.specs.Signature.{Signature, signature_eq, with_parameters, without_parameters}
use Rattle.mh_tree.specs.Handle.{TypedTree}
use Rattle.mh_tree.specs.Limits.{depth, size, greatest_depth, most_nodes, greatest_declared_depth, most_declared_nodes}
use Rattle.mh_tree.specs.Tree.{Filters, filters_of, constant, identity, operation, insert, discard, permute, filter, filter_return, fold, guard, point, invoke}
use Rattle.mh_tree.specs.Typing.{kind_at}
use Rattle.mh_tree.specs.declared.fault.TreeFault.{TreeFault}
use Rattle.mh_tree.specs.declared.fault.TreeFault.TheVariants.{NoMemory, BadPosition, TypeMismatch, NotUnary, NotBoolean, BadReorder, TooManyParameters, TooDeep, TooLarge}
use Rattle.mh_type.specs.Limits.{most_parameters}

-- a tree if every test holds, and otherwise the fault of the first that fails
abbrev pub made : TypedTree → Decided TreeFault → Result TypedTree TreeFault
made h tests = made_unless h (first_failing tests)

-- the tests that come last: the limits of parameters, depth and size
abbrev pub limits : TypedTree → Decided TreeFault
limits h =
    (nat_le (length h.signature.parameters) most_parameters, TooManyParameters)
    ∷ (nat_le (depth h.tree) greatest_depth, TooDeep)
    ∷ (nat_le (size h.tree) most_nodes, TooLarge)
    ∷ []

-- a tree of which only the limits are tested
abbrev pub within_limits : TypedTree → Result TypedTree TreeFault
within_limits h = made h (limits h)

-- a handle as a declared tree
abbrev pub declared_made : TypedTree → Result TypedTree TreeFault
declared_made h = made h (
    (nat_le (depth h.tree) greatest_declared_depth, TooDeep)
    ∷ (nat_le (size h.tree) most_declared_nodes, TooLarge)
    ∷ [])

-- the reasons to refuse a tree: a test that fails, or lack of memory, which may be reported if every test passed
abbrev pub refusals : Result TypedTree TreeFault → Tests TreeFault
refusals made = tested (IsOk made) (λ e. made ≡ Err e) (no_more (only NoMemory))

-- `MethodHandles.constant`
abbrev pub constant_made : Value → TypedTree
constant_made x = record { tree = constant x; signature = record { ret = kind_of x; parameters = [] } }

-- `MethodHandles.identity`
abbrev pub identity_made : Kind → TypedTree
identity_made k = record { tree = identity k; signature = record { ret = k; parameters = k ∷ [] } }

-- a leaf operation
abbrev pub op_made : Op → TypedTree
op_made o = record { tree = operation o; signature = op_signature o }

-- `MutableCallSite.dynamicInvoker`: a site of this type
abbrev pub invoke_made : ℕ → Signature → TypedTree
invoke_made s m = record { tree = invoke s m; signature = m }

-- `MethodHandles.insertArguments`: the target without the parameters that the values replace
abbrev pub inserted : TypedTree → ℕ → List Value → TypedTree
inserted target p xs = record {
  tree = insert target.tree p xs;
  signature = record { ret = target.signature.ret; parameters = without_parameters target.signature.parameters p (length xs) };
}

-- the values replace parameters of their kinds
abbrev pub insert_made : TypedTree → ℕ → List Value → Result TypedTree TreeFault
insert_made target p xs =
    let old = target.signature.parameters in
    let h = inserted target p xs in
    made h (
    (nat_le (p + length xs) (length old), BadPosition)
    ∷ (kinds_eq (map kind_of xs) (take (length xs) (drop p old)), TypeMismatch)
    ∷ limits h)

-- `MethodHandles.dropArguments`: the target with additional parameters that are discarded
abbrev pub dropped : TypedTree → ℕ → List Kind → TypedTree
dropped target p ks = record {
  tree = discard target.tree p ks;
  signature = record { ret = target.signature.ret; parameters = with_parameters target.signature.parameters p ks };
}

abbrev pub drop_made : TypedTree → ℕ → List Kind → Result TypedTree TreeFault
drop_made target p ks =
    let h = dropped target p ks in
    made h ((nat_le p (length target.signature.parameters), BadPosition) ∷ limits h)

-- `MethodHandles.permuteArguments`
abbrev pub permuted : TypedTree → Signature → List ℕ → TypedTree
permuted target new_type reorder = record { tree = permute target.tree new_type reorder; signature = new_type }

-- there is one entry for each parameter of the target, which names the parameter of the new type that is passed for it
abbrev pub permute_made : TypedTree → Signature → List ℕ → Result TypedTree TreeFault
permute_made target new_type reorder =
    let h = permuted target new_type reorder in
    made h (
    (nat_eq (length reorder) (length target.signature.parameters), BadReorder)
    ∷ (list_all (λ i. nat_lt i (length new_type.parameters)) reorder, BadReorder)
    ∷ (kind_eq target.signature.ret new_type.ret, TypeMismatch)
    ∷ (kinds_eq target.signature.parameters (map (λ i. kind_at new_type.parameters i) reorder), TypeMismatch)
    ∷ limits h)

-- the plain tree of each filter
abbrev pub plain_filters : List (Option TypedTree) → Filters
plain_filters filters = filters_of (map (option_map (λ f. f.tree)) filters)

-- whether a filter that is present has one parameter
abbrev pub is_unary : Option TypedTree → Bool
is_unary None = true
is_unary (Some f) = nat_eq (length f.signature.parameters) 1

-- whether each filter that is present returns the kind at its index
abbrev pub return_kinds : List (Option TypedTree) → List Kind → Bool
return_kinds [] ks = true
return_kinds (None ∷ fs) (k ∷ ks) = return_kinds fs ks
return_kinds (Some f ∷ fs) (k ∷ ks) = kind_eq f.signature.ret k && return_kinds fs ks
return_kinds (f ∷ fs) [] = false

-- the kinds of the arguments of filters: the parameter of one that is present replaces that of the target
abbrev pub taken_kinds : List (Option TypedTree) → List Kind → List Kind
taken_kinds [] ks = ks
taken_kinds (None ∷ fs) (k ∷ ks) = k ∷ taken_kinds fs ks
taken_kinds (Some f ∷ fs) (k ∷ ks) = kind_at f.signature.parameters 0 ∷ taken_kinds fs ks
taken_kinds (f ∷ fs) [] = []

-- `MethodHandles.filterArguments`
abbrev pub arguments_filtered : TypedTree → ℕ → List (Option TypedTree) → TypedTree
arguments_filtered target p fs =
    let old = target.signature.parameters in
    record {
      tree = filter target.tree p (plain_filters fs);
      signature = record { ret = target.signature.ret; parameters = take p old ++ taken_kinds fs (drop p old) };
    }

-- each filter has one parameter, and returns the kind of the target's parameter at its position
abbrev pub filter_made : TypedTree → ℕ → List (Option TypedTree) → Result TypedTree TreeFault
filter_made target p fs =
    let h = arguments_filtered target p fs in
    made h (
    (nat_le (p + length fs) (length target.signature.parameters), BadPosition)
    ∷ (list_all is_unary fs, NotUnary)
    ∷ (return_kinds fs (drop p target.signature.parameters), TypeMismatch)
    ∷ limits h)

-- `MethodHandles.filterReturnValue`
abbrev pub return_filtered : TypedTree → TypedTree → TypedTree
return_filtered target last = record {
  tree = filter_return target.tree last.tree;
  signature = record { ret = last.signature.ret; parameters = target.signature.parameters };
}

-- the filter has one parameter, of the kind that the target returns
abbrev pub filter_return_made : TypedTree → TypedTree → Result TypedTree TreeFault
filter_return_made target last =
    let h = return_filtered target last in
    made h (
    (nat_eq (length last.signature.parameters) 1, NotUnary)
    ∷ (kinds_eq last.signature.parameters (target.signature.ret ∷ []), TypeMismatch)
    ∷ limits h)

-- `MethodHandles.foldArguments`: the target without its first parameter, which the combiner computes
abbrev pub folded : TypedTree → TypedTree → TypedTree
folded target combiner = record {
  tree = fold target.tree combiner.tree;
  signature = record { ret = target.signature.ret; parameters = drop 1 target.signature.parameters };
}

-- the target has a first parameter, of the kind that the combiner returns, and the combiner's parameters are the
-- first of the rest
abbrev pub fold_made : TypedTree → TypedTree → Result TypedTree TreeFault
fold_made target combiner =
    let first = combiner.signature.parameters in
    let h = folded target combiner in
    made h (
    (kinds_eq (combiner.signature.ret ∷ []) (take 1 target.signature.parameters), TypeMismatch)
    ∷ (kinds_eq first (take (length first) (drop 1 target.signature.parameters)), TypeMismatch)
    ∷ limits h)

-- `MethodHandles.guardWithTest`
abbrev pub guarded : TypedTree → TypedTree → TypedTree → TypedTree
guarded test target fallback = record { tree = guard test.tree target.tree fallback.tree; signature = target.signature }

-- the branches have the same type, and the test's parameters are the first of theirs
abbrev pub guard_made : TypedTree → TypedTree → TypedTree → Result TypedTree TreeFault
guard_made test target fallback =
    let first = test.signature.parameters in
    let h = guarded test target fallback in
    made h (
    (kind_eq test.signature.ret kind.Boolean, NotBoolean)
    ∷ (signature_eq target.signature fallback.signature, TypeMismatch)
    ∷ (kinds_eq first (take (length first) target.signature.parameters), TypeMismatch)
    ∷ limits h)

-- `SwitchPoint.guardWithTest`
abbrev pub pointed : ℕ → TypedTree → TypedTree → TypedTree
pointed p target fallback = record { tree = point p target.tree fallback.tree; signature = target.signature }

-- the branches have the same type
abbrev pub point_made : ℕ → TypedTree → TypedTree → Result TypedTree TreeFault
point_made p target fallback =
    let h = pointed p target fallback in
    made h ((signature_eq target.signature fallback.signature, TypeMismatch) ∷ limits h)
