use Rattle.std.proofs.Common.{◌≡◌, ◌+◌, ◌*◌, ◌≤◌, List, length, drop}
use Rattle.mh_type.specs.declared.kind.Kind.{Kind}
use Rattle.mh_tree.specs.Limits.{size, total_size}
use Rattle.mh_tree.specs.Tree.{filters_of}
use Rattle.mh_tree.specs.TreeOf.{tree_of, filter_trees}
use Rattle.mh_tree.specs.TypeOf.{filtered_kinds}
use Rattle.mh_tree.specs.Typing.{AreTyped}
use Rattle.mh_tree.proofs.node.+types.Given as goal

-- what is left to do: two for each node, and one for the call that has the filters
abbrev pub decreases-Node::computed_type : goal.decreases-Node::computed_type
decreases-Node::computed_type l = 2 * size (tree_of l.self.now)

abbrev pub decreases-filtered_type : goal.decreases-filtered_type
decreases-filtered_type l = 2 * total_size (filters_of (filter_trees l.filters.now)) + 1

-- the filters that are left, on the kinds so far, give what all of them give
abbrev pub invariant-filtered_type-loop-index : goal.invariant-filtered_type-loop-index
invariant-filtered_type-loop-index l =
    let all = filters_of (filter_trees l.filters) in
    let left = filters_of (filter_trees (drop l.index l.filters)) in
    record {
      ret : l.made.ret ≡ l.fn.target.ret;
      same : filtered_kinds left (l.position + l.index) l.made.parameters ≡ filtered_kinds all l.position l.fn.target.parameters;
      typed : (new : List Kind) × AreTyped left (drop (l.position + l.index) l.made.parameters) new;
      few : length l.made.parameters ≤ 16;
      small : total_size left ≤ total_size all;
    }
