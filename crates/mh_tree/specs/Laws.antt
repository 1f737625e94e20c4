-- Laws of the definitions, for the proofs of crates above. Each is proved, so none has to be believed.
pub mod Calls
pub mod Costs
pub mod Crossing
pub mod Effort
pub mod Efforts
pub mod Invocations
pub mod LeadingArguments
pub mod Means
pub mod OperandReads
pub mod ResultKinds
pub mod Scope
pub mod Sites
pub mod Tests
pub mod Trees
pub mod Types
pub use Rattle.mh_tree.specs.Laws.Calls.{call_costs, call_means, call_scoped, call_weighs, call_count}
pub use Rattle.mh_tree.specs.Laws.Crossing.{TreesCross}
pub use Rattle.mh_tree.specs.Laws.Effort.{effort, total_effort}
pub use Rattle.mh_tree.specs.Laws.Efforts.{few_efforts}
pub use Rattle.mh_tree.specs.Laws.Invocations.{IsBelow, below_bounds, both_hold, each_both, each_decides, hold_both, sites_below}
pub use Rattle.mh_tree.specs.Laws.LeadingArguments.{argument_more, arity_counts, as_few, as_many, count as filter_count, counted, enough, filtered_length, filtered_more, leading, mean_leading, mean_more, put_in_more, reordered_more, same_count, steps_leading, taken_out_more, with_more}
pub use Rattle.mh_tree.specs.Laws.Means.{means}
pub use Rattle.mh_tree.specs.Laws.OperandReads.{Reads, filter_wide, one_more, permuted_wide, reads_at, reads_discarded, reads_inserted, reads_newest, reads_nothing, reads_now, reads_one, reads_permuted, reads_set, shorter}
pub use Rattle.mh_tree.specs.Laws.ResultKinds.{GivesKind, mean_alike, result_kind}
pub use Rattle.mh_tree.specs.Laws.Scope.{in_at, leading_few, reads_arguments, reads_first}
pub use Rattle.mh_tree.specs.Laws.Sites.{alone_lawful, each_map, lawful_in_place, lawful_reaches, may_reach, mean_by, site_costs, site_means, steps_at, steps_by}
pub use Rattle.mh_tree.specs.Laws.Tests.{guard_passes, limits_pass, point_passes}
pub use Rattle.mh_tree.specs.Laws.Trees.{tree_of_filter}
pub use Rattle.mh_tree.specs.Laws.Types.{few_parameters, type_computed}
