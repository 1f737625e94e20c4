use Rattle.mh_tree.specs.Sites.{MayInvoke}
use Rattle.mh_pic.specs.Laws.Bounds.{chain_depth, chain_size, chain_bound}
use Rattle.mh_pic.specs.Laws.Chains.{chain_faithful}
use Rattle.mh_pic.specs.Laws.Invocations.{chain_invokes}
use Rattle.mh_pic.proofs.laws.chains_are_faithful.Goals as goal

pub returns : goal.returns
returns c = record {
  faithful = chain_faithful;
  deep = chain_depth;
  large = chain_size;
  bound = chain_bound;
  invokes = λ kinds base entries levels targets l e. chain_invokes (MayInvoke levels targets l) kinds base entries e;
}
