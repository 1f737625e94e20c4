use Rattle.std.proofs.Common.{false}
use Rattle.mh_tree.specs.Sites.{MayInvoke}
use Rattle.mh_pic.specs.Laws.Bounds.{resolved_bound, resolved_depth, resolved_size}
use Rattle.mh_pic.specs.Laws.Invocations.{resolved_invokes}
use Rattle.mh_pic.specs.Laws.Kept.{resolved_names, resolved_typed}
use Rattle.mh_pic.specs.Laws.ResolvedTrees.{retired_mean, retired_sites, retired_steps}
use Rattle.mh_pic.proofs.Unnamed.{resolved_same}
use Rattle.mh_pic.proofs.laws.retired_points_keep_meaning.Goals as goal

pub returns : goal.returns
returns c = record {
  same = retired_mean;
  quick = retired_steps;
  sites = retired_sites;
  typed = resolved_typed false;
  unnamed = resolved_names false;
  stays = λ ps t h. resolved_same ps false t h;
  shallow = resolved_depth false;
  small = resolved_size false;
  bound = resolved_bound false;
  invokes = λ ps t levels targets l e. resolved_invokes (MayInvoke levels targets l) false ps t e;
}
