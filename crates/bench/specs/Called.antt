-- The conditions under which a tree may run.
use Rattle.std.specs.Prelude.{◌≤◌, length, All}
use Rattle.bench.specs.declared.called.Called.{Called}
use Rattle.mh_type.specs.Fits.{Fits}
use Rattle.mh_tree.specs.Limits.{point_bound}
use Rattle.mh_tree.specs.Sites.{HavePoints, IsLawful}

-- the arguments fit, the points and sites that trees name exist, and trees invoke only sites of lower levels
abbrev pub MayRun : Called → Type 0
MayRun c =
    Fits c.handle.now.signature c.arguments.now × (point_bound c.handle.now.tree ≤ length c.valid.now)
    × HavePoints (length c.valid.now) c.targets.now × IsLawful c.levels.now c.targets.now c.handle.now.tree
