use Rattle.std.proofs.Common.{ℕ}
use Rattle.mh_site.specs.Worlds.{state_at}
use Rattle.mh_core.specs.Laws.Numbered.{more_numbers}
use Rattle.mh_core.proofs.snapshot.versions.Goals as goal

pub loop-site-preserved : goal.loop-site-preserved
loop-site-preserved c = more_numbers (λ (i : ℕ). (state_at c.args.world.now i).version) c.loop-site.site _ _ _ c.loop-site.invariant c.version.ensures.value c.in_ok-push.ensures.items
