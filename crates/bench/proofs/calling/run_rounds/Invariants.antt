use Rattle.std.proofs.Common.{◌≡◌, ◌*◌}
use Rattle.bench.specs.Tallies.{magnitude}
use Rattle.mh_tree.specs.Meaning.{mean, steps}
use Rattle.bench.proofs.calling.run_rounds.Given as goal
use Rattle.mh_tree.specs.Sites.{with_sites}

abbrev pub invariant-loop : goal.invariant-loop
invariant-loop l =
    (l.tally.answers ≡ l.counter * magnitude (mean (with_sites l.here.valid.now l.here.targets.now) l.handle.tree l.arguments))
    × (l.tally.steps ≡ l.counter * steps (with_sites l.here.valid.now l.here.targets.now) l.handle.tree l.arguments)
