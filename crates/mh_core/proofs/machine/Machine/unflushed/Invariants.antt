use Rattle.std.proofs.Common.{◌≡◌, ◌≤◌, ◌*◌, ◌^◌}
use Rattle.mh_core.specs.State.{unflushed_of_all}
use Rattle.mh_core.proofs.machine.Machine.unflushed.Given as goal

-- the hits of the first workers
abbrev pub invariant-loop-worker : goal.invariant-loop-worker
invariant-loop-worker l = record {
  value : l.sum ≡ unflushed_of_all l.self.setting.definition l.self.history l.worker l.link;
  within : l.sum ≤ l.worker * 2 ^ 64;
}
