use Rattle.std.proofs.Common.{◌≤◌, ℕ, ◌++◌, ◌∷◌, [], arith}
use Rattle.std.proofs.lemmas.List.Elements.{All-push, All-same}
use Rattle.mh_core.specs.Laws.Numbered.{more_numbers}
use Rattle.mh_core.specs.State.{unflushed_of_all}
use Rattle.mh_text.specs.Report.{most_unflushed}
use Rattle.mh_text.proofs.lines.report.unflushed_hits.Goals as goal

-- a sum of what so many workers hold
abbrev small : ℕ → Type 0
small n = n ≤ most_unflushed

pub loop-link-preserved : goal.loop-link-preserved
loop-link-preserved c =
    let m = c.args.machine.now in
    record {
      value = more_numbers (unflushed_of_all m.setting.definition m.history m.setting.workers) c.loop-link.link _ _ _ c.loop-link.invariant.value c.unflushed.ensures.value c.in_ok-push.ensures.items;
      few = All-same small c.push.new.self.items (c.loop-link.unflushed.items ++ c.unflushed.result ∷ []) c.in_ok-push.ensures.items (All-push small c.loop-link.unflushed.items c.unflushed.result c.loop-link.invariant.few (omega (arith, c.unflushed.ensures.within)));
    }
