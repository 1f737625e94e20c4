use Rattle.std.proofs.Common.{◌≤◌, ℕ, ◌++◌, ◌∷◌, []}
use Rattle.std.proofs.lemmas.List.Elements.{All-push, All-same}
use Rattle.mh_core.specs.Laws.Numbered.{more_numbers}
use Rattle.mh_text.specs.Report.{most_unflushed}
use Rattle.mhlink_c.specs.Texts.{unflushed_of}
use Rattle.mhlink_c.proofs.host.answers.unflushed_hits.Goals as goal

-- what the workers hold
abbrev small : ℕ → Type 0
small n = n ≤ most_unflushed

pub loop-link-preserved : goal.loop-link-preserved
loop-link-preserved c = record {
  value = more_numbers (unflushed_of c.args.ledgers.now) c.loop-link.link _ _ _ c.loop-link.invariant.value c.unflushed.ensures.value c.in_ok-push.ensures.items;
  few = All-same small c.push.new.self.items (c.loop-link.hits.items ++ c.unflushed.result ∷ []) c.in_ok-push.ensures.items (All-push small c.loop-link.hits.items c.unflushed.result c.loop-link.invariant.few c.unflushed.ensures.few);
}
