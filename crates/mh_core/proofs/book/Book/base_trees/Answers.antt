use Rattle.std.proofs.Common.{ℕ}
use Rattle.mh_core.specs.Records.{base}
use Rattle.mh_core.specs.Laws.Numbered.{more_numbers}
use Rattle.mh_core.proofs.book.Book.base_trees.Goals as goal

pub loop-site-preserved : goal.loop-site-preserved
loop-site-preserved c = more_numbers (base c.args.self.now.definition c.args.self.now.records) c.loop-site.site _ _ _ c.loop-site.invariant c.in_ok-base_tree.ensures.value c.in_ok-push.ensures.items
