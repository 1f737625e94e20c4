use Rattle.std.proofs.Common.{arith}
use Rattle.mh_core.specs.Laws.LawfulLinks.{few_links}
use Rattle.mh_core.proofs.book.Book.usable.Goals as goal

pub overflow_cast-link : goal.overflow_cast-link
overflow_cast-link c =
    let below = c.requires.inside c.loop-link.link-index 0 (omega (arith, c.loop-link-test.true)) in
    omega (arith, below, few_links c.args.self.now.definition c.kept.ensures.book.definition)
