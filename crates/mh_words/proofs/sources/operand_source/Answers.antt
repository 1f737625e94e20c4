use Rattle.mh_words.proofs.Computes.{makes_operand}
use Rattle.mh_words.proofs.sources.operand_source.Goals as goal

pub returns : goal.returns
returns c =
    record { value = makes_operand c.args.place.now.of.now c.args.place.now.locals.now c.args.operand.now c.in-Some.known c.source_of.result c.in-Some.ensures.value c.source_of.ensures.value }
