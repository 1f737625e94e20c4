use Rattle.std.proofs.Common.{rules}
use Rattle.std.specs.Int.{int_wrap}
use Rattle.mh_words.proofs.calculating.low.Goals as goal

pub returns : goal.returns
unfolding int_wrap
returns c = search rules
