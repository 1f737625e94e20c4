use Rattle.std.proofs.Common.{refl}
use Rattle.mh_live.proofs.Headlines.{headline}
use Rattle.mh_live.proofs.laws.every_settled_answer_is_right.Goals as goal

pub returns : goal.returns
returns g c =
    let settled = c.links.ensures.settled in
    let plans = c.published_plans_are_best.ensures in
    let state = c.args.settled.now in
    record {
      headline = headline g.N.ListName.definition state.book c.book.result.now state.front c.front.result.now c.args.seen.now c.args.seen.now
          settled.lawful settled.definition settled.shows c.book.ensures.value c.front.ensures.value refl (c.compare.ensures.shorter, c.compare.ensures.longer) plans.matching plans.best;
    }
