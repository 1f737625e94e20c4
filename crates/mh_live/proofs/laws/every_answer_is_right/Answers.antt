use Rattle.mh_live.proofs.Headlines.{headline}
use Rattle.mh_live.proofs.laws.every_answer_is_right.Goals as goal

pub returns : goal.returns
returns g c =
    let office = c.book.ensures.office in
    let plans = c.published_plans_are_best.ensures in
    record {
      headline = headline g.N.ListName.definition c.args.office.now.book c.book.result.now c.args.office.now.published c.front.result.now c.args.pass.now.seen c.front-2.result.now
          office.lawful office.definition office.shows c.book.ensures.value c.front.ensures.value c.front-2.ensures.value (c.compare.ensures.shorter, c.compare.ensures.longer) plans.matching plans.best;
    }
