use Rattle.mh_core.proofs.reply.ReplyDisplay.fmt.Goals as goal

pub returns-in-Published-clause-writes : goal.returns-in-Published-clause-writes
returns-in-Published-clause-writes g c plain ok =
    let h = rw c.plan.ensures.value at c.write-in-Published.ensures.writes plain ok in
    rw c.in-Published.is h
