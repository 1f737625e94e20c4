use Rattle.std.proofs.Common.{refl}
use Rattle.mh_words.proofs.Computes.{key_asked}
use Rattle.mh_words.proofs.sources.key_slot.Goals as goal

pub returns-in-Read : goal.returns-in-Read
returns-in-Read c =
    record { value = key_asked c.args.place.now.of.now c.args.place.now.locals.now c.args.number c.in-Some.known c.in-Read.slot c.in-Some.ensures.value (c.if-not-is.ensures.same.0 refl) c.in-Read.is }
