use Rattle.mh_live.proofs.Ruling.{publishes}
use Rattle.mh_live.proofs.publishing.publish.Goals as goal

pub publish_as-requires : goal.publish_as-requires
publish_as-requires g c next e = let shown = c.requires.pending next e in publishes g.N.ListName.book g.N.ListName.definition _ _ c.args.writer.desk.shown.value next shown.0 shown.1
