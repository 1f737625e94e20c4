use Rattle.mh_live.proofs.Ruling.{admits}
use Rattle.mh_live.proofs.opening.seat_all.Goals as goal

pub reader-requires : goal.reader-requires
reader-requires g c = admits g.N.ListName.book g.N.ListName.definition
