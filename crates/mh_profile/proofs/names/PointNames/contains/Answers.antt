use Rattle.std.proofs.Common.{sym}
use Rattle.mh_profile.proofs.NameTexts.{any_text}
use Rattle.mh_profile.proofs.names.PointNames.contains.Goals as goal

pub returns : goal.returns
returns c = record { value = rw (c.contains.ensures, ← c.self.view_is) (sym (any_text c.args.name.now c.self.inside.set.keys)) }
