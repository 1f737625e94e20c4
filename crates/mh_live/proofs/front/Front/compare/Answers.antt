use Rattle.std.proofs.Common.{ap, subst, List}
use mathlib.Core.List.{IsPrefix}
use Rattle.mh_site.specs.declared.control.Control.{Control}
use Rattle.mh_live.proofs.Prefixes.{prefix_shorter}
use Rattle.mh_live.proofs.front.Front.compare.Goals as goal

pub returns-clause-shorter : goal.returns-clause-shorter
returns-clause-shorter g c =
    let both = c.learn.new.self.log in
    let this : IsPrefix c.self.inside.past.log both = subst (λ (l : List Control). IsPrefix l both) (ap (λ s. s.log) c.again-both.ensures) c.learn.ensures.2 in
    rw (← c.self.view_is, ← c.other.view_is) (λ le. prefix_shorter c.self.inside.past.log c.other.inside.past.log both this c.learn.ensures.3 le)

pub returns-clause-longer : goal.returns-clause-longer
returns-clause-longer g c =
    let both = c.learn.new.self.log in
    let this : IsPrefix c.self.inside.past.log both = subst (λ (l : List Control). IsPrefix l both) (ap (λ s. s.log) c.again-both.ensures) c.learn.ensures.2 in
    rw (← c.self.view_is, ← c.other.view_is) (λ le. prefix_shorter c.other.inside.past.log c.self.inside.past.log both c.learn.ensures.3 this le)
