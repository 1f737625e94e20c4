use Rattle.std.proofs.Common.{◌≡◌, ◌∙◌, ap, sym, false}
use Rattle.std.specs.Prelude.{nat_lt}
use Rattle.std.specs.List.{list_any}
use Rattle.mh_tree.specs.Limits.{point_bound}
use Rattle.mh_pic.proofs.Unnamed.{above_all, specialised_unnamed}
use Rattle.mh_pic.proofs.specialising.named.Goals as goal

pub returns : goal.returns
returns c =
    let t = c.args.handle.now.tree in
    let bound : c.point_bound.result ≡ point_bound t = c.point_bound.ensures.value in
    let none : list_any (λ p. nat_lt p (point_bound t)) c.args.needs.now ≡ false =
    sym (ap (λ n. list_any (λ p. nat_lt p n) c.args.needs.now) bound) ∙ (sym c.has_below.ensures.value ∙ c.if-has_below.false) in
    record { value = λ kinds key. specialised_unnamed c.args.needs.now kinds key t (above_all c.args.needs.now (point_bound t) none) }
