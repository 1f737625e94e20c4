use Rattle.std.proofs.Common.{ap, length, ◌∙◌, subst, sym}
use Rattle.mh_core.specs.Standing.{IsWorldOf}
use Rattle.mh_live.specs.declared.published.Published.{Published}
use Rattle.mh_live.proofs.Entered.{front_is, world_of}
use Rattle.mh_live.proofs.Ruling.{enters}
use Rattle.mh_live.proofs.pass.visit.Goals as goal

pub enter_as-requires : goal.enter_as-requires
enter_as-requires g c = enters g.N.ListName.book g.N.ListName.definition _ _

pub of-front-requires : goal.of-front-requires
of-front-requires g c =
    let entered = c.get-entered.ensures in
    let stands = c.in-Ok.ensures.1.0 in
    record {
      past = (
        c.front.ensures.value ∙ (ap (λ (x : Published). x.world.front) entered ∙ (front_is g.N.ListName.book g.N.ListName.definition c.in-Ok.reading.part.value stands ∙ sym (ap (λ (x : Published). length x.past.log) entered))),
        ap (λ (x : Published). x.past.book) entered ∙ stands.book_is,
        ap (λ (x : Published). x.past.names) entered ∙ stands.names_are,
      );
    }

pub evaluate-given-requires : goal.evaluate-given-requires
evaluate-given-requires g c =
    let d = g.N.ListName.definition in
    let there = world_of g.N.ListName.book d c.in-Ok.reading.part.value c.in-Ok.ensures.1.0 in
    record { callable = (d, (subst (λ (x : Published). IsWorldOf d x.world) (sym c.get-entered.ensures) there, c.requires.callable)) }
