use Rattle.std.proofs.Common.{◌≡◌, ◌∙◌, Some, ap, refl, ◌<◌, ◌^◌, List, length, sym, subst}
use Rattle.mh_site.specs.declared.control.Control.{Control}
use Rattle.mh_core.specs.Books.{Takes, reply_to}
use Rattle.mh_core.specs.Pending.{IsReady, PendingState, control_of}
use Rattle.mh_live.specs.Offices.{OfficeState, ReceiptState}
use Rattle.mh_live.specs.Receipts.{Accepts}
use Rattle.mh_live.proofs.Answering.{list_few, list_of_change, stands_after}
use Rattle.mh_ledger.specs.Ledgers.{TotalsState}
use Rattle.mh_live.proofs.office.Office.accept.Goals as goal

pub show-requires-clause-few : goal.show-requires-clause-few
show-requires-clause-few g c = subst (λ (cs : List Control). length cs < 2 ^ 62) (sym c.self.invariant.known) (list_few c.self.inside.book c.kept.ensures.book)

pub show-requires-clause-standing : goal.show-requires-clause-standing
show-requires-clause-standing g c =
    let shown = c.self.inside.writer.desk.shown.value in
    let is = c.self.invariant in
    let ready = subst (λ (o : OfficeState). IsReady o.book c.args.change) (sym c.self.view_is) c.requires.ready in
    let own : control_of c.args.change.effect ≡ Some c.in-Some.control = sym c.in-Ok.ensures.value ∙ c.in-Some.is in
    stands_after g.N.ListName.definition shown.world shown.past.log c.self.inside.book c.args.change c.in-Some.control c.kept.ensures.book is.definition ready is.stands.replays is.published
    own

pub invariant_of-self : goal.invariant_of-self
invariant_of-self g c =
    let is = c.self.invariant in
    let b = c.self.inside.book in
    let ready = subst (λ (o : OfficeState). IsReady o.book c.args.change) (sym c.self.view_is) c.requires.ready in
    let new = c.commit-reply.new.self in
    let taken = c.commit-reply.ensures.taken in
    let both = list_of_change b new c.args.change c.in-Some.control c.self.inside.front c.in-Ok-show.front ready c.requires.calls taken
    (sym c.in-Ok.ensures.value ∙ c.in-Some.is) is.known c.in-Ok-show.ensures.list.0 in
    record {
      stands = c.show.ensures.stands;
      published = c.in-Ok-show.ensures.list.1 ∙ both.1;
      known = both.1;
      still = λ _. c.in-Ok-show.ensures.still;
      halted = λ h. absurd (cc (h, c.if-self.false));
      definition = both.0.definition ∙ is.definition;
      limits = both.0.limits ∙ is.limits;
      shares = ap (λ (t : TotalsState). length t.shares) c.commit-reply.ensures.totals ∙ is.shares;
    }

pub returns-in-Ok-show-clause-accepted : goal.returns-in-Ok-show-clause-accepted
returns-in-Ok-show-clause-accepted g c =
    let b = c.self.inside.book in
    let ready = subst (λ (o : OfficeState). IsReady o.book c.args.change) (sym c.self.view_is) c.requires.ready in
    let new = c.commit-reply.new.self in
    let taken = c.commit-reply.ensures.taken in
    let both = list_of_change b new c.args.change c.in-Some.control c.self.inside.front c.in-Ok-show.front ready c.requires.calls taken
    (sym c.in-Ok.ensures.value ∙ c.in-Some.is) c.self.invariant.known c.in-Ok-show.ensures.list.0 in
    let told = c.commit-reply.ensures.reply in
    let office : OfficeState = record { book = new; published = c.show.new.writer.desk.shown.value.past.log; closed = c.self.inside.closed } in
    subst (λ (o : OfficeState). Accepts o c.args.change.entry c.new.result office) c.self.view_is record {
      takes = both.0;
      answers = ap (λ (r : ReceiptState). r.reply) c.new.ensures.value ∙ told;
      told_list = ap (λ (r : ReceiptState). r.front) c.new.ensures.value ∙ (c.copy.ensures.value ∙ both.1);
      shows = c.in-Ok-show.ensures.list.1 ∙ both.1;
      stays = refl;
    }
