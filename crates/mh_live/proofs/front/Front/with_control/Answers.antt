use Rattle.std.proofs.Common.{sym, ◌∙◌, ap}
use Rattle.mh_live.proofs.Adding.{adds_moves}
use Rattle.mh_live.proofs.front.Front.with_control.Goals as goal

pub compare_exchange-found-requires : goal.compare_exchange-found-requires
compare_exchange-found-requires g c =
    let h = c.args.head.now.head_is in
    let again = c.again-past.ensures in
    let pen = c.no_pen-pen.ensures in
    let book = ap (λ s. s.book) again ∙ c.self.invariant.1 in (
      ap (λ w. w.tracked) h,
      book ∙ sym (ap (λ w. w.book) h),
      pen.0 ∙ (book ∙ sym (ap (λ w. w.book) h)),
      c.requires.intent.1 ∙ sym (ap (λ s. s.names) again ∙ c.self.invariant.2),
      rw (ap (λ w. w.key) h, pen.1, c.requires.intent.0, ap (λ s. s.log) again) (adds_moves c.self.inside.past.log c.args.intent.ask c.self.inside.count (sym c.self.invariant.0)),
    )
