use Rattle.std.proofs.Common.{◌≡◌, inl, inr, ap, refl, arith}
use Rattle.mh_core.specs.Books.{book_state}
use Rattle.mh_core.specs.declared.refusal.Refusal.TheVariants.{OldPlan}
use Rattle.mh_core.specs.Records.{plans}
use Rattle.mh_core.proofs.Deciding.{below}
use Rattle.mh_core.specs.Laws.PlanTables.{plans_now}
use Rattle.mh_core.proofs.book.Book.test_install.Goals.{then-plan-eq0-via-then-plan-eq0, then-plan-eq0-via-else-plan-eq0+then-plan-newest}
use Rattle.mh_core.proofs.book.Book.test_install.Goals as goal

pub returns-then-plan-eq0-clause-refuses : goal.returns-then-plan-eq0-clause-refuses
returns-then-plan-eq0-clause-refuses c =
    let count = plans_now (book_state c.self.inside) c.args.self.now c.self.inside.plans.items c.self.invariant c.self.view_is refl in
    elim c.then-plan-eq0.branch [
      | then-plan-eq0-via-then-plan-eq0 w ↦ inl (λ known. omega (arith, known.0, w.if-plan-eq0.true), refl)
      | then-plan-eq0-via-else-plan-eq0+then-plan-newest w ↦ inl (λ known. omega (arith, known.1, w.if-plan-newest.true, c.len-newest.ensures, c.self.inside.plans.ok.0, count), refl)
    ]

pub returns-then-plan-newest-2-clause-refuses : goal.returns-then-plan-newest-2-clause-refuses
returns-then-plan-newest-2-clause-refuses c =
    let count = plans_now (book_state c.self.inside) c.args.self.now c.self.inside.plans.items c.self.invariant c.self.view_is refl in
    let newest : c.len-newest.result ≡ plans c.args.self.now.records = omega (arith, c.len-newest.ensures, c.self.inside.plans.ok.0, count) in
    inr (
      (omega (arith, c.if-plan-eq0.false), omega (arith, c.if-plan-newest.false, newest)),
      inl (λ same. omega (arith, c.if-plan-newest-2.true, same, newest), ap OldPlan newest),
    )

pub returns-then-is_full-clause-refuses : goal.returns-then-is_full-clause-refuses
returns-then-is_full-clause-refuses c =
    let count = plans_now (book_state c.self.inside) c.args.self.now c.self.inside.plans.items c.self.invariant c.self.view_is refl in
    let newest : c.len-newest.result ≡ plans c.args.self.now.records = omega (arith, c.len-newest.ensures, c.self.inside.plans.ok.0, count) in
    inr (
      (omega (arith, c.if-plan-eq0.false), omega (arith, c.if-plan-newest.false, newest)),
      inr (omega (arith, c.if-plan-newest-2.false, newest), inl (λ room. omega (arith, c.is_full.ensures.decides.0 c.if-is_full.true, room), refl)),
    )

pub returns-clause-passes : goal.returns-clause-passes
returns-clause-passes c =
    let count = plans_now (book_state c.self.inside) c.args.self.now c.self.inside.plans.items c.self.invariant c.self.view_is refl in
    let newest : c.len-newest.result ≡ plans c.args.self.now.records = omega (arith, c.len-newest.ensures, c.self.inside.plans.ok.0, count) in (
      (omega (arith, c.if-plan-eq0.false), omega (arith, c.if-plan-newest.false, newest)),
      (omega (arith, c.if-plan-newest-2.false, newest), (below _ _ _ c.is_full.ensures.decides c.if-is_full.false, tt)),
    )
