use Rattle.std.proofs.Common.{◌≡◌, ◌+◌, ℕ, length, refl, ap, ◌∙◌, arith}
use Rattle.std.specs.List.{range_with_len, sum_by}
use Rattle.mh_ledger.specs.Ledgers.{at}
use Rattle.mh_site.specs.Links.{links}
use Rattle.mh_stress.specs.declared.sums.Sums.{Sums}
use Rattle.mh_stress.proofs.Settling.{few_places}
use Rattle.mh_stress.proofs.WorkerSums.{sum_next}
use Rattle.mh_stress.proofs.sums.sums_of.Goals as goal

abbrev mk : ℕ → ℕ → Sums
mk a b = record { made = a + b; totals = a; unflushed = b }

pub loop-link-preserved : goal.loop-link-preserved
loop-link-preserved g c =
    let before = c.loop-link.invariant in
    let total = c.total.ensures in
    let rest = c.unflushed-unflushed.ensures in
    let inside = c.loop-link-test.true in
    let all = c.links-link-end.ensures.count in
    let small = c.requires.small c.loop-link.link (omega (arith, inside, all)) in
    record {
      totals = omega (arith, before.totals, c.from-totals.ensures, total.value, sum_next (at c.args.settled.now.book.totals.total) c.loop-link.link);
      unflushed = omega (arith, before.unflushed, rest.value, sum_next (at c.args.settled.now.unflushed) c.loop-link.link);
      small = omega (arith, before.small, c.from-totals.ensures, total.within);
      within = omega (arith, before.within, rest.value, small);
    }

pub overflow_add-unflushed : goal.overflow_add-unflushed
overflow_add-unflushed g c =
    let few = few_places g.N.ListName.definition g.N.ListName.limits g.N.ListName.workers c.args.settled.now c.links-link-end.ensures.settled in
    let small = c.requires.small c.loop-link.link (omega (arith, c.loop-link-test.true, c.links-link-end.ensures.count)) in
    omega (arith, c.loop-link.invariant.within, c.unflushed-unflushed.ensures.value, small, c.loop-link-test.true, c.links-link-end.ensures.count, few)

pub overflow_add-result : goal.overflow_add-result
overflow_add-result g c =
    let few = few_places g.N.ListName.definition g.N.ListName.limits g.N.ListName.workers c.args.settled.now c.links-link-end.ensures.settled in
    omega (arith, c.loop-link.invariant.within, c.loop-link.invariant.small, c.loop-link.auto.link-end, c.links-link-end.ensures.count, few)

pub returns : goal.returns
returns g c =
    let last : c.loop-link.link ≡ length (links g.N.ListName.definition) = omega (arith, c.loop-link-test.false, c.loop-link.auto.link-end, c.links-link-end.ensures.count) in
    let totals = c.loop-link.invariant.totals ∙ ap (λ n. sum_by (at c.args.settled.now.book.totals.total) (range_with_len 0 n)) last in
    let rest = c.loop-link.invariant.unflushed ∙ ap (λ n. sum_by (at c.args.settled.now.unflushed) (range_with_len 0 n)) last in
    record {
      settled = c.links-link-end.ensures.settled;
      value = sums_are totals rest;
    }
  where
    sums_are : {a b t u : ℕ} → a ≡ t → b ≡ u → mk a b ≡ mk t u
    sums_are e f = rw (e, f) refl
