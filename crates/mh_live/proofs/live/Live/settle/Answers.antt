use Rattle.std.proofs.Common.{◌≡◌, ◌∙◌, ℕ, List, length, map, subst, sym}
use Rattle.std.specs.List.{All, range_with_len}
use Rattle.mh_site.specs.declared.control.Control.{Control}
use Rattle.mh_live.specs.Passes.{PassState}
use Rattle.mh_live.specs.Settled.{AreBack, IsUnsettledBy, IsWithin, Settles, unflushed_by}
use Rattle.mh_live.proofs.RollCalls.{settled_of, settles_of, unsettled_of}
use Rattle.mh_live.proofs.live.Live.settle.Goals as goal

pub new-requires : goal.new-requires
new-requires g c =
    let sums = c.in-Ok.ensures in
    let closing = c.close-book.ensures in
    record {
      settled = settled_of g.N.ListName.definition g.N.ListName.limits g.N.ListName.workers c.into_inner-office.result c.as_slice-2.result.now c.in-Ok.unflushed.items closing.office sums.totals sums.back sums.value c.close-book.result.0 c.close-book.result.1 closing.book closing.front sums.within;
    }

pub returns-in-Ok-clause-sums : goal.returns-in-Ok-clause-sums
returns-in-Ok-clause-sums g c =
    let sums = c.in-Ok.ensures in
    let closing = c.close-book.ensures in
    let passes : List PassState = c.args.passes.items in
    let totals = c.into_inner-office.result.book.totals in
    let hits : List ℕ = c.in-Ok.unflushed.items in
    let is = c.as_slice-2.ensures.value in
    let back = subst (AreBack totals) is sums.back in
    let value = subst (λ (ps : List PassState). hits ≡ map (unflushed_by ps) (range_with_len 0 (length totals.total))) is sums.value in
    let known = subst (All (IsWithin c.front.result.now)) c.as_slice.ensures.value c.compare_all.ensures.within in
    let fronts = subst (λ (cs : List Control). All (IsWithin cs) passes) (c.front.ensures.value ∙ sym closing.front) known in
    let all = settles_of g.N.ListName.definition g.N.ListName.limits g.N.ListName.workers c.into_inner-office.result passes hits closing.office sums.totals back value c.close-book.result.0 c.close-book.result.1 closing.book closing.front fronts in
    subst (Settles g.N.ListName.definition passes) (sym c.new.ensures.value) all

pub returns-in-Err-clause-refused : goal.returns-in-Err-clause-refused
returns-in-Err-clause-refused g c =
    let o = c.into_inner-office.result in
    let passes : List PassState = c.args.passes.items in
    let why = c.in-Err.ensures in
    let told = subst (λ (ps : List PassState). IsUnsettledBy o.book.totals ps c.in-Err.fault) c.as_slice-2.ensures.value why.refused in
    let known = subst (All (IsWithin c.front.result.now)) c.as_slice.ensures.value c.compare_all.ensures.within in
    let fronts = subst (λ (cs : List Control). All (IsWithin cs) passes) c.front.ensures.value known in
    unsettled_of g.N.ListName.definition g.N.ListName.limits g.N.ListName.workers o passes c.in-Err.fault why.office why.totals fronts told
