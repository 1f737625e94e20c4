use Rattle.std.proofs.Common.{◌≡◌, ◌+◌, ◌<◌, ◌≤◌, ◌^◌, ℕ, List, [], length, map, slice_set, slice_index_or, ap, sym, subst, ◌∙◌, arith}
use Rattle.std.proofs.lemmas.Grind.{get_or_default_zero}
use Rattle.std.proofs.lemmas.List.{length-map}
use Rattle.std.specs.List.{All}
use Rattle.mh_ledger.specs.Ledgers.{at, added, share_of, IsTotals, TotalsState, totals_state}
use Rattle.mh_ledger.specs.Renewals.{left_of}
use Rattle.mh_ledger.specs.Laws.Added.{length-added}
use Rattle.mh_ledger.specs.Laws.Renewing.{lessened, lessened_sound, left_bounded, share_bounded, share_within}
use Rattle.mh_ledger.proofs.Taken.{items_of, state_of}
use Rattle.mh_ledger.proofs.Lessened.{lessened_view, read_share, written_share}
use Rattle.mh_ledger.proofs.totals.Totals.lessen_share.Goals as goal

bounded : (xs ys : List ℕ) (limit : ℕ) → length xs ≡ length ys → ((j : ℕ) → at xs j ≤ at ys j) → All (λ n. n ≤ limit) ys → All (λ n. n ≤ limit) xs
bounded xs ys limit same below all k d inside =
    let read : slice_index_or xs k d ≡ at xs k = get_or_default_zero xs k d inside in
    let less = below k in
    let bound : at ys k ≤ limit = all k 0 (omega (arith, inside, same)) in
    omega (arith, read, less, bound)

pub subtract-requires : goal.subtract-requires
subtract-requires c =
    let x = c.self.inside in
    let t = totals_state x in
    let w = c.args.worker in
    let inside : w < length x.shares.items = omega (arith, subst (λ (s : TotalsState). w < length s.shares) (sym c.self.view_is) c.requires.worker, length-map x.shares.items items_of) in
    let there : w < length t.shares = omega (arith, inside, length-map x.shares.items items_of) in
    let same : share_of t w ≡ c.deref.result.now = read_share x.limit x.totals.items x.shares.items w c.index_mut-share.result.now inside c.index_mut-share.ensures.value ∙ sym c.deref.ensures.value in
    record {
      lengths = sym (c.self.invariant.lengths w [] there) ∙ ap length same;
      parts = λ j h. subst (λ (share : List ℕ). at share j ≤ at t.total j) same (share_within t w c.self.invariant there j);
    }

pub add-requires : goal.add-requires
add-requires c =
    let x = c.self.inside in
    let t = totals_state x in
    let w = c.args.worker in
    let inside : w < length x.shares.items = omega (arith, subst (λ (s : TotalsState). w < length s.shares) (sym c.self.view_is) c.requires.worker, length-map x.shares.items items_of) in
    let there : w < length t.shares = omega (arith, inside, length-map x.shares.items items_of) in
    let read : share_of t w ≡ c.index_mut-share.result.now.items = read_share x.limit x.totals.items x.shares.items w c.index_mut-share.result.now inside c.index_mut-share.ensures.value in
    let left : c.deref-2.result.now ≡ map (left_of c.args.hits) (share_of t w) = c.deref-2.ensures.value ∙ (c.lessen.ensures.value ∙ ap (map (left_of c.args.hits)) (sym read)) in
    record {
      lengths = c.subtract.ensures.count ∙ (sym (c.self.invariant.lengths w [] there) ∙ (sym (length-map (share_of t w) (left_of c.args.hits)) ∙ ap length (sym left)));
      sums = bounded c.subtract.new.sums.items t.total (2 ^ 62) c.subtract.ensures.count
          (λ j. let sum = c.subtract.ensures.value j in omega (arith, sum)) (λ k d h. let bound = c.self.invariant.within k d h in let limit = c.self.invariant.limit in omega (arith, bound, limit));
      more = subst (All (λ n. n ≤ 2 ^ 62)) (sym left) (left_bounded c.args.hits (share_of t w) (2 ^ 62) (share_bounded t w c.self.invariant there));
    }

pub invariant_of-self : goal.invariant_of-self
invariant_of-self c =
    let x = c.self.inside in
    let t = totals_state x in
    let w = c.args.worker in
    let inside : w < length x.shares.items = omega (arith, subst (λ (s : TotalsState). w < length s.shares) (sym c.self.view_is) c.requires.worker, length-map x.shares.items items_of) in
    let there : w < length t.shares = omega (arith, inside, length-map x.shares.items items_of) in
    let same : share_of t w ≡ c.deref.result.now = read_share x.limit x.totals.items x.shares.items w c.index_mut-share.result.now inside c.index_mut-share.ensures.value ∙ sym c.deref.ensures.value in
    subst IsTotals
    (sym (lessened_view c.args.hits x.limit x.totals.items c.subtract.new.sums.items c.add.new.sums.items c.deref-2.result.now x.shares.items w c.index_mut-share.result.now c.lessen.new.numbers
    inside c.index_mut-share.ensures.value c.lessen.ensures.value c.deref-2.ensures.value c.add.ensures.value))
    (lessened_sound c.args.hits t w c.subtract.new.sums.items c.self.invariant there c.subtract.ensures.count
    (λ j. subst (λ (share : List ℕ). at c.subtract.new.sums.items j + at share j ≡ at t.total j) (sym same) (c.subtract.ensures.value j)))

pub returns : goal.returns
returns c =
    let x = c.self.inside in
    let t = totals_state x in
    let w = c.args.worker in
    let inside : w < length x.shares.items = omega (arith, subst (λ (s : TotalsState). w < length s.shares) (sym c.self.view_is) c.requires.worker, length-map x.shares.items items_of) in
    record {
      limit = ap (λ (s : TotalsState). s.limit) c.self.view_is;
      links = ap length c.add.ensures.value ∙ (length-added c.subtract.new.sums.items c.deref-2.result.now ∙ (c.subtract.ensures.count ∙ ap (λ (s : TotalsState). length s.total) c.self.view_is));
      shares = written_share c.args.hits x.limit x.totals.items x.shares.items w c.index_mut-share.result.now c.lessen.new.numbers inside c.index_mut-share.ensures.value c.lessen.ensures.value
          ∙ ap (λ (s : TotalsState). slice_set s.shares w (map (left_of c.args.hits) (share_of s w))) c.self.view_is;
      totals = invariant_of-self c;
    }
