use Rattle.std.proofs.Common.{◌≡◌, ◌<◌, ◌≤◌, ◌+◌, ◌∙◌, ℕ, List, [], ◌∷◌, ◌++◌, length, arith, sym, subst, take, true}
use Rattle.std.specs.List.{slice_index_or}
use Rattle.mh_network.specs.Selection.{member}
use Rattle.mh_network.specs.inner.Labels.{IsRelabelled}
use Rattle.mh_network.specs.Laws.Members.{member_is}
use Rattle.mh_network.proofs.Labelling.{relabel_either, first_taken, member_take, taken_more}
use Rattle.mh_network.proofs.labels.join_needs.Goals as goal

pub loop-at-preserved : goal.loop-at-preserved
loop-at-preserved c =
    let needs : List ℕ = c.args.needs.now in
    let first : ℕ = slice_index_or needs 0 0 in
    let x : ℕ = slice_index_or needs c.loop-at.at 0 in
    let more : take (c.loop-at.at + 1) needs ≡ take c.loop-at.at needs ++ x ∷ [] = taken_more needs c.loop-at.at c.loop-at-test.true in
    let some : 1 ≤ length needs = omega (arith, c.loop-at-test.true) in
    let done : member (take c.loop-at.at needs) first ≡ true = first_taken c.loop-at.at needs (omega (arith, c.loop-at.auto.at)) some in
    record {
      down = c.join.ensures.down;
      count = c.join.ensures.count ∙ c.loop-at.invariant.count;
      value = λ labels leads.
          let old = c.loop-at.invariant.value labels leads in
          let below : (p : ℕ) → p < length c.args.table.now → p < length labels = λ p l. omega (arith, l, leads.count) in
          let inside : (p : ℕ) → member (take c.loop-at.at needs) p ≡ true → p < length labels = λ p e.
          below p (member_is (λ q. q < length c.args.table.now) needs c.requires.inside p (member_take c.loop-at.at needs p e)) in
          let next = relabel_either (take c.loop-at.at needs) labels old.0 c.join.new.table first x old.2 done (below first (c.requires.inside 0 0 some)) (below x (c.requires.inside c.loop-at.at 0 c.loop-at-test.true)) inside
          (c.join.ensures.value old.0 old.1) in
          (next.0, next.1, subst (λ (ns : List ℕ). IsRelabelled ns labels next.0) (sym more) next.2);
    }
