use Rattle.std.proofs.Common.{◌≡◌, ◌≤◌, ◌^◌, ℕ, Bool, cond, List, [], ◌∷◌, ◌++◌, map, ap, sym, ◌∙◌, arith}
use Rattle.std.specs.List.{range_with_len}
use Rattle.std.proofs.lemmas.List.Elements.{All-push, All-same}
use Rattle.std.proofs.lemmas.List.FromFn.{map-range_with_len_more}
use Rattle.mh_live.specs.Settled.{unflushed_by}
use Rattle.mh_live.proofs.roll_call.unflushed_hits.Goals as goal

pub loop-link-preserved : goal.loop-link-preserved
loop-link-preserved g c =
    let sums = unflushed_by c.args.passes.now in
    let longer : List ℕ = c.loop-link.hits.items ++ c.unflushed_of.result ∷ [] in
    let items : c.push.new.self.items ≡ longer = c.push.ensures.items ∙ ap (λ (b : Bool). cond b longer c.loop-link.hits.items) c.if-is_err.ensures.negation in
    let IsWithin : ℕ → Type 0 = λ n. n ≤ 2 ^ 126 in
    record {
      so_far =
          items
          ∙ (ap (λ (l : List ℕ). l ++ c.unflushed_of.result ∷ []) c.loop-link.invariant.so_far
          ∙ (ap (λ (n : ℕ). map sums (range_with_len 0 c.loop-link.link) ++ n ∷ []) c.unflushed_of.ensures.value
          ∙ sym (map-range_with_len_more sums 0 c.loop-link.link c.loop-link.link (omega arith))));
      within = All-same IsWithin c.push.new.self.items longer items (All-push IsWithin c.loop-link.hits.items c.unflushed_of.result c.loop-link.invariant.within c.unflushed_of.ensures.within);
    }
