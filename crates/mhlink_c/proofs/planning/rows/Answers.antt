use Rattle.std.proofs.Common.{[], ◌∷◌, ◌++◌, ◌∙◌, List, ap, subst, map, sym, take}
use Rattle.std.specs.List.{All, slice_index_or}
use Rattle.std.proofs.lemmas.List.{map_more, take_more}
use Rattle.std.proofs.lemmas.List.Elements.{All-push}
use Rattle.mh_network.specs.declared.link_row.LinkRow.{LinkRow}
use Rattle.mhlink_c.specs.Problems.{HasNeeds, row_of}
use Rattle.mhlink_c.specs.declared.planning.MhlinkLink.{MhlinkLink}
use Rattle.mhlink_c.proofs.planning.rows.Goals as goal

pub loop-link-preserved : goal.loop-link-preserved
loop-link-preserved c =
    let links = c.args.links.now in
    let needs = c.args.needs.now in
    let i = c.loop-link.link-index in
    record {
      so_far = c.in_ok-push.ensures.items
          ∙ ap (λ (rows : List LinkRow). rows ++ c.in_ok-row.row ∷ []) c.loop-link.invariant.so_far
          ∙ ap (λ (row : LinkRow). map (row_of needs) (take i links) ++ row ∷ []) c.in_ok-row.ensures.value
          ∙ sym (map_more (row_of needs) links i _ c.loop-link-test.true);
      there = subst (λ (some : List MhlinkLink). All (HasNeeds needs) some) (sym (take_more links i _ c.loop-link-test.true))
          (All-push (HasNeeds needs) (take i links) (slice_index_or links i _) c.loop-link.invariant.there c.in_ok-row.ensures.there);
    }
