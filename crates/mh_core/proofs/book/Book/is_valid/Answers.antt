use Rattle.std.proofs.Common.{◌≡◌, ◌+◌, ◌∙◌, Bool, List, ap, length, slice_index_or, false, arith}
use Rattle.std.proofs.lemmas.List.FromFn.{get_or-map-range_with_len}
use Rattle.mh_site.specs.Worlds.{WorldState}
use Rattle.mh_core.specs.Records.{is_valid, valid_points}
use Rattle.mh_core.proofs.Standing.{valid_now}
use Rattle.mh_core.proofs.book.Book.is_valid.Goals as goal

pub returns : goal.returns
returns c =
    let now = c.args.self.now in
    let p = c.args.point in
    let valid : c.valid.result.now ≡ valid_points now.definition now.records =
    c.valid.ensures.value ∙ (ap (λ (w : WorldState). w.valid) c.world.ensures.value ∙ valid_now now c.world.ensures.book) in
    let here : 0 + p ≡ p = omega arith in
    record {
      value =
          c.is_among.ensures.value
          ∙ (ap (λ (v : List Bool). slice_index_or v p false) valid ∙ get_or-map-range_with_len (is_valid now.records) 0 (length now.definition.points) p p false c.requires.inside here);
    }
