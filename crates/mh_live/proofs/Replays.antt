-- The world after controls, oldest first.
use Rattle.std.proofs.Common.{◌≡◌, List, length, sym, ap, ◌∙◌}
use Rattle.std.specs.Prelude.{reverse}
use Rattle.std.proofs.lemmas.List.{reverse-reverse, length-reverse}
use Rattle.mh_site.specs.declared.control.Control.{Control}
use Rattle.mh_site.specs.Defined.{DefinitionData}
use Rattle.mh_site.specs.Worlds.{WorldState, opened, replay}
use Rattle.mh_site.specs.Laws as back
use Rattle.mh_live.specs.Rules.{world_after}
use Rattle.std.proofs.lemmas.List.FromFn.{length-map-range_with_len}

-- the same world by its controls newest first
backwards : (d : DefinitionData) (cs : List Control) → world_after d cs ≡ replay (opened d) (reverse (reverse cs))
backwards d cs = ap (λ (l : List Control). replay (opened d) l) (sym (reverse-reverse cs))

pub after_sites : (d : DefinitionData) (cs : List Control) → length (world_after d cs).sites ≡ length d.sites
after_sites d cs = ap (λ (w : WorldState). length w.sites) (backwards d cs) ∙ back.world_sites d (reverse cs)

pub after_front : (d : DefinitionData) (cs : List Control) → (world_after d cs).front ≡ length cs
after_front d cs = ap (λ (w : WorldState). w.front) (backwards d cs) ∙ (back.world_front d (reverse cs) ∙ length-reverse cs)

pub after_points : (d : DefinitionData) (cs : List Control) → length (world_after d cs).valid ≡ length d.points
after_points d cs =
    ap (λ (w : WorldState). length w.valid) (backwards d cs)
    ∙ (ap length (back.valid_is d (reverse cs)) ∙ length-map-range_with_len _ 0 (length d.points))
