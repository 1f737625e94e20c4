use Rattle.std.proofs.Common.{◌∙◌, ap, length, arith}
use Rattle.mh_site.specs.Worlds.{SiteState, WorldState, state_at}
use Rattle.mh_core.proofs.InstalledLinks.{sites_now, state_now}
use Rattle.mh_core.proofs.book.Book.tree.Goals as goal

pub base-requires : goal.base-requires
base-requires c =
    let same = ap (λ (w : WorldState). length w.sites) c.world.ensures.value in
    record { inside = omega (arith, c.requires.inside, same, sites_now c.args.self.now c.world.ensures.book) }

pub returns : goal.returns
returns c =
    let now = c.args.self.now in
    record {
      value =
          c.base.ensures.value
          ∙ (ap (λ (w : WorldState). (state_at w c.args.site).base) c.world.ensures.value ∙ ap (λ (x : SiteState). x.base) (state_now now c.args.site c.world.ensures.book c.requires.inside));
    }
