use Rattle.std.proofs.Common.{◌∙◌, ap, length, arith}
use Rattle.mh_site.specs.Worlds.{SiteState, WorldState, state_at}
use Rattle.mh_core.proofs.InstalledLinks.{sites_now, state_now}
use Rattle.mh_core.proofs.book.Book.retargetings.Goals as goal

pub version-requires : goal.version-requires
version-requires c =
    let same = ap (λ (w : WorldState). length w.sites) c.world.ensures.value in
    record { inside = omega (arith, c.requires.inside, same, sites_now c.args.self.now c.world.ensures.book) }

pub returns : goal.returns
returns c =
    let now = c.args.self.now in
    record {
      value =
          c.version.ensures.value
          ∙ (ap (λ (w : WorldState). (state_at w c.args.site).version) c.world.ensures.value ∙ ap (λ (x : SiteState). x.version) (state_now now c.args.site c.world.ensures.book c.requires.inside));
    }
