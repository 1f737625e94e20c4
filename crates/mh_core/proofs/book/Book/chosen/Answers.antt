use Rattle.std.proofs.Common.{◌≡◌, ◌∙◌, ◌<◌, ◌+◌, ◌-◌, ℕ, Bool, ap, length, refl, sym, arith}
use Rattle.std.proofs.lemmas.List.{map-id}
use Rattle.mh_network.specs.Selection.{member}
use Rattle.mh_site.specs.Defined.{no_site, site_at}
use Rattle.mh_site.specs.Links.{first_link}
use Rattle.mh_core.specs.Books.{BookState}
use Rattle.mh_core.specs.Installations.{plan_at}
use Rattle.mh_core.proofs.InstalledLinks.{gather_pass, gather_skip, gathered}
use Rattle.mh_core.specs.Laws.LawfulLinks.{few_links}
use Rattle.mh_core.proofs.book.Book.chosen.Goals.{then-has, else-has}
use Rattle.mh_core.proofs.book.Book.chosen.Goals as goal

pub overflow_add-link-end : goal.overflow_add-link-end
overflow_add-link-end c =
    omega (arith, c.first_link-first.ensures.within, ap length c.links.ensures.value, few_links c.self.inside.definition c.self.invariant.definition)

pub push-requires : goal.push-requires
push-requires c =
    let sites = ap (λ (b : BookState). length b.definition.sites) c.self.view_is in
    let few = (c.self.invariant.definition.sites c.args.site no_site (omega (arith, c.requires.inside, sites))).few in
    let room : length c.loop-link.chosen.items < 4 = omega (arith, c.loop-link.invariant.few, c.loop-link-test.true, ap length c.links.ensures.value, few) in
    (omega arith, room)

pub loop-link-preserved : goal.loop-link-preserved
loop-link-preserved c =
    let now = c.args.self.now in
    let first = c.first_link-first.result in
    let link = c.loop-link.link in
    let passes : ℕ → Bool = member (plan_at now.records c.args.plan).plan.links in
    let place : first + (link - first) ≡ link = omega (arith, c.loop-link.invariant.least) in
    let next : link + 1 - first ≡ link - first + 1 = omega (arith, c.loop-link.invariant.least) in
    record {
      least = omega (arith, c.loop-link.invariant.least);
      few = elim c.if-has.branch [
        | then-has w ↦ rw w.chosen-is (omega (arith, c.loop-link.invariant.few, w.push.ensures.len))
        | else-has w ↦ rw w.chosen-is (omega (arith, c.loop-link.invariant.few))
      ];
      items = elim c.if-has.branch [
        | then-has w ↦
            rw w.chosen-is
            (gather_pass (λ j. j) passes first (link - first) link (link + 1 - first) _ _ link place next c.loop-link.invariant.items (sym c.has.ensures.value ∙ w.if-has.true) refl w.push.ensures.items)
        | else-has w ↦
            rw w.chosen-is (gather_skip (λ j. j) passes first (link - first) link (link + 1 - first) _ place next c.loop-link.invariant.items (sym c.has.ensures.value ∙ w.if-has.false))
      ];
    }

pub returns : goal.returns
returns c =
    let now = c.args.self.now in
    let first = c.first_link-first.result in
    let passes : ℕ → Bool = member (plan_at now.records c.args.plan).plan.links in
    let links = ap length c.links.ensures.value ∙ ap (λ (b : BookState). length (site_at b.definition c.args.site).links) c.self.view_is in
    let start : first ≡ first_link now.definition c.args.site = c.first_link-first.ensures.value ∙ ap (λ (b : BookState). first_link b.definition c.args.site) c.self.view_is in
    let count : c.loop-link.link - first ≡ length (site_at now.definition c.args.site).links =
    omega (arith, c.loop-link-test.false, c.loop-link.auto.link, c.loop-link.invariant.least, links) in
    record {
      value =
          c.loop-link.invariant.items
          ∙ (ap (gathered (λ j. j) passes first) count
          ∙ (ap (λ (a : ℕ). gathered (λ j. j) passes a (length (site_at now.definition c.args.site).links)) start ∙ map-id _));
    }
