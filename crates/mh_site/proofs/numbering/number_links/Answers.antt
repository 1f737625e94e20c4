use Rattle.std.proofs.Common.{◌≡◌, ◌<◌, ◌++◌, ◌∷◌, [], List, ℕ, length, replicate, ap, sym, ◌∙◌, arith}
use Rattle.std.proofs.lemmas.List.{get_or_default}
use Rattle.mh_site.specs.declared.site.Site.{Site}
use Rattle.mh_site.specs.Defined.{no_site}
use Rattle.mh_site.specs.Links.{first_links, homes_before}
use Rattle.mh_site.specs.Laws.Numbers.{firsts_more, homes_more, links_in}
use Rattle.mh_site.proofs.numbering.number_links.Goals as goal

pub loop-site-preserved : goal.loop-site-preserved
loop-site-preserved c =
    let sites = c.args.sites.now in
    let site = c.loop-site.site in
    let inside : site < length sites = omega (arith, c.loop-site-test.true) in
    let count : length c.as_slice-links.result.now ≡ length (links_in sites site) =
    ap length (c.as_slice-links.ensures.value ∙ ap (λ (s : Site). s.links) (get_or_default sites site c.index-sites-site.result no_site inside)) in
    record {
      first = c.in_ok-push.ensures.value
          ∙ (ap (λ (ns : List ℕ). ns ++ length c.as_slice.result.now ∷ []) c.loop-site.invariant.first
          ∙ (ap (λ (ns : List ℕ). first_links sites site ++ length ns ∷ []) (c.as_slice.ensures.value ∙ c.loop-site.invariant.home) ∙ sym (firsts_more sites site)));
      home = c.in_ok-push_home.ensures.value
          ∙ (ap (λ (ns : List ℕ). ns ++ replicate (length c.as_slice-links.result.now) site) c.loop-site.invariant.home
          ∙ (ap (λ n. homes_before sites site ++ replicate n site) count ∙ sym (homes_more sites site)));
    }
