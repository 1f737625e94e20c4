use Rattle.std.proofs.Common.{◌≡◌, ℕ, List, Some, length, map, take, sym, ◌∙◌, arith}
use Rattle.std.proofs.lemmas.Bool.{not-true}
use Rattle.std.proofs.lemmas.Grind.{common_steps}
use Rattle.mh_base.specs.Listed.{first_failing}
use Rattle.mh_site.specs.declared.site.Site.{Site}
use Rattle.mh_site.specs.Defined.{no_site}
use Rattle.mh_site.specs.Places.{placed_site_tests, placed_sites, placed_at_site}
use Rattle.mh_site.proofs.Listed.{all_hold, tests_read, passed_here, failed_here}
use Rattle.mh_site.proofs.NameLemmas.{lent, one_more}
use Rattle.mh_site.proofs.site_rules.test_sites.Goals as goal

pub returns-in_err-test_site : goal.returns-in_err-test_site
returns-in_err-test_site c =
    let sites = c.args.sites.now in
    let i = c.loop-index.index in
    let lt = c.loop-index-test.true in
    let fault = c.in_err-test_site.field-0.0 in
    let read = tests_read (placed_site_tests c.args.points sites i) sites i c.index-sites-index.result no_site lt c.index-sites-index.is in
    let fails = failed_here (placed_at_site c.args.points sites) i (length sites) fault lt (read ∙ c.in_err-test_site.ensures.value) in
    let told : first_failing (placed_sites c.args.points sites) ≡ Some fault = sym c.loop-index.invariant.told ∙ fails in
    grind (arith, common_steps)

pub loop-index-preserved : goal.loop-index-preserved
loop-index-preserved c =
    let sites = c.args.sites.now in
    let i = c.loop-index.index in
    let lt = c.loop-index-test.true in
    let passed = c.in_ok-test_site.ensures.value in
    let read = tests_read (placed_site_tests c.args.points sites i) sites i c.index-sites-index.result no_site lt c.index-sites-index.is in
    let new = not-true _ (all_hold (placed_site_tests c.args.points sites i (take i sites) c.index-sites-index.result) passed).1.1.1.0 in
    record {
      told = passed_here (placed_at_site c.args.points sites) i (length sites) lt (read ∙ passed) ∙ c.loop-index.invariant.told;
      seen = one_more (λ (s : Site). s.name) sites i c.index-sites-index.result c.as_str.result.now c.loop-index.seen c.with_one_more-seen.result lt c.index-sites-index.is c.as_str.ensures.value new c.loop-index.invariant.seen c.with_one_more-seen.ensures.value;
    }

pub test_site-requires : goal.test_site-requires
test_site-requires c =
    let named = λ (names : List (List ℕ)). names ≡ map (λ (s : Site). s.name) (take c.loop-index.index c.args.sites.now) in
    record { inside = c.loop-index-test.true; seen = lent named c.as_ref.result c.loop-index.seen c.as_ref.ensures.value c.loop-index.invariant.seen }
