use Rattle.std.proofs.Common.{◌∙◌, ℕ, List, ap, arith}
use Rattle.mh_network.specs.Selection.{member}
use Rattle.mh_core.proofs.InstalledLinks.{found_member}
use Rattle.mh_core.specs.Laws.LawfulLinks.{few_links}
use Rattle.mh_core.proofs.book.Book.has.Goals as goal

pub overflow_cast-link : goal.overflow_cast-link
overflow_cast-link c = omega (arith, c.requires.inside, few_links c.args.self.now.definition c.links_of_plan-links.ensures.book.definition)

pub returns : goal.returns
returns c =
    let links = c.links_of_plan-links.ensures in
    record {
      value =
          c.is_ok.ensures.value
          ∙ (found_member c.links_of_plan-links.result.now c.args.link c.binary_search.result links.ascending c.binary_search.ensures.position ∙ ap (λ (js : List ℕ). member js c.args.link) links.value);
    }
