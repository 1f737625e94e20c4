use Rattle.std.proofs.Common.{◌≡◌, ◌∙◌, ap, rules, subst}
use Rattle.mh_site.specs.Links.{links}
use Rattle.mh_core.specs.Books.{BookState}
use Rattle.mh_core.specs.Renewals.{Succeeds}
use Rattle.mh_live.specs.Settled.{SettledState}
use Rattle.mh_live.proofs.settled.Settled.renew.Goals as goal

pub returns-clause-renews : goal.returns-clause-renews
returns-clause-renews g c =
    let opening = c.in_ok-opening.opening in
    let following = c.in_ok-definition.field-0 in
    let Follows : BookState → Type 0 = λ b. Succeeds c.args.again.now b following in
    let succeeds = subst Follows (ap (λ (s : SettledState). s.book) c.self.view_is) c.in_ok-definition.ensures.succeeds in
    let definition : opening.definition ≡ following.definition = search rules in
    let limits : opening.limits ≡ c.args.self.now.book.limits = search rules in
    record {
      definition = definition ∙ succeeds.definition;
      workers_are = c.in_ok-opening.ensures.workers;
      limits = limits;
      invalid_is = succeeds.invalid;
      numbers = ap links definition ∙ succeeds.links;
      means = λ new same records. succeeds.means new (same ∙ definition) records;
    }
