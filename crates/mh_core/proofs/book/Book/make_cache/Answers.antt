use Rattle.std.proofs.Common.{◌≡◌, ◌∙◌, IfOk, List, Some, None, ap, length, map, subst, sym, take, arith}
use Rattle.std.specs.List.{All}
use Rattle.mh_tree.specs.Handle.{TypedTree}
use Rattle.mh_pic.specs.Chains.{MayChain, PlainEntry}
use Rattle.mh_site.specs.Defined.{site_at}
use Rattle.mh_site.specs.Worlds.{SiteState, state_at}
use Rattle.mh_core.specs.Books.{BookState, IsBook}
use Rattle.mh_core.specs.Installations.{entry, usable}
use Rattle.mh_core.specs.Records.{base}
use Rattle.mh_core.proofs.CachedLinks.{IsOwn, cached_base, cached_chain, may_chain, over, usable_own}
use Rattle.mh_core.proofs.InstalledLinks.{sites_now, state_now}
use Rattle.mh_core.proofs.book.Book.make_cache.Goals as goal

pub prepared_base-base-requires : goal.prepared_base-base-requires
prepared_base-base-requires c =
    let is = subst IsBook c.self.view_is c.self.invariant in
    let same = ap (λ (b : BookState). length b.world.sites) c.self.view_is in
    record { inside = omega (arith, c.requires.inside, same, sites_now c.args.self.now is) }

pub returns-in_default : goal.returns-in_default
returns-in_default c =
    let now = c.args.self.now in
    let is = subst IsBook c.self.view_is c.self.invariant in
    let tree : c.prepared_base-base.result.now ≡ base now.definition now.records c.args.site =
    c.prepared_base-base.ensures.value
    ∙ (ap (λ (b : BookState). (state_at b.world c.args.site).base) c.self.view_is ∙ ap (λ (x : SiteState). x.base) (state_now now c.args.site is c.requires.inside)) in
    let key : (site_at now.definition c.args.site).key ≡ None =
    sym (c.in_default.ensures.value ∙ ap (λ (b : BookState). (site_at b.definition c.args.site).key) c.self.view_is) in
    record { value = subst (λ t. IfOk c.share.result (λ p. p ≡ t)) (tree ∙ sym (cached_base now.definition now.records c.args.plan c.args.site c.args.links.now is.definition c.requires.inside key c.requires.usable)) c.share.ensures.value }

pub entries-requires : goal.entries-requires
entries-requires c =
    let now = c.args.self.now in
    let is = subst IsBook c.self.view_is c.self.invariant in
    let own = subst (All (IsOwn now.definition c.args.site)) (sym c.requires.usable) (usable_own now.definition now.records c.args.plan c.args.site is.definition c.requires.inside) in
    record { inside = λ k e within. (own k e within).inside }

pub prepared_chain-requires-clause-declared : goal.prepared_chain-requires-clause-declared
prepared_chain-requires-clause-declared c = c.prepared_base-base.ensures.declared

pub prepared_chain-requires-clause-may : goal.prepared_chain-requires-clause-may
prepared_chain-requires-clause-may c =
    let now = c.args.self.now in
    let is = subst IsBook c.self.view_is c.self.invariant in
    let tree : c.prepared_base-base.result.now ≡ base now.definition now.records c.args.site =
    c.prepared_base-base.ensures.value
    ∙ (ap (λ (b : BookState). (state_at b.world c.args.site).base) c.self.view_is ∙ ap (λ (x : SiteState). x.base) (state_now now c.args.site is c.requires.inside)) in
    let key : (site_at now.definition c.args.site).key ≡ Some c.in-Some.key_place =
    sym (c.in-Some.ensures.value ∙ ap (λ (b : BookState). (site_at b.definition c.args.site).key) c.self.view_is) in
    let entries : c.deref.result.now ≡ map (entry now.definition) (usable now.definition now.records c.args.plan c.args.site) =
    c.deref.ensures.value ∙ (c.in_ok-entries.ensures.value ∙ ap (map (entry now.definition)) c.requires.usable) in
    let may = may_chain now.definition now.limits now.records c.args.plan c.args.site c.in-Some.key_place is.definition is.legal c.requires.inside key in
    subst (MayChain c.prepared_base-base.result.now.signature c.in-Some.key_place) (sym entries)
    (subst (λ (t : TypedTree). MayChain t.signature c.in-Some.key_place (map (entry now.definition) (usable now.definition now.records c.args.plan c.args.site))) (sym tree) may)

pub returns : goal.returns
returns c =
    let now = c.args.self.now in
    let is = subst IsBook c.self.view_is c.self.invariant in
    let q = c.in-Some.key_place in
    let tree : c.prepared_base-base.result.now ≡ base now.definition now.records c.args.site =
    c.prepared_base-base.ensures.value
    ∙ (ap (λ (b : BookState). (state_at b.world c.args.site).base) c.self.view_is ∙ ap (λ (x : SiteState). x.base) (state_now now c.args.site is c.requires.inside)) in
    let key : (site_at now.definition c.args.site).key ≡ Some q = sym (c.in-Some.ensures.value ∙ ap (λ (b : BookState). (site_at b.definition c.args.site).key) c.self.view_is) in
    let entries : c.deref.result.now ≡ map (entry now.definition) c.args.links.now = c.deref.ensures.value ∙ c.in_ok-entries.ensures.value in
    record {
      value =
          c.in_ok-cache.ensures.value
          ∙ (ap (λ (es : List PlainEntry). over (take q c.prepared_base-base.result.now.signature.parameters) c.prepared_base-base.result.now es) entries
          ∙ (ap (λ (t : TypedTree). over (take q t.signature.parameters) t (map (entry now.definition) c.args.links.now)) tree
          ∙ cached_chain now.definition now.limits now.records c.args.site q c.args.links.now is.definition is.legal c.requires.inside key));
    }
