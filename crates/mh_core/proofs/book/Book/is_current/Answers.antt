use Rattle.std.proofs.Common.{◌≡◌, ◌∙◌, ◌==◌, ℕ, List, ap, length, refl, slice_index_or, subst, arith}
use Rattle.std.proofs.lemmas.List.FromFn.{length-map-range_with_len}
use Rattle.mh_site.specs.Worlds.{SiteState, state_at}
use Rattle.mh_core.specs.Books.{BookState, IsBook, book_state}
use Rattle.mh_core.specs.Installations.{PublishedPlan, plan_at}
use Rattle.mh_core.specs.Records.{past, version}
use Rattle.mh_core.proofs.InstalledLinks.{ReadsPlan, plan_taken, sites_now, state_now, versions_read}
use Rattle.mh_core.specs.Laws.Numbered.{at_number}
use Rattle.mh_core.specs.Laws.PlanTables.{plans_now}
use Rattle.mh_core.proofs.Standing.{snapshots_now}
use Rattle.mh_core.proofs.book.Book.is_current.Goals as goal

pub index-requires : goal.index-requires
index-requires c =
    let count = plans_now (book_state c.self.inside) c.args.self.now c.self.inside.plans.items c.self.invariant c.self.view_is refl in
    omega (arith, c.requires.published.0, c.requires.published.1, c.self.inside.plans.ok.0, count)

pub overflow_sub-snapshot : goal.overflow_sub-snapshot
overflow_sub-snapshot c =
    let taken = plan_taken (book_state c.self.inside) c.args.self.now c.self.inside.plans.items c.args.plan c.index.result.now c.behind-self.inside.snapshot record {
      book = c.self.invariant;
      seen = c.self.view_is;
      plans = refl;
      published = c.requires.published;
      which = c.index.ensures;
      number = ap (λ (p : PublishedPlan). p.snapshot) c.behind-self.view_is;
    } in
    taken.0

pub index-requires-2 : goal.index-requires-2
index-requires-2 c =
    let count = snapshots_now (book_state c.self.inside) c.args.self.now c.self.inside.snapshots.items c.self.invariant c.self.view_is refl in
    let taken = plan_taken (book_state c.self.inside) c.args.self.now c.self.inside.plans.items c.args.plan c.index.result.now c.behind-self.inside.snapshot record {
      book = c.self.invariant;
      seen = c.self.view_is;
      plans = refl;
      published = c.requires.published;
      which = c.index.ensures;
      number = ap (λ (p : PublishedPlan). p.snapshot) c.behind-self.view_is;
    } in
    omega (arith, taken.0, taken.1, c.self.inside.snapshots.ok.0, count)

pub bounds-versions-site : goal.bounds-versions-site
bounds-versions-site c =
    let now = c.args.self.now in
    let reads : ReadsPlan (book_state c.self.inside) now c.self.inside.plans.items c.args.plan c.index.result.now c.behind-self.inside.snapshot = record {
      book = c.self.invariant;
      seen = c.self.view_is;
      plans = refl;
      published = c.requires.published;
      which = c.index.ensures;
      number = ap (λ (p : PublishedPlan). p.snapshot) c.behind-self.view_is;
    } in
    let versions = versions_read _ _ _ _ _ _ reads c.self.inside.snapshots.items c.index-2.result.now c.versions.result.now refl c.index-2.ensures c.versions.ensures.value in
    let count = length-map-range_with_len (version (past now.records (plan_at now.records c.args.plan).snapshot)) 0 (length now.definition.sites) in
    omega (arith, c.requires.inside, ap length versions, count)

pub version-requires : goal.version-requires
version-requires c =
    let is = subst IsBook c.self.view_is c.self.invariant in
    let same = ap (λ (b : BookState). length b.world.sites) c.self.view_is in
    record { inside = omega (arith, c.requires.inside, same, sites_now c.args.self.now is) }

pub returns : goal.returns
returns c =
    let now = c.args.self.now in
    let is = subst IsBook c.self.view_is c.self.invariant in
    let then' = version (past now.records (plan_at now.records c.args.plan).snapshot) in
    let reads : ReadsPlan (book_state c.self.inside) now c.self.inside.plans.items c.args.plan c.index.result.now c.behind-self.inside.snapshot = record {
      book = c.self.invariant;
      seen = c.self.view_is;
      plans = refl;
      published = c.requires.published;
      which = c.index.ensures;
      number = ap (λ (p : PublishedPlan). p.snapshot) c.behind-self.view_is;
    } in
    let versions = versions_read _ _ _ _ _ _ reads c.self.inside.snapshots.items c.index-2.result.now c.versions.result.now refl c.index-2.ensures c.versions.ensures.value in
    let old : slice_index_or c.versions.result.now c.args.site 0 ≡ then' c.args.site =
    ap (λ (l : List ℕ). slice_index_or l c.args.site 0) versions ∙ at_number then' (length now.definition.sites) c.args.site c.requires.inside in
    let new : c.version.result ≡ version now.records c.args.site =
    c.version.ensures.value
    ∙ (ap (λ (b : BookState). (state_at b.world c.args.site).version) c.self.view_is ∙ ap (λ (x : SiteState). x.version) (state_now now c.args.site is c.requires.inside)) in
    record { value = ap (λ (n : ℕ). n == c.version.result) old ∙ ap (λ (n : ℕ). then' c.args.site == n) new }
