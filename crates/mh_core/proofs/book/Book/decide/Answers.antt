use Rattle.std.proofs.Common.{◌≡◌, ◌∙◌, ◌+◌, ◌++◌, ◌&&◌, ◌||◌, ℕ, Bool, List, nat_lt, ap, filter, length, map, not, refl, subst, sym, arith}
use Rattle.std.proofs.lemmas.List.{append-nil}
use Rattle.mh_core.specs.Books.{BookState, IsBook}
use Rattle.mh_core.specs.Installations.{chosen, concerned, is_concerned, is_current, kept, left_out, site_linkage}
use Rattle.mh_core.specs.Problems.{is_eligible}
use Rattle.mh_core.specs.declared.install_report.SiteLinkage.{SiteLinkage}
use Rattle.mh_core.specs.Records.{numbers}
use Rattle.mh_core.specs.Replayed.{relinked}
use Rattle.mh_core.proofs.InstalledLinks.{filter_both, gather_both, gather_pass, gather_skip, gathered}
use Rattle.mh_core.proofs.PlanLinks.{left_out_all, left_out_at, left_out_before, left_out_more, none_left_out}
use Rattle.mh_core.proofs.book.Book.decide.Goals.{then-is_concerned+in_ok-linkage+in_ok-push, else-is_concerned}
use Rattle.mh_core.proofs.book.Book.decide.Goals as goal

pub loop-site-preserved : goal.loop-site-preserved
loop-site-preserved c =
    let d = c.args.self.now.definition in
    let r = c.args.self.now.records in
    let m = c.args.plan in
    let site = c.loop-site.site in
    let chosen_are : c.as_slice-chosen.result.now ≡ chosen d r m site = c.as_slice-chosen.ensures.value ∙ c.chosen-chosen.ensures.value in
    let kept_too : List ℕ → Bool = λ js. nat_lt 0 (length js) || nat_lt 0 (length (kept d r site)) in
    let concerns : c.is_concerned.result ≡ is_concerned d r m site = c.is_concerned.ensures.value ∙ ap kept_too chosen_are in
    let sites = ap length c.sites-site-end.ensures.value ∙ ap (λ (b : BookState). length b.definition.sites) c.self.view_is in
    let more : left_out_before d r m (site + 1) ≡ left_out_before d r m site ++ left_out_at d r m site =
    left_out_more d r m site (omega (arith, c.loop-site-test.true, c.loop-site.auto.site-end, sites)) in
    record {
      sites = elim c.if-is_concerned.branch [
        | then-is_concerned+in_ok-linkage+in_ok-push w ↦
            rw w.sites-is
            (gather_pass (site_linkage d r m) (is_concerned d r m) 0 site site (site + 1) _ _ _ (omega arith) refl c.loop-site.invariant.sites (sym concerns ∙ w.if-is_concerned.true)
            w.in_ok-linkage.ensures.linkage w.in_ok-push.ensures.items)
        | else-is_concerned w ↦
            rw w.sites-is
            (gather_skip (site_linkage d r m) (is_concerned d r m) 0 site site (site + 1) _ (omega arith) refl c.loop-site.invariant.sites (sym concerns ∙ w.if-is_concerned.false))
      ];
      left_out = elim c.if-is_concerned.branch [
        | then-is_concerned+in_ok-linkage+in_ok-push w ↦
            rw w.left_out-is
            (w.in_ok-linkage.ensures.left_out
            ∙ (ap (λ (js : List ℕ). js ++ filter (λ j. is_current r m site && not (is_eligible d r j)) c.as_slice-chosen.result.now) c.loop-site.invariant.left_out
            ∙ (ap (λ (js : List ℕ). left_out_before d r m site ++ filter (λ j. is_current r m site && not (is_eligible d r j)) js) chosen_are ∙ sym more)))
        | else-is_concerned w ↦
            rw w.left_out-is
            (c.loop-site.invariant.left_out
            ∙ (sym (append-nil _) ∙ (ap (λ (js : List ℕ). left_out_before d r m site ++ js) (sym (none_left_out d r m site (sym concerns ∙ w.if-is_concerned.false))) ∙ sym more)))
      ];
      relinkings = elim c.if-is_concerned.branch [
        | then-is_concerned+in_ok-linkage+in_ok-push w ↦
            rw w.relinkings-is
            (gather_both (relinked d r m) (is_concerned d r m) (is_current r m) site (site + 1) _ _ refl c.loop-site.invariant.relinkings (sym concerns ∙ w.if-is_concerned.true)
            w.in_ok-linkage.ensures.linked w.in_ok-linkage.ensures.skipped)
        | else-is_concerned w ↦
            rw w.relinkings-is
            (gather_skip (relinked d r m) (λ s. is_concerned d r m s && is_current r m s) 0 site site (site + 1) _ (omega arith) refl c.loop-site.invariant.relinkings
            (ap (λ (b : Bool). b && is_current r m site) (sym concerns ∙ w.if-is_concerned.false)))
      ];
    }

pub returns-clause-changes : goal.returns-clause-changes
returns-clause-changes c =
    let d = c.args.self.now.definition in
    let r = c.args.self.now.records in
    let m = c.args.plan in
    let passes : ℕ → Bool = λ s. is_concerned d r m s && is_current r m s in
    let sites = ap length c.sites-site-end.ensures.value ∙ ap (λ (b : BookState). length b.definition.sites) c.self.view_is in
    let count : c.loop-site.site ≡ length d.sites = omega (arith, c.loop-site-test.false, c.loop-site.auto.site-end, sites) in
    c.loop-site.invariant.relinkings
    ∙ (ap (gathered (relinked d r m) passes 0) count ∙ ap (map (relinked d r m)) (sym (filter_both (is_concerned d r m) (is_current r m) (numbers (length d.sites)))))

pub returns-clause-report : goal.returns-clause-report
returns-clause-report c =
    let now = c.args.self.now in
    let d = now.definition in
    let r = now.records in
    let m = c.args.plan in
    let is = subst IsBook c.self.view_is c.self.invariant in
    let sites = ap length c.sites-site-end.ensures.value ∙ ap (λ (b : BookState). length b.definition.sites) c.self.view_is in
    let count : c.loop-site.site ≡ length d.sites = omega (arith, c.loop-site-test.false, c.loop-site.auto.site-end, sites) in
    let linkages : c.from_vec-sites.result ≡ map (site_linkage d r m) (concerned d r m) =
    c.from_vec-sites.ensures.value ∙ (c.loop-site.invariant.sites ∙ ap (gathered (site_linkage d r m) (is_concerned d r m) 0) count) in
    let others : c.from_vec-left_out.result ≡ left_out d r m =
    c.from_vec-left_out.ensures.value ∙ (c.loop-site.invariant.left_out ∙ (ap (left_out_before d r m) count ∙ left_out_all now m is c.requires.published)) in
    ap (λ (ls : List SiteLinkage). record { sites = ls; left_out = c.from_vec-left_out.result }) linkages
    ∙ ap (λ (js : List ℕ). record { sites = map (site_linkage d r m) (concerned d r m); left_out = js }) others
