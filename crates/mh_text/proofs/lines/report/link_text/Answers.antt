use Rattle.std.proofs.Common.{◌≡◌, ◌∙◌, ◌+◌, ◌++◌, ℕ, List, ap, codes, refl, subst, string_bytes, IfOk}
use Rattle.std.specs.Fmt.{decimal}
use Rattle.mh_site.specs.declared.link.Link.{Link}
use Rattle.mh_text.specs.Report.{charge_text, yes_text}
use Rattle.mh_text.proofs.lines.report.link_text.Goals as goal

abbrev parts : List ℕ → ℕ → ℕ → ℕ → ℕ → List ℕ → List ℕ → List ℕ
parts d h f u g y c =
    d ++ (codes " hits " ++ (decimal h ++ (codes " flushed " ++ (decimal f ++ (codes " unflushed " ++ (decimal u ++ (codes " gain " ++ (decimal g ++ (codes " installed " ++ (y ++ c))))))))))

same : {d d′ y y′ c c′ : List ℕ} {h h′ f f′ g g′ : ℕ} (u : ℕ) → d ≡ d′ → h ≡ h′ → f ≡ f′ → g ≡ g′ → y ≡ y′ → c ≡ c′ → parts d h f u g y c ≡ parts d′ h′ f′ u g′ y′ c′
same u a b e i j k = rw (a, b, e, i, j, k) refl

pub returns : goal.returns
returns c =
    let u = c.args.unflushed in
    let hits = ap (λ (n : ℕ). n + u) (c.from.ensures ∙ c.total-flushed.ensures.value) in
    let held = c.yes-held.ensures.value ∙ ap yes_text c.is_installed.ensures.value in
    let charge = c.in_ok-charge.ensures.value ∙ ap (λ (l : Link). charge_text l.charge) c.declared_link.ensures.value in
    let text = same u c.in_ok-declared.ensures.value hits c.total-flushed.ensures.value c.gain-gain.ensures.value held charge in
    record { value = subst (λ (t : List ℕ). IfOk c.format.result (λ s. string_bytes s ≡ t)) text c.format.ensures.ok }
