use Rattle.std.proofs.Common.{◌≡◌, ◌∙◌, ◌++◌, ℕ, List, ap, codes, length, refl, subst, string_bytes, IfOk}
use Rattle.std.specs.Fmt.{decimal}
use Rattle.mh_type.specs.Written.{written}
use Rattle.mh_site.specs.Defined.{DefinitionData, site_at}
use Rattle.mh_text.proofs.lines.report.site_text.Goals as goal

abbrev parts : List ℕ → List ℕ → ℕ → ℕ → List ℕ
parts n t r i = codes "site " ++ (n ++ (codes " type " ++ (t ++ (codes " retargeted " ++ (decimal r ++ (codes " installed " ++ decimal i))))))

same : {n n′ t t′ : List ℕ} {r r′ i i′ : ℕ} → n ≡ n′ → t ≡ t′ → r ≡ r′ → i ≡ i′ → parts n t r i ≡ parts n′ t′ r′ i′
same a b d e = rw (a, b, d, e) refl

pub returns : goal.returns
returns c =
    let s = c.args.site in
    let name = c.site_name-name.ensures.value ∙ ap (λ (d : DefinitionData). (site_at d s).name) c.definition-definition.ensures.value in
    let type = ap written (c.method_type-method_type.ensures.value ∙ ap (λ (d : DefinitionData). (site_at d s).method_type) c.definition-definition.ensures.value) in
    let text = same name type c.retargetings-retargeted.ensures.value (ap length c.installed.ensures.value) in
    record { value = subst (λ (t : List ℕ). IfOk c.format.result (λ s. string_bytes s ≡ t)) text c.format.ensures.ok }
