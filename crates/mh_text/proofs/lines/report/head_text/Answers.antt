use Rattle.std.proofs.Common.{◌≡◌, ◌∙◌, ◌++◌, ℕ, List, ap, codes, refl, subst, string_bytes, IfOk, arith}
use Rattle.std.specs.Fmt.{decimal}
use Rattle.mh_core.specs.Records.{plans, snapshots}
use Rattle.mh_core.specs.State.{calls}
use Rattle.mh_text.proofs.Reports.{calls_counted}
use Rattle.mh_text.proofs.lines.report.head_text.Goals as goal

abbrev parts : ℕ → ℕ → ℕ → ℕ → List ℕ
parts c e s p = codes "report calls " ++ (decimal c ++ (codes " events " ++ (decimal e ++ (codes " snapshots " ++ (decimal s ++ (codes " plans " ++ decimal p))))))

same : {c e s p c′ e′ s′ p′ : ℕ} → c ≡ c′ → e ≡ e′ → s ≡ s′ → p ≡ p′ → parts c e s p ≡ parts c′ e′ s′ p′
same a b d f = rw (a, b, d, f) refl

pub returns : goal.returns
returns c =
    let m = c.args.machine.now in
    let called : c.calls-calls.result ≡ calls m.history = omega (arith, c.calls-calls.ensures.count, calls_counted m.setting.definition m.history) in
    let text = same called c.accepted-events.ensures.count (c.snapshot_count-snapshots.ensures.count ∙ ap snapshots c.book.ensures.records) (c.plan_count-plans.ensures.count ∙ ap plans c.book-2.ensures.records) in
    record { value = subst (λ (t : List ℕ). IfOk c.format.result (λ s. string_bytes s ≡ t)) text c.format.ensures.ok }
