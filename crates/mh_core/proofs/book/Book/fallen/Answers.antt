use Rattle.std.proofs.Common.{◌≡◌, ◌+◌, ◌∙◌, ℕ, Bool, true, false, not, ap, filter, length, refl, sym, arith}
use Rattle.std.proofs.lemmas.List.{map-id}
use Rattle.mh_core.specs.Books.{BookState}
use Rattle.mh_core.specs.Records.{numbers}
use Rattle.mh_core.specs.Renewals.{is_valid_anew}
use Rattle.mh_core.proofs.InstalledLinks.{gather_pass, gather_skip}
use Rattle.mh_core.proofs.book.Book.fallen.Goals.{then-not-valid+in_ok-push, else-not-valid}
use Rattle.mh_core.proofs.book.Book.fallen.Goals as goal

pub loop-point-preserved : goal.loop-point-preserved
loop-point-preserved c =
    let r = c.args.self.now.records in
    let p = c.loop-point.point in
    let again = c.args.again.now in
    let valid : c.is_valid_anew-valid.result ≡ is_valid_anew r again p = c.is_valid_anew-valid.ensures.value in
    elim c.if-not-valid.branch [
      | then-not-valid+in_ok-push w ↦
          let falls : not (is_valid_anew r again p) ≡ true = ap not (sym valid ∙ w.if-not-valid.true) in
          rw w.fallen-is (gather_pass (λ (q : ℕ). q) (λ q. not (is_valid_anew r again q)) 0 p p (p + 1) _ _ p (omega arith) refl c.loop-point.invariant falls refl w.in_ok-push.ensures.items)
      | else-not-valid w ↦
          let stays : not (is_valid_anew r again p) ≡ false = ap not (sym valid ∙ w.if-not-valid.false) in
          rw w.fallen-is (gather_skip (λ (q : ℕ). q) (λ q. not (is_valid_anew r again q)) 0 p p (p + 1) _ (omega arith) refl c.loop-point.invariant stays)
    ]

pub returns : goal.returns
returns c =
    let now = c.args.self.now in
    let falls : ℕ → Bool = λ p. not (is_valid_anew now.records c.args.again.now p) in
    let points = ap length c.points-point-end.ensures.value ∙ ap (λ (b : BookState). length b.definition.points) c.self.view_is in
    let last : c.loop-point.point ≡ length now.definition.points = omega (arith, c.loop-point-test.false, c.loop-point.auto.point-end, points) in
    record {
      value =
          c.from_vec.ensures.value
          ∙ (c.loop-point.invariant ∙ (map-id (filter falls (numbers c.loop-point.point)) ∙ ap (λ (n : ℕ). filter falls (numbers n)) last));
    }
