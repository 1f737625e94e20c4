-- Behind the last operand one place is as another: filters there read no operand, and put none.
use Rattle.std.proofs.Common.{false, ◌≡◌, ℕ, ◌+◌, ◌≤◌, ◌∙◌, refl, ap, sym, arith, List, [], ◌∷◌, length}
use Rattle.std.proofs.lemmas.List.{get_or_past, set_past}
use Rattle.std.specs.Prelude.{slice_set}
use Rattle.mh_type.specs.declared.value.Value.TheVariants.{Boolean}
use Rattle.mh_tree.specs.Code.{Code, bind}
use Rattle.mh_tree.specs.Tree.{Filters, no_more, absent, present}
use Rattle.mh_tree.specs.Prepared.{operand_at, prepared, prepared_filters}
use Rattle.mh_tree.specs.declared.operand.Operand.{Operand}
use Rattle.mh_tree.specs.declared.operand.Operand.TheVariants.{Local, Constant}

operand_past : (env : List Operand) (p : ℕ) → length env ≤ p → operand_at env p ≡ Constant (Boolean false)
operand_past env p h = get_or_past env p _ h

pub filters_behind : (fs : Filters) (p q : ℕ) (env : List Operand) (d s : ℕ) (go : List Operand → ℕ → ℕ → Code)
    → length env ≤ p → length env ≤ q → prepared_filters fs p env d s go ≡ prepared_filters fs q env d s go
filters_behind no_more p q env d s go a b = refl
filters_behind (absent fs) p q env d s go a b = filters_behind fs (p + 1) (q + 1) env d s go (omega (arith, a)) (omega (arith, b))
filters_behind (present f fs) p q env d s go a b =
    let read : operand_at env p ≡ operand_at env q = operand_past env p a ∙ sym (operand_past env q b) in
    let one : slice_set env p (Local d) ≡ env = set_past env p (Local d) a in
    let other : slice_set env q (Local d) ≡ env = set_past env q (Local d) b in
    let rest : prepared_filters fs (p + 1) (slice_set env p (Local d)) (d + 1) 0 go ≡ prepared_filters fs (q + 1) (slice_set env q (Local d)) (d + 1) 0 go =
    ap (λ e. prepared_filters fs (p + 1) e (d + 1) 0 go) one
    ∙ filters_behind fs (p + 1) (q + 1) env (d + 1) 0 go (omega (arith, a)) (omega (arith, b))
    ∙ sym (ap (λ e. prepared_filters fs (q + 1) e (d + 1) 0 go) other) in
    (λ j. bind s (prepared f (read j ∷ []) d 0) (rest j))
