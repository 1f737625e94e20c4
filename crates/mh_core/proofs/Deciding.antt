-- What a test that computes says.
use Rattle.std.proofs.Common.{◌≡◌, inl, inr, ℕ, ◌<◌, ◌≤◌, Bool, false, sym, ◌∙◌, IsTrue, ◌↔◌, Result, Ok, Err, OnOk, OnErr}
use Rattle.std.proofs.lemmas.Bool.{cases_lt, false≢true}

pub fails : {P : Type 0} (b : Bool) → IsTrue b ↔ P → b ≡ false → P → ⊥
fails b decides e p = false≢true (sym e ∙ decides.1 p)

pub below : (b : Bool) (n most : ℕ) → IsTrue b ↔ (most ≤ n) → b ≡ false → n < most
below b n most decides e = elim (cases_lt n most) [ inl h ↦ h | inr h ↦ absurd (fails b decides e h) ]

-- what holds where nothing was refused, of what can be refused only where something fails that does not
pub sure : {T E P Q : Type 0} (r : Result T E) → OnErr r (Q → ⊥) → Q → OnOk r P → P
sure (Ok x) full room p = p
sure (Err e) full room p = absurd (full room)
