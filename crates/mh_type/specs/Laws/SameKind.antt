-- The tests of kinds, of lists of kinds and of types decide equality.
use Rattle.std.proofs.Common.{◌≡◌, refl, sym, ap, ◌∙◌, rules, true, false, Bool, ◌&&◌, List, [], ◌∷◌, ◌<◌, length, take, length-take, arith}
use Rattle.std.specs.Bool.{Decides}
use Rattle.mh_type.specs.declared.kind.Kind.{Kind}
use Rattle.mh_type.specs.declared.kind.Kind.TheVariants as kind
use Rattle.mh_type.specs.contracts.kind.Kind.{the_type}
use Rattle.mh_type.specs.contracts.kind.KindPartialEq.TheImpl.{eq-value}
use Rattle.mh_type.specs.Kinds.{kind_eq, kinds_eq}
use Rattle.mh_type.specs.Signature.{Signature, signature_eq}
use denote.Enum.Bare.{same_true, true_same}

pub derived_decides : (a b : Kind) → Decides (eq-value.it a b) (a ≡ b)
derived_decides a b = (same_true the_type (search rules) a b, true_same the_type a b)

kind_eq-same : (a : Kind) → kind_eq a a ≡ true
kind_eq-same kind.Int = refl
kind_eq-same kind.Long = refl
kind_eq-same kind.Boolean = refl
kind_eq-same kind.Text = refl

same-kind_eq : (a b : Kind) → kind_eq a b ≡ true → a ≡ b
same-kind_eq kind.Int kind.Int h = refl
same-kind_eq kind.Long kind.Long h = refl
same-kind_eq kind.Boolean kind.Boolean h = refl
same-kind_eq kind.Text kind.Text h = refl
same-kind_eq kind.Int kind.Long h = cc
same-kind_eq kind.Int kind.Boolean h = cc
same-kind_eq kind.Int kind.Text h = cc
same-kind_eq kind.Long kind.Int h = cc
same-kind_eq kind.Long kind.Boolean h = cc
same-kind_eq kind.Long kind.Text h = cc
same-kind_eq kind.Boolean kind.Int h = cc
same-kind_eq kind.Boolean kind.Long h = cc
same-kind_eq kind.Boolean kind.Text h = cc
same-kind_eq kind.Text kind.Int h = cc
same-kind_eq kind.Text kind.Long h = cc
same-kind_eq kind.Text kind.Boolean h = cc

pub kind_eq_decides : (a b : Kind) → Decides (kind_eq a b) (a ≡ b)
kind_eq_decides a b = (same-kind_eq a b, λ e. ap (kind_eq a) (sym e) ∙ kind_eq-same a)

both : (x y : Bool) → x && y ≡ true → (x ≡ true) × (y ≡ true)
both true y h = (refl, h)
both false y h = cc

kinds_eq-same : (ks : List Kind) → kinds_eq ks ks ≡ true
kinds_eq-same [] = refl
kinds_eq-same (k ∷ ks) = rw (kind_eq-same k) (kinds_eq-same ks)

same-kinds_eq : (ks js : List Kind) → kinds_eq ks js ≡ true → ks ≡ js
same-kinds_eq [] [] h = refl
same-kinds_eq [] (j ∷ js) h = cc
same-kinds_eq (k ∷ ks) [] h = cc
same-kinds_eq (k ∷ ks) (j ∷ js) h =
    let parts = both (kind_eq k j) (kinds_eq ks js) h in
    λ i. same-kind_eq k j parts.0 i ∷ same-kinds_eq ks js parts.1 i

pub kinds_eq_decides : (ks js : List Kind) → Decides (kinds_eq ks js) (ks ≡ js)
kinds_eq_decides ks js = (same-kinds_eq ks js, λ e. ap (kinds_eq ks) (sym e) ∙ kinds_eq-same ks)

-- two signatures with the same parts are equal
pub signature_same : (a b : Signature) → a.ret ≡ b.ret → a.parameters ≡ b.parameters → a ≡ b
signature_same a b p q = λ i. record { ret = p i; parameters = q i }

signature_eq-same : (a : Signature) → signature_eq a a ≡ true
signature_eq-same a = rw (kind_eq-same a.ret) (kinds_eq-same a.parameters)

pub signature_eq_decides : (a b : Signature) → Decides (signature_eq a b) (a ≡ b)
signature_eq_decides a b = (
  λ h. let parts = both (kind_eq a.ret b.ret) (kinds_eq a.parameters b.parameters) h in
      signature_same a b (same-kind_eq _ _ parts.0) (same-kinds_eq _ _ parts.1),
  λ e. ap (signature_eq a) (sym e) ∙ signature_eq-same a,
)

-- a list that is longer than another is not a prefix of it
pub kinds_eq-longer : (first ks : List Kind) → length ks < length first → kinds_eq first (take (length first) ks) ≡ false
kinds_eq-longer first ks longer = answers_false _ (λ h. let e = ap (λ (js : List Kind). length js) (same-kinds_eq first (take (length first) ks) h) in omega (arith, e, length-take (length first) ks))
  where
    answers_false : (b : Bool) → (b ≡ true → ⊥) → b ≡ false
    answers_false true never = absurd (never refl)
    answers_false false never = refl
