-- Chains of places grow by one.
use Rattle.std.proofs.Common.{◌≡◌, ◌<◌, ◌+◌, ◌≢◌, ℕ, zero, suc, List, [], ◌∷◌, ◌++◌, length, arith, refl, sym, ◌∙◌, ap, subst, inl, inr, get_or, get_or-set_same, get_or-set_other, length-append}
use Rattle.std.proofs.Math.ListN.{length-set}
use Rattle.std.proofs.Math.Path.{fun_ext}
use Rattle.std.proofs.Math.Seq.{get_or-append_seam}
use Rattle.std.specs.Prelude.{slice_set, replicate}
use Rattle.std.proofs.lemmas.Bool.{cases_eq, cases_lt}
use Rattle.std.proofs.lemmas.List.{get_or_append_left}
use Rattle.std.proofs.lemmas.Grind.{get_or_default_zero}
use Rattle.mh_flow.specs.Carried.{number_at}
use Rattle.mh_flow.specs.Chains.{IsLastBelow, IsChained}

zero_at : (n p : ℕ) → number_at (replicate n 0) p ≡ 0
zero_at zero p = refl
zero_at (suc n) zero = refl
zero_at (suc n) (suc p) = zero_at n p

pub chained_none : (key : ℕ → ℕ) (count : ℕ) (last before : List ℕ) → last ≡ replicate count 0 → length last ≡ count → before ≡ [] → IsChained key 0 count last before
chained_none key count last before e l f = record {
  last_count = l;
  before_count = ap length f;
  lasts = λ p m.
      let none_yet : number_at last p ≡ 0 = ap (λ (xs : List ℕ). number_at xs p) e ∙ zero_at count p in
      record {
        within = omega (arith, none_yet);
        here = λ k h. absurd (omega (arith, none_yet, h));
        none = λ k a b. absurd (omega (arith, b));
      };
  befores = λ k m. absurd (omega (arith, m));
}

last_more : (key : ℕ → ℕ) (p n at : ℕ) → IsLastBelow key p n at → key n ≢ p → IsLastBelow key p (n + 1) at
last_more key p n at h other = record {
  within = omega (arith, h.within);
  here = h.here;
  none = λ k a b e. elim (cases_lt k n) [
    | inl m ↦ h.none k a m e
    | inr m ↦ let same : k ≡ n = omega (arith, b, m) in other (ap key (sym same) ∙ e)
  ];
}

last_here : (key : ℕ → ℕ) (n : ℕ) → IsLastBelow key (key n) (n + 1) (n + 1)
last_here key n = record {
  within = omega arith;
  here = λ k e. let same : k ≡ n = omega (arith, e) in ap key same;
  none = λ k a b. absurd (omega (arith, a, b));
}

pub chained_more : (key : ℕ → ℕ) (n count : ℕ) (last before : List ℕ) → IsChained key n count last before → key n < count →
    IsChained key (n + 1) count (slice_set last (key n) (n + 1)) (before ++ number_at last (key n) ∷ [])
chained_more key n count last before h m =
    let inside : key n < length last = omega (arith, m, h.last_count) in
    record {
      last_count = length-set last (key n) (n + 1) ∙ h.last_count;
      before_count = omega (arith, length-append before (number_at last (key n) ∷ []), h.before_count);
      lasts = λ p l. elim (cases_eq p (key n)) [
        | inl e ↦ rw (e, get_or-set_same) (last_here key n)
        | inr ne ↦
            let here : number_at (slice_set last (key n) (n + 1)) p ≡ number_at last p = rw get_or-set_other refl in
            subst (λ (a : ℕ). IsLastBelow key p (n + 1) a) (sym here) (last_more key p n (number_at last p) (h.lasts p l) (λ e. ne (sym e)))
      ];
      befores = λ k l. elim (cases_lt k n) [
        | inl b ↦
            let here : number_at (before ++ number_at last (key n) ∷ []) k ≡ number_at before k =
            get_or_append_left before (number_at last (key n) ∷ []) 0 k (omega (arith, b, h.before_count)) in
            subst (λ (a : ℕ). IsLastBelow key (key k) k a) (sym here) (h.befores k b)
        | inr b ↦
            let same : k ≡ length before = omega (arith, b, l, h.before_count) in
            let here : number_at (before ++ number_at last (key n) ∷ []) k ≡ number_at last (key n) =
            ap (λ (i : ℕ). number_at (before ++ number_at last (key n) ∷ []) i) same ∙ get_or-append_seam before (number_at last (key n)) [] 0 in
            let at_end : k ≡ n = omega (arith, b, l) in
            let found : IsLastBelow key (key n) n (number_at last (key n)) = h.lasts (key n) m in
            let moved : IsLastBelow key (key k) k (number_at last (key n)) = subst (λ (i : ℕ). IsLastBelow key (key i) i (number_at last (key n))) (sym at_end) found in
            subst (λ (a : ℕ). IsLastBelow key (key k) k a) (sym here) moved
      ];
    }

pub chained_same : (key other : ℕ → ℕ) (n count : ℕ) (last before : List ℕ) → ((k : ℕ) → key k ≡ other k) → IsChained key n count last before → IsChained other n count last before
chained_same key other n count last before e h = subst (λ (f : ℕ → ℕ). IsChained f n count last before) (fun_ext e) h

-- the place before row i, as it was read
pub before_read : (key : ℕ → ℕ) (n count : ℕ) (last before : List ℕ) (i at : ℕ) → IsChained key n count last before → i < n → at ≡ get_or before i at → IsLastBelow key (key i) i at
before_read key n count last before i at h m e =
    let same : get_or before i at ≡ number_at before i = get_or_default_zero before i at (omega (arith, m, h.before_count)) in
    subst (λ (a : ℕ). IsLastBelow key (key i) i a) (sym (e ∙ same)) (h.befores i m)
