-- Lines and lists by number, one number more.
use Rattle.std.proofs.Common.{◌≡◌, ℕ, zero, suc, ◌+◌, Bool, true, false, List, [], ◌∷◌, ◌++◌, length, refl, sym, ap, ◌∙◌, arith}
use Rattle.std.specs.List.{filter, flat_map, range_with_len}
use Rattle.std.proofs.lemmas.List.{append-nil, flat_map_more}
use Rattle.std.proofs.lemmas.List.Elements.{filter-append}
use Rattle.mh_site.specs.Defined.{DefinitionData}
use Rattle.mh_core.specs.declared.event.Event.{Event}
use Rattle.mh_core.specs.declared.event.Event.TheVariants.{Call, Flush, Target, Invalidate, Snapshot, Publish, Install}
use Rattle.mh_core.specs.Histories.{records}
use Rattle.mh_core.specs.Records.{numbers}
use Rattle.mh_core.specs.State.{calls}

range_more : (a n : ℕ) → range_with_len a (suc n) ≡ range_with_len a n ++ (a + n) ∷ []
range_more a zero = let here : a ≡ a + 0 = omega arith in ap (λ k. k ∷ []) here
range_more a (suc n) =
    let last : a + 1 + n ≡ a + suc n = omega arith in
    ap (λ ks. a ∷ ks) (range_more (a + 1) n ∙ ap (λ k. range_with_len (a + 1) n ++ k ∷ []) last)

pub numbers_more : (n : ℕ) → numbers (n + 1) ≡ numbers n ++ n ∷ []
numbers_more n =
    let more : n + 1 ≡ suc n = omega arith in
    let last : 0 + n ≡ n = omega arith in
    ap numbers more ∙ (range_more 0 n ∙ ap (λ k. numbers n ++ k ∷ []) last)

-- the line of one number more
pub line_pushed : (f : ℕ → List ℕ) (n : ℕ) (start before line after : List ℕ) → before ≡ start ++ flat_map f (numbers n) → line ≡ f n → after ≡ before ++ line
    → after ≡ start ++ flat_map f (numbers (n + 1))
line_pushed f n start before line after so_far is pushed =
    pushed
    ∙ (ap (λ bs. bs ++ line) so_far
    ∙ (ap (λ l. (start ++ flat_map f (numbers n)) ++ l) is ∙ (flat_map_more f start (numbers n) n ∙ ap (λ ns. start ++ flat_map f ns) (sym (numbers_more n)))))

module _ (p : ℕ → Bool) (n : ℕ) (xs : List ℕ) (so_far : xs ≡ filter p (numbers n)) where
  filtered : filter p (numbers (n + 1)) ≡ filter p (numbers n) ++ filter p (n ∷ [])
  filtered = ap (filter p) (numbers_more n) ∙ filter-append p (numbers n) (n ∷ [])

  -- one number more that passes
  pub filter_takes : (ys : List ℕ) → p n ≡ true → ys ≡ xs ++ n ∷ [] → ys ≡ filter p (numbers (n + 1))
  filter_takes ys passes pushed =
      let last : filter p (n ∷ []) ≡ n ∷ [] = rw passes refl in
      pushed ∙ (ap (λ zs. zs ++ n ∷ []) so_far ∙ sym (filtered ∙ ap (λ zs. filter p (numbers n) ++ zs) last))

  -- and one that does not
  pub filter_skips : p n ≡ false → xs ≡ filter p (numbers (n + 1))
  filter_skips fails =
      let last : filter p (n ∷ []) ≡ [] = rw fails refl in
      so_far ∙ sym (filtered ∙ (ap (λ zs. filter p (numbers n) ++ zs) last ∙ append-nil (filter p (numbers n))))

-- records and calls are all events
pub calls_counted : (d : DefinitionData) (h : List Event) → length (records d h) + calls h ≡ length h
calls_counted d [] = refl
calls_counted d (Call w s a ∷ h) = let rest = calls_counted d h in omega (arith, rest)
calls_counted d (Flush w ∷ h) = let rest = calls_counted d h in omega (arith, rest)
calls_counted d (Target s tree ∷ h) = let rest = calls_counted d h in omega (arith, rest)
calls_counted d (Invalidate points ∷ h) = let rest = calls_counted d h in omega (arith, rest)
calls_counted d (Snapshot ∷ h) = let rest = calls_counted d h in omega (arith, rest)
calls_counted d (Publish n plan ∷ h) = let rest = calls_counted d h in omega (arith, rest)
calls_counted d (Install m ∷ h) = let rest = calls_counted d h in omega (arith, rest)
