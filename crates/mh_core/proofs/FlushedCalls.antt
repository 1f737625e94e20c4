-- The totals of records count the calls that a flush of the same worker follows.
use Rattle.std.proofs.Common.{◌≡◌, ℕ, ◌+◌, ◌<◌, ◌==◌, ◌||◌, ◌&&◌, Bool, true, false, cond, List, [], ◌∷◌, length, refl, ap, sym, ◌∙◌, arith}
use Rattle.std.proofs.lemmas.Bool.Decides.{Decides-eqb, nat_tests}
use Rattle.mh_site.specs.Defined.{DefinitionData}
use Rattle.mh_site.specs.Links.{links}
use Rattle.mh_core.specs.declared.event.Event.{Event}
use Rattle.mh_core.specs.declared.event.Event.TheVariants.{Call, Flush, Target, Invalidate, Snapshot, Publish, Install}
use Rattle.mh_core.specs.Histories.{records}
use Rattle.mh_core.specs.Hits.{flushed_calls, hits, total_calls, moved, unflushed, unflushed_hits}
use Rattle.mh_core.specs.Records.{hits_of, total}
use Rattle.mh_core.proofs.HitCounts.{hits_counted}
use Rattle.mh_core.specs.Laws.Numbered.{at_number}

module _ (d : DefinitionData) (j : ℕ) where
  -- only which workers flush later matters
  same_later : (p q : ℕ → Bool) (h : List Event) → ((w : ℕ) → p w ≡ q w) → flushed_calls d p h j ≡ flushed_calls d q h j
  same_later p q [] same = refl
  same_later p q (Call w s a ∷ h) same =
      ap (λ b. cond (b && hits d s a j) (flushed_calls d p h j + 1) (flushed_calls d p h j)) (same w)
      ∙ ap (λ n. cond (q w && hits d s a j) (n + 1) n) (same_later p q h same)
  same_later p q (Flush w ∷ h) same = same_later (λ v. (w == v) || p v) (λ v. (w == v) || q v) h (λ v. ap (λ b. (w == v) || b) (same v))
  same_later p q (Target s tree ∷ h) same = same_later p q h same
  same_later p q (Invalidate points ∷ h) same = same_later p q h same
  same_later p q (Snapshot ∷ h) same = same_later p q h same
  same_later p q (Publish n plan ∷ h) same = same_later p q h same
  same_later p q (Install m ∷ h) same = same_later p q h same

  -- a call of a worker, whether the one that flushes later or another
  one_call : (is later own hit : Bool) (all some rest : ℕ) → (is ≡ true → later ≡ own) → all ≡ some + cond own 0 rest
      → cond ((is || later) && hit) (all + 1) all ≡ cond (later && hit) (some + 1) some + cond own 0 (cond (is && hit) (rest + 1) rest)
  one_call true true true true all some rest e h = omega (arith, h)
  one_call true true true false all some rest e h = omega (arith, h)
  one_call true false false true all some rest e h = omega (arith, h)
  one_call true false false false all some rest e h = omega (arith, h)
  one_call true true false hit all some rest e h = let f : true ≡ false = e refl in cc
  one_call true false true hit all some rest e h = let f : false ≡ true = e refl in cc
  one_call false true true true all some rest e h = omega (arith, h)
  one_call false true true false all some rest e h = omega (arith, h)
  one_call false true false true all some rest e h = omega (arith, h)
  one_call false true false false all some rest e h = omega (arith, h)
  one_call false false true true all some rest e h = omega (arith, h)
  one_call false false true false all some rest e h = omega (arith, h)
  one_call false false false true all some rest e h = omega (arith, h)
  one_call false false false false all some rest e h = omega (arith, h)

  either : (x y z : Bool) → (x || (y || z)) ≡ (y || (x || z))
  either true true z = refl
  either true false z = refl
  either false true z = refl
  either false false z = refl

  merged : (x y : Bool) (n : ℕ) → cond (x || y) 0 n ≡ cond y 0 (cond x 0 n)
  merged true true n = refl
  merged true false n = refl
  merged false true n = refl
  merged false false n = refl

  same_sides : (v w : ℕ) → (v == w) ≡ (w == v)
  same_sides v w = grind (arith, nat_tests)

  -- a later flush of a worker lets its unflushed hits count
  one_flush : (w : ℕ) (later : ℕ → Bool) (h : List Event)
      → flushed_calls d (λ v. (w == v) || later v) h j ≡ flushed_calls d later h j + cond (later w) 0 (unflushed d h w j)
  one_flush w later [] = elim (later w) as (λ (b : Bool). 0 ≡ 0 + cond b 0 0) [ true ↦ omega arith | false ↦ omega arith ]
  one_flush w later (Call v s a ∷ h) =
      ap (λ (b : Bool). cond ((b || later v) && hits d s a j) (flushed_calls d (λ u. (w == u) || later u) h j + 1) (flushed_calls d (λ u. (w == u) || later u) h j)) (same_sides w v)
      ∙ one_call (v == w) (later v) (later w) (hits d s a j) _ _ _ (λ e. ap later ((Decides-eqb v w).0 e)) (one_flush w later h)
  one_flush w later (Flush v ∷ h) =
      same_later (λ u. (v == u) || ((w == u) || later u)) (λ u. (w == u) || ((v == u) || later u)) h (λ u. either (v == u) (w == u) (later u))
      ∙ (one_flush w (λ u. (v == u) || later u) h ∙ ap (λ n. flushed_calls d (λ u. (v == u) || later u) h j + n) (merged (v == w) (later w) (unflushed d h w j)))
  one_flush w later (Target s tree ∷ h) = one_flush w later h
  one_flush w later (Invalidate points ∷ h) = one_flush w later h
  one_flush w later (Snapshot ∷ h) = one_flush w later h
  one_flush w later (Publish n plan ∷ h) = one_flush w later h
  one_flush w later (Install m ∷ h) = one_flush w later h

  moved_hits : (h : List Event) (w : ℕ) → j < length (links d) → hits_of (moved d h w) j ≡ unflushed d h w j
  moved_hits h w inside = hits_counted (unflushed_hits d h w) j ∙ at_number (unflushed d h w) (length (links d)) j inside

  pub total_is : (h : List Event) → j < length (links d) → total_calls d h j ≡ total (records d h) j
  total_is [] inside = refl
  total_is (Call w s a ∷ h) inside = total_is h inside
  total_is (Flush w ∷ h) inside =
      one_flush w (λ v. false) h
      ∙ (ap (λ n. n + unflushed d h w j) (total_is h inside) ∙ ap (λ n. total (records d h) j + n) (sym (moved_hits h w inside)))
  total_is (Target s tree ∷ h) inside = total_is h inside
  total_is (Invalidate points ∷ h) inside = total_is h inside
  total_is (Snapshot ∷ h) inside = total_is h inside
  total_is (Publish n plan ∷ h) inside = total_is h inside
  total_is (Install m ∷ h) inside = total_is h inside
