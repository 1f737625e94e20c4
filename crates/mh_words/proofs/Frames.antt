-- Frames that agree with what is known, after a slot is written and a local is put.
use Rattle.std.proofs.Common.{◌≡◌, false, ℕ, zero, suc, ◌<◌, ◌≤◌, ◌≢◌, List, [], ◌∷◌, ◌++◌, length, take, get_or, refl, ap, sym, ◌∙◌, subst, arith, get_or-set_other, get_or-set_same}
use Rattle.std.specs.Prelude.{ℤ, pos, slice_set}
use Rattle.std.proofs.lemmas.List.{get_or-map, length-set}
use Rattle.mh_type.specs.declared.kind.Kind.{Kind}
use Rattle.mh_type.specs.declared.kind.Kind.TheVariants as kind
use Rattle.mh_type.specs.declared.value.Value.{Value}
use Rattle.mh_type.specs.declared.value.Value.TheVariants.{Int, Long, Boolean, Text}
use Rattle.mh_type.specs.Fits.{Fits}
use Rattle.mh_type.specs.Kinds.{kind_of}
use Rattle.mh_type.specs.Signature.{Signature}
use Rattle.mh_tree.specs.Laws.{call_count}
use Rattle.mh_tree.specs.Meaning.{argument}
use Rattle.mh_code.specs.inner.Runs.{put}
use Rattle.mh_words.specs.Holds.{Holds, IsHeld}
use Rattle.mh_words.specs.Running.{word_at}
use Rattle.mh_words.specs.Values.{IsWord, value_of_word}
use Rattle.mh_words.specs.inner.Agrees.{Agrees, AllBelow, AreKnown, HasWord, IsBelow, IsKnown, input_word}
use Rattle.mh_words.specs.declared.input.Input.{Input}
use Rattle.mh_words.specs.declared.input.Input.TheVariants.{Read, Constant}
use Rattle.mh_words.specs.declared.known.Known.{Known}
use Rattle.mh_words.specs.declared.slot.Slot.{Slot}
use Rattle.mh_words.proofs.WordValues.{has_word}

pub known_at : (f : List ℤ) (ks : List Known) (l : List Value) (i : ℕ) (k : Known) → i < length ks → k ≡ get_or ks i k → AreKnown f ks l → IsKnown f k (argument l i)
known_at f [] l i k inside e h = absurd (omega arith)
known_at f (j ∷ ks) [] i k inside e h = absurd h
known_at f (j ∷ ks) (x ∷ l) zero k inside e h = subst (λ (y : Known). IsKnown f y x) (sym e) h.0
known_at f (j ∷ ks) (x ∷ l) (suc i) k inside e h = known_at f ks l i k (omega arith) e h.1

taken : (f : List ℤ) (i : ℕ) (ks : List Known) (l : List Value) → AreKnown f ks l → AreKnown f (take i ks) (take i l)
taken f zero ks l h = tt
taken f (suc i) [] [] h = tt
taken f (suc i) [] (x ∷ l) h = absurd h
taken f (suc i) (k ∷ ks) [] h = absurd h
taken f (suc i) (k ∷ ks) (x ∷ l) h = (h.0, taken f i ks l h.1)

appended : (f : List ℤ) (ks : List Known) (l : List Value) (k : Known) (x : Value) → AreKnown f ks l → IsKnown f k x → AreKnown f (ks ++ k ∷ []) (l ++ x ∷ [])
appended f [] [] k x h g = (g, tt)
appended f [] (y ∷ l) k x h g = absurd h
appended f (j ∷ ks) [] k x h g = absurd h
appended f (j ∷ ks) (y ∷ l) k x h g = (h.0, appended f ks l k x h.1 g)

word_unchanged : (f : List ℤ) (n i : ℕ) (w : ℤ) → i < n → word_at (slice_set f n w) i ≡ word_at f i
word_unchanged f n i w h = let other : i ≢ n = omega arith in get_or-set_other f n i w (pos 0) other

input_unchanged : (f : List ℤ) (n : ℕ) (w : ℤ) (j : Input) → IsBelow n j → input_word (slice_set f n w) j ≡ input_word f j
input_unchanged f n w (Read s) h = word_unchanged f n s.place w h
input_unchanged f n w (Constant m) h = refl

unchanged : (f : List ℤ) (n : ℕ) (w : ℤ) (ks : List Known) (l : List Value) → AllBelow n ks → AreKnown f ks l → AreKnown (slice_set f n w) ks l
unchanged f n w [] [] h g = tt
unchanged f n w [] (x ∷ l) h g = absurd g
unchanged f n w (k ∷ ks) [] h g = absurd g
unchanged f n w (k ∷ ks) (x ∷ l) h g = (subst (HasWord k.kind x) (sym (input_unchanged f n w k.input h.0)) g.0, unchanged f n w ks l h.1 g.1)

few_arguments : (m : Signature) (a : List Value) → Fits m a → length m.parameters ≤ 16 → length a ≤ 16
few_arguments m a fits few = omega (arith, call_count m a fits)

held_unchanged : (a : List Value) (f : List ℤ) (n : ℕ) (w : ℤ) → length a ≤ n → Holds a f → Holds a (slice_set f n w)
held_unchanged a f n w few h = record {
  room = length-set f n w ∙ h.room;
  arguments = λ i inside. subst (IsHeld (argument a i)) (sym (word_unchanged f n i w (omega arith))) (h.arguments i inside);
}

-- a word is written into a slot that nothing known reads, and its value becomes a local
pub agrees_kept : (m : Signature) (ks : List Known) (a l : List Value) (f : List ℤ) (i : ℕ) (k : Kind) (s : Slot) (w : ℤ) → Agrees m ks a l f → AllBelow s.place (take i ks) → 16 ≤ s.place → s.place < 64 → IsWord (value_of_word k w) w → Agrees m (take i ks ++ record { kind = k; input = Read s } ∷ []) a (put l i (value_of_word k w)) (slice_set f s.place w)
agrees_kept m ks a l f i k s w h free behind inside is = record {
  fits = h.fits;
  few = h.few;
  held = held_unchanged a f s.place w (omega (arith, few_arguments m a h.fits h.few)) h.held;
  locals =
      let there : s.place < length f = omega (arith, h.held.room) in
      let written : word_at (slice_set f s.place w) s.place ≡ w = get_or-set_same f s.place w (pos 0) there in
      appended (slice_set f s.place w) (take i ks) (take i l) _ _
      (unchanged f s.place w (take i ks) (take i l) free (taken f i ks l h.locals))
      (subst (HasWord k (value_of_word k w)) (sym written) (has_word k w is));
}

-- a known word's value becomes a local
pub agrees_copied : (m : Signature) (ks : List Known) (a l : List Value) (f : List ℤ) (i : ℕ) (k : Kind) (j : Input) → Agrees m ks a l f → IsWord (value_of_word k (input_word f j)) (input_word f j) → Agrees m (take i ks ++ record { kind = k; input = j } ∷ []) a (put l i (value_of_word k (input_word f j))) f
agrees_copied m ks a l f i k j h is = record {
  fits = h.fits;
  few = h.few;
  held = h.held;
  locals = appended f (take i ks) (take i l) _ _ (taken f i ks l h.locals) (has_word k (input_word f j) is);
}

no_text : (x : Value) (w : ℤ) → IsHeld x w → (kind_of x ≡ kind.Text → ⊥) → IsWord x w
no_text (Int n) w h other = h
no_text (Long n) w h other = h
no_text (Boolean b) w h other = h
no_text (Text t) w h other = absurd (other refl)

-- an argument that is not a text
pub argument_known : (m : Signature) (ks : List Known) (a l : List Value) (f : List ℤ) (i : ℕ) (k : Kind) → i < length m.parameters → k ≡ get_or m.parameters i k → (k ≡ kind.Text → ⊥) → Agrees m ks a l f → HasWord k (argument a i) (word_at f i)
argument_known m ks a l f i k inside is other h =
    let there : i < length a = omega (arith, call_count m a h.fits) in
    let same : kind_of (argument a i) ≡ k = sym (get_or-map kind_of a i (Boolean false) k there) ∙ ap (λ (js : List Kind). get_or js i k) h.fits ∙ sym is in
    (same, no_text (argument a i) (word_at f i) (h.held.arguments i there) (λ e. other (sym same ∙ e)))
