-- One list of values after another on a stack.
use Rattle.std.proofs.Common.{◌≡◌, ℕ, suc, drop-drop, ◌+◌, ◌≤◌, ◌<◌, ◌∙◌, ap, sym, subst, refl, arith, List, [], ◌∷◌, ◌++◌, take, drop, length, length-append, length-take, Result, Ok, Err, false}
use Rattle.std.proofs.Math.Seq.{take-append_seam, take-suc, drop_at, drop-append_seam, take-length}
use Rattle.std.proofs.lemmas.List.{append_assoc, take-append-drop, append-nil, get_or-drop, get_or-take, drop-take}
use Rattle.mh_type.specs.declared.value.Value.{Value}
use Rattle.mh_type.specs.declared.value.Value.TheVariants.{Boolean}
use Rattle.mh_tree.specs.Meaning.{argument, put_in, taken_out}
use Rattle.mh_tree.specs.Laws.{argument_more}
use Rattle.mh_eval.specs.Quiet.{NoTexts}
use Rattle.mh_eval.specs.Frames.{Extends}
use Rattle.mh_eval.proofs.QuietTrees.{texts_at, texts_take, texts_drop}

pub front_texts : (xs ys : List Value) → NoTexts (xs ++ ys) → NoTexts xs
front_texts xs ys h = subst NoTexts (take-append_seam xs ys) (texts_take (length xs) (xs ++ ys) h)

pub back_texts : (xs ys : List Value) → NoTexts (xs ++ ys) → NoTexts ys
back_texts xs ys h = subst NoTexts (drop-append_seam xs ys) (texts_drop (length xs) (xs ++ ys) h)

-- what stands below what stays stays
stays : (old xs mid new : List Value) → mid ≡ old ++ xs → take (length mid) new ≡ mid → take (length old) new ≡ old
stays old xs mid new is kept =
    let whole : new ≡ old ++ (xs ++ drop (length mid) new) =
    sym (take-append-drop (length mid) new) ∙ ap (λ (l : List Value). l ++ drop (length mid) new) (kept ∙ is) ∙ append_assoc old xs (drop (length mid) new) in
    ap (take (length old)) whole ∙ take-append_seam old (xs ++ drop (length mid) new)

module _ (old all mid new : List Value) (i c d f : ℕ) (x : Value) (inside : i < length all) (so_far : mid ≡ old ++ take i all) (grown : c ≤ d) (is : x ≡ argument all i) where
  -- one value more
  pub goes : {A E : Type 0} (r : A) → Extends {A = A} {E = E} (Ok r) mid new (x ∷ []) d f → new ≡ old ++ take (i + 1) all
  goes r h =
      let next : suc i ≡ i + 1 = omega arith in
      h.value ∙ ap (λ (l : List Value). l ++ x ∷ []) so_far ∙ append_assoc old (take i all) (x ∷ [])
      ∙ ap (λ (l : List Value). old ++ l) (ap (λ y. take i all ++ y ∷ []) is ∙ sym (take-suc all i (Boolean false) inside) ∙ ap (λ k. take k all) next)

  -- or none
  pub stops : {A B E F : Type 0} (e : E) (e' : F) → Extends {A = A} {E = E} (Err e) mid new (x ∷ []) d f → Extends {A = B} {E = F} (Err e') old new all c f
  stops e e' h = record {
    value = tt;
    kept = stays old (take i all) mid new so_far h.kept;
    room = omega (arith, h.room);
    quiet = λ texts few.
        let many : length mid ≡ length old + length (take i all) = ap (λ (l : List Value). length l) so_far ∙ length-append old (take i all) in
        h.quiet (subst NoTexts (ap (λ y. y ∷ []) (sym is)) (texts_at i all texts, tt)) (omega (arith, many, length-take i all));
  }

-- a value below what was put on a stack
pub argument_above : (xs old mid : List Value) (place : ℕ) → mid ≡ old ++ xs → place < length old → argument mid place ≡ argument old place
argument_above xs old mid place is inside = ap (λ l. argument l place) is ∙ argument_more old xs place inside

-- a value between two places
pub argument_between : (old : List Value) (first end i : ℕ) → first + i < end → argument (drop first (take end old)) i ≡ argument old (first + i)
argument_between old first end i inside = get_or-drop first (take end old) i (Boolean false) ∙ get_or-take end old (first + i) (Boolean false) inside

-- one value
pub one_copy : (old : List Value) (place : ℕ) → place < length old → drop place (take (place + 1) old) ≡ argument old place ∷ []
one_copy old place inside =
    let next : suc place ≡ place + 1 = omega arith in
    let many : length (take place old) ≡ place = omega (arith, length-take place old) in
    ap (λ n. drop place (take n old)) (sym next) ∙ ap (drop place) (take-suc old place (Boolean false) inside)
    ∙ drop_at (take place old) (argument old place ∷ []) place many

-- nothing
pub nothing : {A E : Type 0} (r : A) (old : List Value) (c : ℕ) → Extends {A = A} {E = E} (Ok r) old old [] c c
nothing r old c = record { value = sym (append-nil old); kept = take-length old; room = omega arith; quiet = λ texts few. refl }

module _ (old mid new xs ys : List Value) (c d f : ℕ) where
  -- more after the first
  pub then_more : {A B E F : Type 0} (a : A) (r : Result B F) → Extends {A = A} {E = E} (Ok a) old mid xs c d → Extends r mid new ys d f → Extends r old new (xs ++ ys) c f
  then_more a (Ok b) h k = record {
    value = k.value ∙ ap (λ (l : List Value). l ++ ys) h.value ∙ append_assoc old xs ys;
    kept = stays old xs mid new h.value k.kept;
    room = omega (arith, h.room, k.room);
    quiet = λ texts few. refl;
  }
  then_more a (Err e) h k = record {
    value = tt;
    kept = stays old xs mid new h.value k.kept;
    room = omega (arith, h.room, k.room);
    quiet = λ texts few.
        let many : length mid ≡ length old + length xs = ap (λ (l : List Value). length l) h.value ∙ length-append old xs in
        k.quiet (back_texts xs ys texts) (omega (arith, many, h.room, length-append xs ys));
  }

-- the first was refused
pub no_more_after : {A B E F : Type 0} (old mid xs ys : List Value) (c d : ℕ) (e : E) (e' : F) → Extends {A = A} {E = E} (Err e) old mid xs c d → Extends {A = B} {E = F} (Err e') old mid (xs ++ ys) c d
no_more_after old mid xs ys c d e e' h = record {
  value = tt;
  kept = h.kept;
  room = h.room;
  quiet = λ texts few. h.quiet (front_texts xs ys texts) (omega (arith, length-append xs ys));
}

-- the values from a place on, below what was put on a stack
pub rest_of : (old xs mid : List Value) (from k end : ℕ) → end ≡ length old → mid ≡ old ++ xs → drop (from + k) (take end mid) ≡ drop k (drop from old)
rest_of old xs mid from k end whole is =
    ap (drop (from + k)) (ap (take end) is ∙ ap (λ n. take n (old ++ xs)) whole ∙ take-append_seam old xs)
    ∙ sym (drop-drop k from old)

-- all of them
pub rest_first : (old xs mid : List Value) (from end : ℕ) → end ≡ length old → mid ≡ old ++ xs → drop from (take end mid) ≡ drop from old
rest_first old xs mid from end whole is = ap (drop from) (ap (take end) is ∙ ap (λ n. take n (old ++ xs)) whole ∙ take-append_seam old xs)

-- what was put on the top
pub top_of : (old xs mid : List Value) (base : ℕ) → base ≡ length old → mid ≡ old ++ xs → drop base mid ≡ xs
top_of old xs mid base whole is = ap (drop base) is ∙ ap (λ n. drop n (old ++ xs)) whole ∙ drop-append_seam old xs

-- put in, part by part
pub parts_put_in : (old xs : List Value) (from p : ℕ) → (drop from (take (from + p) old) ++ xs) ++ drop p (drop from old) ≡ put_in (drop from old) p xs
parts_put_in old xs from p =
    append_assoc (drop from (take (from + p) old)) xs (drop p (drop from old)) ∙ ap (λ (l : List Value). l ++ (xs ++ drop p (drop from old))) (drop-take from p old)

-- taken out, part by part
pub parts_taken_out : (old : List Value) (from p n : ℕ) → drop from (take (from + p) old) ++ drop (p + n) (drop from old) ≡ taken_out (drop from old) p n
parts_taken_out old from p n = ap (λ (l : List Value). l ++ drop (p + n) (drop from old)) (drop-take from p old)
