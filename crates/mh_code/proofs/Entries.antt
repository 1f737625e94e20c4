-- The entries of rows, where one more row stands behind them.
use Rattle.std.proofs.Common.{◌≡◌, ℕ, suc, ℤ, Bool, true, false, ◌+◌, ◌-◌, ◌<◌, ◌≤◌, refl, ap, sym, subst, ◌∙◌, List, [], ◌∷◌, ◌++◌, length, length-append, arith, if◌then◌else◌}
use Rattle.std.proofs.lemmas.Int.{ints}
use Rattle.std.specs.Prelude.{get_or, Err}
use Rattle.std.specs.Int.Signed.{◌<ℤ◌, ◌≤ℤ◌}
use Rattle.std.specs.List.{insert}
use Rattle.std.specs.Ordering.{int_eq}
use Rattle.std.proofs.Math.Dec.{ltb}
use Rattle.std.proofs.lemmas.Bool.Decides.{Decides-int_eq, Decides-ltb, not_from_Decides}
use Rattle.std.proofs.lemmas.List.{get_or_default}
use Rattle.std.proofs.lemmas.List.Edits.{get_or-insert_at, get_or-insert_below, get_or-insert_above, length-insert}
use Rattle.mh_type.specs.declared.value.Value.{Value}
use Rattle.mh_type.specs.declared.value.Value.TheVariants.{Int}
use Rattle.mh_code.specs.inner.Entries.{AreEntries, AreRising, IsEntry, IsFound}
use Rattle.mh_code.specs.Rows.{is_key, row_of, steps_to, all_steps}
use Rattle.mh_code.specs.declared.index.Entry.{Entry}
use Rattle.mh_code.specs.declared.index.Row.{Row}

either : {P : Type 0} (b : Bool) → (b ≡ true → P) → (b ≡ false → P) → P
either true f g = f refl
either false f g = g refl

row_more_at : (b : Bool) (n m l : ℕ) → (n < l → m ≡ n) → (if b then 0 else 1 + n) < suc l → (if b then 0 else 1 + m) ≡ (if b then 0 else 1 + n)
row_more_at true n m l same h = refl
row_more_at false n m l same h = ap (λ k. 1 + k) (same (omega (arith, h)))

-- what follows changes nothing of a row that is there
row_more : (x : Value) (rs qs : List Row) → row_of x rs < length rs → row_of x (rs ++ qs) ≡ row_of x rs
row_more x [] qs h = absurd (omega (arith, h))
row_more x (q ∷ rs) qs h = row_more_at (is_key x q.key) (row_of x rs) (row_of x (rs ++ qs)) (length rs) (row_more x rs qs) h

steps_more_at : (b : Bool) (n l s t u : ℕ) → (n < l → u ≡ t) → (if b then 0 else 1 + n) < suc l → (if b then s else s + u) ≡ (if b then s else s + t)
steps_more_at true n l s t u same h = refl
steps_more_at false n l s t u same h = ap (λ k. s + k) (same (omega (arith, h)))

steps_more : (x : Value) (rs qs : List Row) → row_of x rs < length rs → steps_to x (rs ++ qs) ≡ steps_to x rs
steps_more x [] qs h = absurd (omega (arith, h))
steps_more x (q ∷ rs) qs h = steps_more_at (is_key x q.key) (row_of x rs) (length rs) q.steps (steps_to x rs) (steps_to x (rs ++ qs)) (steps_more x rs qs) h

row_new_at : (b : Bool) (n m l k : ℕ) → (n ≡ l → m ≡ k) → (if b then 0 else 1 + n) ≡ suc l → (if b then 0 else 1 + m) ≡ suc k
row_new_at true n m l k same h = absurd (omega (arith, h))
row_new_at false n m l k same h = ap (λ i. 1 + i) (same (omega (arith, h))) ∙ omega arith

-- a row that is the first with its int
row_here : (x : Value) (rs : List Row) (r : Row) → is_key x r.key ≡ true → row_of x rs ≡ length rs → row_of x (rs ++ r ∷ []) ≡ length rs
row_here x [] r is h = ap (λ b. if b then 0 else 1) is
row_here x (q ∷ rs) r is h = row_new_at (is_key x q.key) (row_of x rs) (row_of x (rs ++ r ∷ [])) (length rs) (length rs) (row_here x rs r is) h

row_none : (x : Value) (rs : List Row) (r : Row) → is_key x r.key ≡ false → row_of x rs ≡ length rs → row_of x (rs ++ r ∷ []) ≡ length (rs ++ r ∷ [])
row_none x [] r is h = ap (λ b. if b then 0 else 1) is
row_none x (q ∷ rs) r is h = row_new_at (is_key x q.key) (row_of x rs) (row_of x (rs ++ r ∷ [])) (length rs) (length (rs ++ r ∷ [])) (row_none x rs r is) h

steps_new_at : (b : Bool) (n l s t u : ℕ) → (n ≡ l → t ≡ u) → (if b then 0 else 1 + n) ≡ suc l → (if b then s else s + t) ≡ s + u
steps_new_at true n l s t u same h = absurd (omega (arith, h))
steps_new_at false n l s t u same h = ap (λ i. s + i) (same (omega (arith, h)))

-- the steps where no row has the int
pub steps_all : (x : Value) (rs : List Row) → row_of x rs ≡ length rs → steps_to x rs ≡ all_steps rs
steps_all x [] h = refl
steps_all x (q ∷ rs) h = steps_new_at (is_key x q.key) (row_of x rs) (length rs) q.steps (steps_to x rs) (all_steps rs) (steps_all x rs) h

pub all_more : (rs : List Row) (r : Row) → all_steps (rs ++ r ∷ []) ≡ all_steps rs + r.steps
all_more [] r = omega arith
all_more (q ∷ rs) r = omega (arith, all_more rs r)

last_steps : (b : Bool) (s : ℕ) → (if b then s else s + 0) ≡ 0 + s
last_steps true s = omega arith
last_steps false s = omega arith

steps_here : (x : Value) (rs : List Row) (r : Row) → row_of x rs ≡ length rs → steps_to x (rs ++ r ∷ []) ≡ all_steps rs + r.steps
steps_here x [] r h = last_steps (is_key x r.key) r.steps
steps_here x (q ∷ rs) r h =
    steps_new_at (is_key x q.key) (row_of x rs) (length rs) q.steps (steps_to x (rs ++ r ∷ [])) (all_steps rs + r.steps) (steps_here x rs r) h
    ∙ omega arith

-- nothing is an entry yet
pub entries_empty : AreEntries [] []
entries_empty = record {
  rising = λ i j d less below. absurd (omega (arith, below));
  each = λ i d below. absurd (omega (arith, below));
  all = λ k none. refl;
}

entry_more : (rs qs : List Row) (e : Entry) → IsEntry rs e → IsEntry (rs ++ qs) e
entry_more rs qs e h =
    let below : row_of (Int e.key) rs < length rs = subst (λ n. n < length rs) h.row h.there in
    record {
      row = h.row ∙ sym (row_more (Int e.key) rs qs below);
      there = omega (arith, h.there, length-append rs qs);
      steps = h.steps ∙ sym (steps_more (Int e.key) rs qs below);
    }

same_key : (k : ℤ) → int_eq k k ≡ true
same_key k = (Decides-int_eq k k).1 refl

other_key : (k m : ℤ) → (k ≡ m → ⊥) → int_eq k m ≡ false
other_key k m never = either (int_eq k m) (λ is. absurd (never ((Decides-int_eq k m).0 is))) (λ is. is)

-- a row whose int an entry has
pub entries_kept : (rs : List Row) (r : Row) (es : List Entry) (i : ℕ) → AreEntries rs es → i < length es → ((d : Entry) → (get_or es i d).key ≡ r.key) → AreEntries (rs ++ r ∷ []) es
entries_kept rs r es i h below is = record {
  rising = h.rising;
  each = λ j d inside. entry_more rs (r ∷ []) (get_or es j d) (h.each j d inside);
  all = λ k none. row_none (Int k) rs r (other_key k r.key (λ same. none i (record { key = k; row = 0; steps = 0 }) below (is _ ∙ sym same))) (h.all k none);
}

less_not : (x y : ℤ) → x <ℤ y → x ≡ y → ⊥
less_not x y less same = omega (arith, ints, less, same)

-- an element of a list with one put in
at_insert : (es : List Entry) (at : ℕ) (e d : Entry) (k : ℕ) (P : Entry → Type 0) → at ≤ length es → (k < at → P (get_or es k d)) → (k ≡ at → P e) → (at < k → P (get_or es (k - 1) d)) → P (get_or (insert es at e) k d)
at_insert es at e d k P there below here above =
    either (ltb k at)
    (λ is. let less = (Decides-ltb k at).0 is in subst P (sym (get_or-insert_below es at e d k less there)) (below less))
    (λ no. either (ltb at k)
    (λ is.
    let less = (Decides-ltb at k).0 is in
    subst (λ n. P (get_or (insert es at e) n d)) (omega (arith, less))
    (subst P (sym (get_or-insert_above es at e d (k - 1) (omega (arith, less)) there)) (above less)))
    (λ never.
    let same : k ≡ at = omega (arith, not_from_Decides (ltb k at) (Decides-ltb k at) no, not_from_Decides (ltb at k) (Decides-ltb at k) never) in
    subst (λ n. P (get_or (insert es at e) n d)) (sym same) (subst P (sym (get_or-insert_at es at e d there)) (here same))))

rising_put : (es : List Entry) (at : ℕ) (e : Entry) → AreRising es → IsFound es e.key (Err at) → AreRising (insert es at e)
rising_put es at e h found i j d less below =
    let many : length (insert es at e) ≡ length es + 1 = length-insert es at e found.0 in
    let first = λ (k : ℤ) (one : i < at → (get_or es i d).key <ℤ k) (two : i ≡ at → e.key <ℤ k) (three : at < i → (get_or es (i - 1) d).key <ℤ k).
    at_insert es at e d i (λ x. x.key <ℤ k) found.0 one two three in
    at_insert es at e d j (λ y. (get_or (insert es at e) i d).key <ℤ y.key) found.0
    (λ low. first (get_or es j d).key (λ q. h i j d less (omega (arith, low, found.0))) (λ q. absurd (omega (arith, less, low, q))) (λ q. absurd (omega (arith, less, low, q))))
    (λ same. first e.key (λ q. found.1 i d q) (λ q. absurd (omega (arith, less, same, q))) (λ q. absurd (omega (arith, less, same, q))))
    (λ high. first (get_or es (j - 1) d).key
    (λ q. h i (j - 1) d (omega (arith, high, q)) (omega (arith, below, many, high)))
    (λ q. found.2 (j - 1) d (omega (arith, high)) (omega (arith, below, many, high)))
    (λ q. h (i - 1) (j - 1) d (omega (arith, q, less)) (omega (arith, below, many, high))))

-- a row whose int none has
pub entries_put : (rs : List Row) (r : Row) (es : List Entry) (at : ℕ) (e : Entry) → AreEntries rs es → IsFound es r.key (Err at) → e.key ≡ r.key → e.row ≡ length rs → e.steps ≡ all_steps rs + r.steps → AreEntries (rs ++ r ∷ []) (insert es at e)
entries_put rs r es at e h found key row steps =
    let none : row_of (Int r.key) rs ≡ length rs = h.all r.key (λ i d inside is.
    either (ltb i at)
    (λ low. less_not _ _ (found.1 i d ((Decides-ltb i at).0 low)) is)
    (λ no. less_not _ _ (found.2 i d (omega (arith, not_from_Decides (ltb i at) (Decides-ltb i at) no)) inside) (sym is))) in
    let many : length (insert es at e) ≡ length es + 1 = length-insert es at e found.0 in
    let placed : IsEntry (rs ++ r ∷ []) e = record {
      row = row ∙ sym (ap (λ k. row_of (Int k) (rs ++ r ∷ [])) key ∙ row_here (Int r.key) rs r (same_key r.key) none);
      there = omega (arith, row, length-append rs (r ∷ []));
      steps = steps ∙ sym (ap (λ k. steps_to (Int k) (rs ++ r ∷ [])) key ∙ steps_here (Int r.key) rs r none);
    } in
    record {
      rising = rising_put es at e h.rising (subst (λ k. IsFound es k (Err at)) (sym key) found);
      each = λ i d inside. at_insert es at e d i (IsEntry (rs ++ r ∷ [])) found.0
          (λ low. entry_more rs (r ∷ []) (get_or es i d) (h.each i d (omega (arith, low, found.0))))
          (λ same. placed)
          (λ high. entry_more rs (r ∷ []) (get_or es (i - 1) d) (h.each (i - 1) d (omega (arith, high, inside, many))));
      all = λ k no.
          row_none (Int k) rs r (other_key k r.key (λ same. no at e (omega (arith, many, found.0)) (ap (λ (x : Entry). x.key) (get_or-insert_at es at e e found.0) ∙ key ∙ sym same)))
          (h.all k (λ i d inside is. either (ltb i at)
          (λ low. no i d (omega (arith, many, inside)) (ap (λ (x : Entry). x.key) (get_or-insert_below es at e d i ((Decides-ltb i at).0 low) found.0) ∙ is))
          (λ high. no (i + 1) d (omega (arith, many, inside)) (ap (λ (x : Entry). x.key) (get_or-insert_above es at e d i (omega (arith, not_from_Decides (ltb i at) (Decides-ltb i at) high)) found.0) ∙ is))));
    }

-- what is lower than a number, and what is higher, by one element
pub lower_all : (es : List Entry) (k : ℤ) (middle : ℕ) (e : Entry) → AreRising es → middle < length es → (get_or es middle e).key ≤ℤ k → (j : ℕ) (d : Entry) → j < middle → (get_or es j d).key <ℤ k
lower_all es k middle e rising inside h j d below =
    let at : (get_or es middle d).key ≤ℤ k = subst (λ (x : Entry). x.key ≤ℤ k) (get_or_default es middle e d inside) h in
    let less = rising j middle d below inside in
    omega (arith, ints, less, at)

pub higher_all : (es : List Entry) (k : ℤ) (middle : ℕ) (e : Entry) → AreRising es → k <ℤ (get_or es middle e).key → (j : ℕ) (d : Entry) → middle ≤ j → j < length es → k <ℤ (get_or es j d).key
higher_all es k middle e rising h j d above inside =
    let at : k <ℤ (get_or es middle d).key = subst (λ (x : Entry). k <ℤ x.key) (get_or_default es middle e d (omega (arith, above, inside))) h in
    either (ltb middle j)
    (λ is. let less = rising middle j d ((Decides-ltb middle j).0 is) inside in omega (arith, ints, less, at))
    (λ no. subst (λ n. k <ℤ (get_or es n d).key) (omega (arith, above, not_from_Decides (ltb middle j) (Decides-ltb middle j) no)) at)
