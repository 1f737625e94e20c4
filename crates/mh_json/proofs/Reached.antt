-- Reading a list of steps, as far as it has come.
use Rattle.std.proofs.Common.{◌≡◌, ℕ, ◌+◌, ◌-◌, ◌<◌, ◌≤◌, List, [], ◌∷◌, ◌++◌, length, take, drop, get_or, map, Result, Ok, Err, ◌⊎◌, inl, inr, refl, sym, subst, ap, ◌∙◌, arith}
use Rattle.std.proofs.lemmas.List.{at_drop_more, length-map, length-take-le, map-append, take-append-drop, take-map, take_more}
use Rattle.serde_json.specs.Data.{Data}
use Rattle.serde_json.specs.View.{view}
use Rattle.serde_json.specs.declared.value.Value.{Value}
use Rattle.mh_json.specs.declared.json.declarations.Declarations.{Declarations}
use Rattle.mh_json.specs.declared.fault.Fault.{Fault}
use Rattle.mh_json.specs.declared.json.script.Preamble.{Preamble}
use Rattle.mh_json.specs.declared.json.step.Step.{Step}
use Rattle.mh_json.specs.Gives.{◌>>=◌, at_place, no_memory, GivesUpTo}
use Rattle.mh_json.specs.Script.{preamble_of, step_of, steps_of, step_list_of, script_of, IsNext, IsNextOf, IsReached}
use Rattle.mh_json.specs.Shape.{each_from}
use Rattle.mh_json.proofs.Loop.{with_front}

module _ {A E : Type 0} where
  nothing_in_front : (read : Result (List A) E) → read ≡ with_front [] read
  nothing_in_front (Ok xs) = refl
  nothing_in_front (Err e) = refl

  joined : (r : Result A E) (front rest : Result (List A) E)
      → (r >>= λ x. ((front >>= λ xs. with_front xs rest) >>= λ xs. Ok (x ∷ xs))) ≡ ((r >>= λ x. (front >>= λ xs. Ok (x ∷ xs))) >>= λ xs. with_front xs rest)
  joined (Err e) front rest = refl
  joined (Ok x) (Err e) rest = refl
  joined (Ok x) (Ok xs) (Err e) = refl
  joined (Ok x) (Ok xs) (Ok ys) = refl

module _ {A E : Type 0} (f : ℕ → Data → Result A E) where
  -- the items of two lists, one after the other
  pub each_append : (n : ℕ) (xs ys : List Data) → each_from f n (xs ++ ys) ≡ (each_from f n xs >>= λ front. with_front front (each_from f (n + length xs) ys))
  each_append n [] ys =
      let here : n ≡ n + 0 = omega arith in
      nothing_in_front (each_from f n ys) ∙ ap (λ k. with_front [] (each_from f k ys)) here
  each_append n (d ∷ xs) ys =
      let further : (n + 1) + length xs ≡ n + length (d ∷ xs) = omega arith in
      ap (λ r. f n d >>= λ x. (r >>= λ zs. Ok (x ∷ zs))) (each_append (n + 1) xs ys ∙ ap (λ k. each_from f (n + 1) xs >>= λ front. with_front front (each_from f k ys)) further)
      ∙ joined (f n d) (each_from f (n + 1) xs) (each_from f (n + length (d ∷ xs)) ys)

  -- one item more
  pub each_more : (n k : ℕ) (ds : List Data) (d : Data) (front : List A) (x : A) → each_from f n ds ≡ Ok front → k ≡ n + length ds → f k d ≡ Ok x
      → each_from f n (ds ++ d ∷ []) ≡ Ok (front ++ x ∷ [])
  each_more n k ds d front x before at here =
      let now : f (n + length ds) d ≡ Ok x = ap (λ i. f i d) (sym at) ∙ here in
      each_append n ds (d ∷ []) ∙ rw (before, now) refl

  -- an item that has a fault, whatever comes after it
  pub each_fails : (n k : ℕ) (ds rest : List Data) (d : Data) (front : List A) (e : E) → each_from f n ds ≡ Ok front → k ≡ n + length ds → f k d ≡ Err e
      → each_from f n (ds ++ d ∷ rest) ≡ Err e
  each_fails n k ds rest d front e before at here =
      let now : f (n + length ds) d ≡ Err e = ap (λ i. f i d) (sym at) ∙ here in
      each_append n ds (d ∷ rest) ∙ rw (before, now) refl

-- The steps of the first i values are read, and v is the next.
module _ (declared : Declarations) (values : List Value) (i at : ℕ) (before : List Step) (v : Value)
    (inside : i < length values) (is : v ≡ get_or values i v) (number : at ≡ i + 1) (so_far : steps_of declared (map view (take i values)) ≡ Ok before) where
  abbrev read_at : ℕ → Data → Result Step Fault
  read_at n d = at_place n (step_of declared d)

  abbrev front : List Data
  front = map view (take i values)

  abbrev rest : List Data
  rest = map view (drop (i + 1) values)

  front_length : at ≡ 1 + length front
  front_length = let few : i ≤ length values = omega (arith, inside) in omega (arith, number, length-map (take i values) view, length-take-le i values few)

  -- its fault may have the number
  pub is_next : IsNext declared (map view values) at
  is_next =
      let place : at - 1 ≡ i = omega (arith, number) in
      (before, omega (arith, number), omega (arith, number, inside, length-map values view), rw (place, take-map view i values) so_far)

  -- one step more
  pub reads_more : (step : Step) → read_at at (view v) ≡ Ok step → steps_of declared (map view (take (i + 1) values)) ≡ Ok (before ++ step ∷ [])
  reads_more step here =
      let split : map view (take (i + 1) values) ≡ front ++ view v ∷ [] =
      ap (map view) (take_more values i v inside ∙ ap (λ w. take i values ++ w ∷ []) (sym is)) ∙ map-append view (take i values) (v ∷ []) in
      ap (steps_of declared) split ∙ each_more read_at 1 at front (view v) before step so_far front_length here

  -- its fault is the first
  pub fails_next : (e : Fault) → read_at at (view v) ≡ Err e → steps_of declared (map view values) ≡ Err e
  fails_next e here =
      let split : map view values ≡ front ++ view v ∷ rest =
      ap (map view) (sym (take-append-drop i values) ∙ at_drop_more (λ xs. take i values ++ xs) values i v inside ∙ ap (λ w. take i values ++ w ∷ drop (i + 1) values) (sym is))
      ∙ map-append view (take i values) (v ∷ drop (i + 1) values) in
      ap (steps_of declared) split ∙ each_fails read_at 1 at front rest (view v) before e so_far front_length here

  -- and has it, or memory ran out at its number
  pub step_fails : (e : Fault) → (e ≡ record { kind = no_memory; at = at }) ⊎ (read_at at (view v) ≡ Err e)
      → GivesUpTo {X = List Step} (IsNext declared (map view values)) (Err e) (steps_of declared (map view values))
  step_fails e (inl memory) = inr (inl (ap (λ f. f.kind) memory, subst (IsNext declared (map view values)) (sym (ap (λ f. f.at) memory)) is_next))
  step_fails e (inr here) = inr (inr (fails_next e here))

-- what fails first fails all
pub fails_first : {A B E M : Type 0} (r : Result A E) (f : A → Result B E) (e : E) → M ⊎ (r ≡ Err e) → M ⊎ ((r >>= f) ≡ Err e)
fails_first r f e (inl memory) = inl memory
fails_first r f e (inr fails) = inr (rw fails refl)

-- what fails behind the preamble fails in the script
pub script_fails : (d : Data) (preamble : Preamble) (e : Fault) → preamble_of d ≡ Ok preamble
    → GivesUpTo (IsNextOf preamble.declared d) (Err e) (step_list_of preamble.declared d) → GivesUpTo (IsReached d) (Err e) (script_of d)
script_fails d preamble e is (inl memory) = inl memory
script_fails d preamble e is (inr (inl (memory, reached))) = inr (inl (memory, (preamble, is, reached)))
script_fails d preamble e is (inr (inr first)) = inr (inr (rw (is, first) refl))
