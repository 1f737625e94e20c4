-- No two names are the same where each is another than those before it.
use Rattle.std.proofs.Common.{◌≡◌, ◌≢◌, ℕ, ◌<◌, List, length, map, take, slice_index_or, ap, sym, ◌∙◌, arith}
use Rattle.std.specs.List.{All}
use Rattle.std.proofs.lemmas.List.{length-map, length-take-le, get_or-take, get_or-map}
use Rattle.mh_site.specs.Lawful.{AreDistinct}

module _ {X : Type 0} (name : X → List ℕ) where
  pub distinct : (xs : List X) (e : X) → ((j : ℕ) → j < length xs → All (λ x. name (slice_index_or xs j e) ≢ name x) (take j xs))
      → AreDistinct (map name xs)
  distinct xs e new i j d lt within =
      let inside : j < length xs = omega (arith, length-map xs name) in
      let before : i < length (take j xs) = omega (arith, length-take-le j xs (omega arith)) in
      let first : slice_index_or (map name xs) i d ≡ name (slice_index_or (take j xs) i e) =
      get_or-map name xs i e d (omega arith) ∙ ap name (sym (get_or-take j xs i e lt)) in
      let second : slice_index_or (map name xs) j d ≡ name (slice_index_or xs j e) = get_or-map name xs j e d inside in
      λ same. new j inside i e before (sym second ∙ (sym same ∙ first))
