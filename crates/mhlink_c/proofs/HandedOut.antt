-- Handles that are written one behind another.
use Rattle.std.proofs.Common.{◌≡◌, ◌+◌, ◌<◌, ℕ, zero, suc, List, [], ◌∷◌, ◌++◌, ap, arith, length, map, slice_set, subst, sym, take, true, ◌∙◌}
use Rattle.std.specs.List.{All}
use Rattle.std.proofs.lemmas.List.{map-append, take_more_set}
use Rattle.std.proofs.lemmas.List.Elements.{All-append}
use Rattle.mhlink_c.specs.Callers.{HeldCallerState}
use Rattle.mhlink_c.specs.Handles.{AreHandlesOf}
use Rattle.mhlink_c.specs.declared.caller_handle.MhlinkCaller.{MhlinkCaller}

full_one : (h : MhlinkCaller) → h.full ≡ true → All (λ (x : MhlinkCaller). x.full ≡ true) (h ∷ [])
full_one h full zero d lt = full
full_one h full (suc k) d lt = absurd (omega (arith, lt))

-- one more
pub handed_next : (hs : List MhlinkCaller) (i : ℕ) (h : MhlinkCaller) (cs : List HeldCallerState) → i < length hs → h.full ≡ true → AreHandlesOf (take i hs) cs → AreHandlesOf (take (i + 1) (slice_set hs i h)) (cs ++ h.value ∷ [])
handed_next hs i h cs lt full before =
    let value : MhlinkCaller → HeldCallerState = λ x. x.value in
    subst (λ (xs : List MhlinkCaller). AreHandlesOf xs (cs ++ h.value ∷ [])) (sym (take_more_set hs i h lt))
    (record {
      full = All-append (λ (x : MhlinkCaller). x.full ≡ true) (take i hs) (h ∷ []) before.full (full_one h full);
      values = map-append value (take i hs) (h ∷ []) ∙ ap (λ (ys : List HeldCallerState). ys ++ h.value ∷ []) before.values;
    })
