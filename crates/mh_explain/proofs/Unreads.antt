-- The first key that nothing reads, piece by piece.
use Rattle.std.proofs.Common.{◌≡◌, ℕ, ◌∷◌, [], Option, Some, None, List, refl, ap, sym, ◌∙◌}
use Rattle.serde_json.specs.Data.{Data}
use Rattle.mh_explain.specs.Unread.{Objects, first_along, first_of, or_later}

-- what is found first does not depend on how the looks are joined
pub or_later_assoc : (a b c : Option ℕ) → or_later (or_later a b) c ≡ or_later a (or_later b c)
or_later_assoc (Some n) b c = refl
or_later_assoc None b c = refl

pub or_later_none : (a : Option ℕ) → or_later a None ≡ a
or_later_none (Some n) = refl
or_later_none None = refl

-- a look at objects of one kind, and then at those of the rest
pub joined : (d : Data) (objects : Objects) (rest : List Objects) (before after last : Option ℕ)
    → after ≡ or_later before (first_along objects.keys objects.steps 0 d) → last ≡ or_later after (first_of rest d)
    → last ≡ or_later before (first_of (objects ∷ rest) d)
joined d objects rest before after last e f =
    f ∙ ap (λ found. or_later found (first_of rest d)) e ∙ or_later_assoc before (first_along objects.keys objects.steps 0 d) (first_of rest d)

-- and at none
pub joined_none : (d : Data) (found : Option ℕ) → found ≡ or_later found (first_of [] d)
joined_none d found = sym (or_later_none found)
