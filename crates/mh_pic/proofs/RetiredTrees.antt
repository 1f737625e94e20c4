-- A tree without some points is sound and declared where its tree is.
use Rattle.std.proofs.Common.{◌≡◌, ◌∙◌, ℕ, List, arith, Ok, false, sym}
use Rattle.mh_type.specs.Signature.{Signature}
use Rattle.mh_tree.specs.Constructors.{declared_made}
use Rattle.mh_tree.specs.Handle.{TypedTree, IsDeclared, IsSound}
use Rattle.mh_tree.specs.Tree.{Tree}
use Rattle.mh_tree.specs.Laws.Tests.{at_most}
use Rattle.mh_pic.specs.Specialised.{retired, retired_tree}
use Rattle.mh_pic.specs.Laws.Bounds.{resolved_depth, resolved_size}
use Rattle.mh_pic.specs.Laws.Kept.{resolved_typed}

pub retired_sound : (ps : List ℕ) (t : Tree) (m : Signature) → IsSound t m → IsSound (retired ps t) m
retired_sound ps t m sound = record {
  typed = resolved_typed false ps t m sound.typed;
  shallow = omega (arith, resolved_depth false ps t, sound.shallow);
  small = omega (arith, resolved_size false ps t, sound.small);
}

pub retired_declared : (ps : List ℕ) (h : TypedTree) → IsDeclared h → IsDeclared (retired_tree ps h)
retired_declared ps h declared = record {
  shallow = omega (arith, resolved_depth false ps h.tree, declared.shallow);
  small = omega (arith, resolved_size false ps h.tree, declared.small);
}

-- a tree within the limits passes their tests
declared_passes : (h : TypedTree) → IsDeclared h → declared_made h ≡ Ok h
declared_passes h declared = at_most _ _ _ _ _ declared.shallow ∙ at_most _ _ _ _ _ declared.small

pub declared_is : (h d : TypedTree) → IsDeclared h → declared_made h ≡ Ok d → d ≡ h
declared_is h d declared made =
    let same : Ok d ≡ Ok h = sym made ∙ declared_passes h declared in
    cc
