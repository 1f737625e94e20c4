-- The test of whether a site may be invoked, which computes.
use Rattle.std.specs.Prelude.{ℕ, Bool, ◌&&◌, List, length, nat_lt}
use Rattle.mh_type.specs.Signature.{Signature, signature_eq}
use Rattle.mh_tree.specs.Handle.{TypedTree}
use Rattle.mh_tree.specs.Sites.{level_at, target_at}

-- a site whose level is below l, with the type of its tree
abbrev pub may_invoke : List ℕ → List TypedTree → ℕ → ℕ → Signature → Bool
may_invoke levels targets l s n =
    nat_lt s (length targets) && (nat_lt s (length levels) && (nat_lt (level_at levels s) l && signature_eq n (target_at targets s).signature))
