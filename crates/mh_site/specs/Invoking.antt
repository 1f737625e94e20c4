-- The sites of a definition that a tree may invoke: those that exist, of lower levels, with their types.
use Rattle.std.specs.Prelude.{◌≡◌, ◌<◌, ◌≤◌, ℕ, Bool, ◌&&◌, List, length, slice_index_or, nat_le, nat_lt}
use Rattle.mh_type.specs.Signature.{Signature, signature_eq}
use Rattle.mh_tree.specs.Invocations.{EachInvoke, each_invoke}
use Rattle.mh_tree.specs.Limits.{site_bound}
use Rattle.mh_tree.specs.Tree.{Tree}
use Rattle.mh_site.specs.declared.site.Site.{Site}
use Rattle.mh_site.specs.Defined.{no_site}

-- a site that exists, with this type
pub record IsOfType (sites : List Site) (s : ℕ) (n : Signature) : Type 0 where
  pub known : s < length sites
  pub same : n ≡ (slice_index_or sites s no_site).method_type

-- a site that exists, below this level
pub record IsLower (sites : List Site) (l s : ℕ) (n : Signature) : Type 0 where
  pub known : s < length sites
  pub lower : (slice_index_or sites s no_site).level < l

-- each invocation has its site's type
abbrev pub InvokesOfType : List Site → Tree → Type 0
InvokesOfType sites t = EachInvoke (IsOfType sites) t

-- each invocation is of a site below this level
abbrev pub InvokesLower : List Site → ℕ → Tree → Type 0
InvokesLower sites l t = EachInvoke (IsLower sites l) t

-- these facts as tests
abbrev pub is_of_type : List Site → ℕ → Signature → Bool
is_of_type sites s n = nat_lt s (length sites) && signature_eq n (slice_index_or sites s no_site).method_type

abbrev pub is_lower : List Site → ℕ → ℕ → Bool
is_lower sites l s = nat_lt s (length sites) && nat_lt (slice_index_or sites s no_site).level l

abbrev pub invokes_known : List Site → Tree → Bool
invokes_known sites t = nat_le (site_bound t) (length sites)

abbrev pub invokes_of_type : List Site → Tree → Bool
invokes_of_type sites t = each_invoke (is_of_type sites) t

abbrev pub invokes_lower : List Site → ℕ → Tree → Bool
invokes_lower sites l t = each_invoke (λ s n. is_lower sites l s) t
