-- An input that is planned, and maybe swept, and its faults.
use Rattle.std.proofs.Common.{◌≡◌, ◌⊎◌, Bool, true, false, List, ℕ, Option, Some, None, IfSome, inl, inr, length, subst, sym}
use Rattle.mh_network.specs.Problems.{ProblemData}
use Rattle.mh_sweep.specs.declared.sweep.Sweep.{Sweep}
use Rattle.mh_json.specs.Gives.{IsEndOf, no_memory, outside}
use Rattle.mh_json.specs.declared.fault.Fault.{Fault}
use Rattle.mh_text.specs.Output.{IsUnread}
use Rattle.mh_profile.specs.declared.named.NamedProblem.{NamedProblem}
use Rattle.mh_profile.specs.declared.planning.ProfileOptions.{ProfileOptions}
use Rattle.mh_profile.specs.Inputs.{IsProfileFault, IsProfileInput}
use Rattle.mh_profile.specs.Planning.{IsPlanFault}
use Rattle.mh_profile.specs.Sweeps.{IsNotSwept, IsSweepWhere}

-- the fault of an input that is no profile
pub unread_plan : (options : ProfileOptions) (input : Option (List ℕ)) (H : Type 0) (e : Fault) → IsUnread IsProfileFault input H e → IsUnread (IsPlanFault options) input H e
unread_plan options input H e (inl memory) = inl memory
unread_plan options input H e (inr (inl read)) = inr (inl read)
unread_plan options None H e (inr (inr known)) = inr (inr tt)
unread_plan options (Some bytes) H e (inr (inr fault)) = inr (inr (inl fault))

-- the fault of a profile that cannot be swept
pub unswept_plan : (options : ProfileOptions) (input : Option (List ℕ)) (H : Type 0) (n : NamedProblem) (e : Fault) → IfSome input (λ bytes. IsProfileInput bytes n)
    → (e ≡ outside no_memory) ⊎ IsNotSwept options.sweep n e → IsUnread (IsPlanFault options) input H e
unswept_plan options input H n e is (inl memory) = inl memory
unswept_plan options None H n e is (inr large) = inr (inr tt)
unswept_plan options (Some bytes) H n e is (inr large) = inr (inr (inr (n, is, large)))

-- no stream has failed for it
pub unswept_ends : (A B : Type 0) (asked : Bool) (n : NamedProblem) (e : Fault) → (e ≡ outside no_memory) ⊎ IsNotSwept asked n e → IsEndOf A B e.kind
unswept_ends A B asked n e (inl memory) = subst (λ (f : Fault). IsEndOf A B f.kind) (sym memory) tt
unswept_ends A B asked n e (inr large) = subst (λ (f : Fault). IsEndOf A B f.kind) (sym large.2) tt

-- a sweep has a number for each link
pub swept_count : (asked : Bool) (P : ProblemData) (sweep : Option Sweep) → IsSweepWhere asked P sweep → IfSome sweep (λ s. length s.until ≡ length P.links)
swept_count true P (Some s) is = is.count
swept_count true P None is = tt
swept_count false P (Some s) is = cc
swept_count false P None is = tt
