-- The things other than its arguments on which the meaning of a tree depends, and the unit of its steps.
use Rattle.std.specs.Prelude.{ℕ, Bool, false, List}
use Rattle.mh_type.specs.declared.value.Value.{Value}
use Rattle.mh_type.specs.declared.value.Value.TheVariants.{Boolean}
use Rattle.mh_type.specs.declared.outcome.Outcome.{Outcome}
use Rattle.mh_type.specs.declared.outcome.Outcome.TheVariants as outcome

-- nodes evaluated
abbrev pub Steps : Type 0
Steps = ℕ

-- the validity of points, by number (`SwitchPoint.hasBeenInvalidated`); and the outcome of an invocation of a site on its arguments
-- (`MutableCallSite.dynamicInvoker`), and the steps of the site's tree for it
pub record Environment : Type 0 where
  pub valid : List Bool
  pub calls : ℕ → List Value → Outcome
  pub call_steps : ℕ → List Value → Steps

-- the environment in which these points are valid, and no site is invoked
abbrev pub with_points : List Bool → Environment
with_points valid = record { valid = valid; calls = λ s a. outcome.Value (Boolean false); call_steps = λ s a. 0 }
