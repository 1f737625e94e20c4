-- The memory of running trees: locals, and the arguments of the sites that they invoke.
use Rattle.std.specs.Prelude.{◌≡◌, ◌≤◌, [], vec_capacity}
use Rattle.mh_run.specs.inner.Limits.{lower_room}
use Rattle.mh_run.specs.declared.levels.Bottom.{Bottom}
use Rattle.mh_run.specs.declared.levels.Level.{Level}

-- there is room for locals and arguments, no arguments are passed, and the level below is ready
pub record IsOpen {B : Type 0} (ready : B → Type 0) (s : Level B) : Type 0 where
  pub room : lower_room ≤ vec_capacity s.locals
  pub passed : s.passed.items ≡ []
  pub wide : 16 ≤ vec_capacity s.passed
  pub below : ready s.below

-- and there are no locals
pub record IsReady {B : Type 0} (ready : B → Type 0) (s : Level B) : Type 0 where
  pub under_way : IsOpen ready s
  pub empty : s.locals.items ≡ []

-- the lowest of all
abbrev pub Bottomless : Bottom → Type 0
Bottomless s = Unit {0}

-- a tree's level and four below it
abbrev pub AreReady : Level (Level (Level (Level (Level Bottom)))) → Type 0
AreReady = IsReady (IsReady (IsReady (IsReady (IsReady Bottomless))))
