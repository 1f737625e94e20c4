-- The answers, counts and refusals of a call of a pass.
use Rattle.std.specs.Prelude.{ℕ, ◌≡◌, ◌⊎◌, ◌<◌, ◌≤◌, true, List, ◌∷◌, length}
use Rattle.mh_type.specs.Fits.{Fits}
use Rattle.mh_type.specs.declared.value.Value.{Value}
use Rattle.mh_tree.specs.Meaning.{mean, steps}
use Rattle.mh_eval.specs.Entered.{EntersPlain}
use Rattle.mh_ledger.specs.Ledgers.{LedgerState, at}
use Rattle.mh_site.specs.Defined.{DefinitionData, site_at}
use Rattle.mh_site.specs.Worlds.{environment_of_bases, environment_of_links, linked_sites, state_at}
use Rattle.mh_site.specs.declared.control.Control.{Control}
use Rattle.mh_core.specs.Hits.{hits}
use Rattle.mh_live.specs.Passes.{PassState}
use Rattle.mh_live.specs.Rules.{world_after}
use Rattle.mh_live.specs.declared.call_fault.CallFault.{CallFault}
use Rattle.mh_live.specs.declared.call_fault.CallFault.TheVariants.{NoSite, WrongType, LedgerFull, NotEntered, NoMemory}
use Rattle.mh_live.specs.declared.pass.PassAnswer.{PassAnswer}

-- all tests pass: the site exists, the arguments fit, and the ledger has room if the call hits a link
pub record MayCall (d : DefinitionData) (l : LedgerState) (s : ℕ) (a : List Value) : Type 0 where
  pub inside : s < length d.sites
  pub fits : Fits (site_at d s).method_type a
  pub room : (j : ℕ) → hits d s a j ≡ true → at l.unflushed j < l.limit

-- the answer by the world after one list of controls, also of each tree that is invoked: what the base tree means over base trees, the
-- number of nodes evaluated of the linked tree and of linked trees that it invokes, and the length of the list
pub record AnswersBy (d : DefinitionData) (controls : List Control) (s : ℕ) (a : List Value) (answer : PassAnswer) : Type 0 where
  pub value : let w = world_after d controls in answer.outcome ≡ mean (environment_of_bases w) (state_at w s).base.tree a
  pub entered : let w = world_after d controls in answer.steps ≡ steps (environment_of_links w) (state_at w s).linked.tree a
  pub count : answer.front ≡ length controls

-- a call is refused by the first test that fails, or for one of the last two reasons if none fails
abbrev pub RefusesCall : DefinitionData → LedgerState → ℕ → List Value → CallFault → Type 0
RefusesCall d l s a NoSite = length d.sites ≤ s
RefusesCall d l s a WrongType = (s < length d.sites) × (Fits (site_at d s).method_type a → ⊥)
RefusesCall d l s a LedgerFull = (s < length d.sites) × Fits (site_at d s).method_type a × ((j : ℕ) × (hits d s a j ≡ true) × (at l.unflushed j ≡ l.limit))
RefusesCall d l s a NotEntered = MayCall d l s a
RefusesCall d l s a NoMemory = MayCall d l s a

-- it was refused before a world was entered
abbrev pub IsUntried : CallFault → Type 0
IsUntried NotEntered = ⊥
IsUntried NoMemory = ⊥
IsUntried _ = Unit {0}

-- no world was entered, or one that is behind what the pass had seen, and nothing of it is kept
abbrev pub IsKeptOut : PassState → PassState → Type 0
IsKeptOut old new = (new ≡ old) ⊎ ((behind : List Control) × (length behind < length old.seen) × (new ≡ record old { entered = behind ∷ old.entered }))

-- by the world after these controls no node with String in its type is evaluated, also in invoked trees, so that nothing is allocated
abbrev pub TakesNoMemory : DefinitionData → List Control → ℕ → List Value → Type 0
TakesNoMemory d controls s a = let w = world_after d controls in EntersPlain (linked_sites w) (state_at w s).linked.tree a
