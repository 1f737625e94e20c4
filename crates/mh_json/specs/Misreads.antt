-- Why a part of an input could not be read, and its place.
use Rattle.std.specs.Prelude.{List, [], ◌∷◌, Option, Some, None, Result, Ok, Err, reverse, Vec}
use Rattle.mh_json.specs.declared.fault.InputFault.{InputFault}
use Rattle.mh_json.specs.declared.key.Key.{Key}
use Rattle.mh_json.specs.declared.misread.Misread.TheInside.{Inside}
use Rattle.std.specs.Global.{Global}

-- a fault, and the keys that lead to the part that has it
pub record MisreadData : Type 0 where
  pub fault : InputFault
  pub path : List Key

-- the fault of a part as a whole
abbrev pub here : InputFault → MisreadData
here e = record { fault = e; path = [] }

-- the same with a further key, that of the part in the value that contains it
abbrev pub behind : Key → MisreadData → MisreadData
behind key m = record { fault = m.fault; path = key ∷ m.path }

-- the fault of a reading, if it has one
abbrev pub err_of : {A : Type 0} → Result A MisreadData → Option MisreadData
err_of (Ok x) = None
err_of (Err m) = Some m

-- the reading of the member at a key
abbrev pub under : {A : Type 0} → Key → Result A MisreadData → Result A MisreadData
under key (Ok x) = Ok x
under key (Err m) = Err (behind key m)

-- the keys that a misread keeps, which it has from the innermost out
abbrev pub path_of : Option (Vec Key Global) → List Key
path_of None = []
path_of (Some keys) = reverse keys.items

-- a misread as plain data
abbrev pub misread_data : Inside → MisreadData
misread_data m = record { fault = m.fault; path = path_of m.keys }
